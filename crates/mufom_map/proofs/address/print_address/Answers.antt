use Rattle.std.proofs.Common.{◌≡◌, ◌∷◌, [], subst}
use Rattle.std.specs.Prelude.{OnOk}
use Rattle.mufom_host.specs.World.{GrowsBy, GrowsByPrefix}
use Rattle.mufom_text.specs.Words.{Text}
use Rattle.mufom_map.specs.Mapped.{mapped_by, planned_layout}
use Rattle.mufom_map.specs.MapText.{address_text, spot_text}
use Rattle.mufom_map.specs.ShownMap.{publics_of, sections_of}
use Rattle.mufom_map.proofs.address.print_address.Goals as goal

pub returns-clause-done : goal.returns-clause-done
returns-clause-done g c =
    let h = c.in-Ok.ensures in
    let text : spot_text c.in-Ok.entries.maus c.args.address (sections_of c.in-Ok.entries) (publics_of c.in-Ok.entries)
    ≡ address_text c.args.address (mapped_by c.args.origins.now (planned_layout (c.args.module.now ∷ []) c.args.plan.now) c.args.located.now)
    = λ i. spot_text (h.maus i) c.args.address (h.sections i) (h.publics i) in
    subst (λ (t : Text). OnOk c.print_lines.result
    (GrowsBy (g.H.World.meaning c.args.host.now).out (g.H.World.meaning c.print_lines.new.host).out t)) text c.print_lines.ensures.done

pub returns-clause-fault : goal.returns-clause-fault
returns-clause-fault g c = λ failed.
    let h = c.in-Ok.ensures in
    let text : spot_text c.in-Ok.entries.maus c.args.address (sections_of c.in-Ok.entries) (publics_of c.in-Ok.entries)
    ≡ address_text c.args.address (mapped_by c.args.origins.now (planned_layout (c.args.module.now ∷ []) c.args.plan.now) c.args.located.now)
    = λ i. spot_text (h.maus i) c.args.address (h.sections i) (h.publics i) in
    let prefix = c.print_lines.ensures.fault failed in (
      subst (λ (t : Text). GrowsByPrefix (g.H.World.meaning c.args.host.now).out (g.H.World.meaning c.print_lines.new.host).out t) text prefix.0,
      prefix.1,
    )
