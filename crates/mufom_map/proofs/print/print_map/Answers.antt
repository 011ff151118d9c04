use Rattle.std.proofs.Common.{subst}
use Rattle.std.specs.Prelude.{OnOk}
use Rattle.mufom_host.specs.World.{GrowsBy, GrowsByPrefix}
use Rattle.mufom_map.specs.Mapped.{Mapped}
use Rattle.mufom_map.specs.MapText.{map_text}
use Rattle.mufom_origins.specs.Words.{all_files}
use Rattle.mufom_map.proofs.print.print_map.Goals as goal

pub returns-clause-done : goal.returns-clause-done
returns-clause-done g c =
    subst (λ (m : Mapped). OnOk c.print_lines.result
    (GrowsBy (g.H.World.meaning c.args.host.now).out (g.H.World.meaning c.print_lines.new.host).out (map_text (all_files c.args.names.now) m)))
    c.in-Ok.ensures c.print_lines.ensures.done

pub returns-clause-fault : goal.returns-clause-fault
returns-clause-fault g c = λ failed.
    let prefix = c.print_lines.ensures.fault failed in (
      subst (λ (m : Mapped). GrowsByPrefix (g.H.World.meaning c.args.host.now).out (g.H.World.meaning c.print_lines.new.host).out
          (map_text (all_files c.args.names.now) m))
          c.in-Ok.ensures prefix.0,
      prefix.1,
    )
