use Rattle.std.proofs.Common.{◌≡◌, ◌∙◌, List, ℕ, [], ◌∷◌, sym, ap, subst}
use Rattle.std.specs.Prelude.{find}
use Rattle.mufom_module.specs.declared.module.Parts.{Parts}
use Rattle.mufom_plan.specs.Names.{has_name, symbol_names}
use Rattle.mufom_link.specs.Conditions.{MayBeLinked}
use Rattle.mufom_link.specs.Refusals.{IsRefusalOf}
use Rattle.mufom_meaning.specs.Flat.{public_names}
use Rattle.mufom_meaning.specs.Joined.{IsJoined}
use Rattle.mufom_meaning.specs.LinkAnswer.{link_answer}
use Rattle.mufom_meaning.specs.Staging.{AreValid}
use Rattle.mufom_planned.proofs.SymbolsModule.{symbols_valid}
use Rattle.mufom_locating.specs.Linked.{symbols_behind}
use Rattle.mufom_locating.proofs.LinkLaws.{may-be-linked, refusal-shared}
use Rattle.mufom_locating.proofs.symbols.linked_with.Goals as goal

pub link_owned-requires : goal.link_owned-requires
link_owned-requires c =
    let m = c.args.module.now in
    let numbers = c.requires.values.numbers in
    let list = c.in_ok-list.ensures numbers c.requires.values.are in
    let name = c.as_slice.ensures ∙ ap (λ (p : Parts). p.name) c.parts.ensures.same in
    subst (λ ms. MayBeLinked ms c.as_slice.result.now) (sym list)
    (subst (MayBeLinked (symbols_behind m numbers c.args.symbols.now)) (sym name)
    (may-be-linked m numbers c.args.symbols.now c.parts.ensures.valid c.requires.short c.requires.light))

pub returns-in-Ok-clause-joined : goal.returns-in-Ok-clause-joined
returns-in-Ok-clause-joined c = λ numbers are.
    let m = c.args.module.now in
    let symbols = c.args.symbols.now in
    let M = c.in-Ok.link in
    let list = c.in_ok-list.ensures numbers are in
    let name = c.as_slice.ensures ∙ ap (λ (p : Parts). p.name) c.parts.ensures.same in
    let valid = c.parts.ensures.valid in
    let joined : IsJoined M (symbols_behind m numbers symbols) m.name = subst (IsJoined M (symbols_behind m numbers symbols)) name
    (subst (λ ms. IsJoined M ms c.as_slice.result.now) list c.in-Ok.ensures.joined) in
    let may = may-be-linked m numbers symbols valid c.requires.short c.requires.light in
    record {
      source = valid;
      joined = joined;
      links = ap link_answer (sym list) ∙ c.in-Ok.ensures.linkable;
      valid = (c.joined_is_valid.ensures M (symbols_behind m numbers symbols) m.name joined
          (valid, (symbols_valid m valid numbers symbols c.requires.short, tt))).valid may.short may.light;
    }

pub returns-in-Err-clause-refused : goal.returns-in-Err-clause-refused
returns-in-Err-clause-refused c =
    let m = c.args.module.now in
    let numbers = c.requires.values.numbers in
    let list = c.in_ok-list.ensures numbers c.requires.values.are in
    c.refused.ensures (find (has_name (public_names (m ∷ []))) (symbol_names c.args.symbols.now))
    (refusal-shared m c.requires.names numbers c.args.symbols.now c.requires.distinct c.in-Err.refusal
    (subst (λ ms. IsRefusalOf ms c.in-Err.refusal) list c.in-Err.ensures.refused))
