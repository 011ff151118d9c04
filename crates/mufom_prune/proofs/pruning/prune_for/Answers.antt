use Rattle.std.proofs.Common.{◌<◌, ◌≤◌, ◌^◌, ap, sym, subst, ◌∙◌, length}
use Rattle.mufom_module.specs.declared.module.Parts.{Parts}
use Rattle.mufom_module.specs.Defects.{IsValid}
use Rattle.mufom_module.specs.Written.{weight}
use Rattle.mufom_prune.specs.Kept.{IsKeptFor}
use Rattle.mufom_prune.specs.Pruned.{remains, without_others}
use Rattle.mufom_prune.specs.Steps.{entry_count}
use Rattle.mufom_prune.proofs.NeedLaws.{few_entries, length-needs}
use Rattle.mufom_prune.proofs.PrunedValid.{pruned_valid}
use Rattle.mufom_prune.proofs.PrunedWeight.{pruned_weighs}
use Rattle.mufom_prune.proofs.pruning.prune_for.Goals as goal

pub index_publics-requires : goal.index_publics-requires
index_publics-requires c = subst (λ (m : Parts). entry_count m < 2 ^ 32) (sym c.parts-parts.ensures.same)
    (few_entries c.args.module.now c.parts-parts.ensures.valid)

pub kept-requires-clause-few : goal.kept-requires-clause-few
kept-requires-clause-few c = subst (λ (m : Parts). entry_count m < 2 ^ 32) (sym c.parts-parts.ensures.same)
    (few_entries c.args.module.now c.parts-parts.ensures.valid)

pub remaining_parts-requires-clause-few : goal.remaining_parts-requires-clause-few
remaining_parts-requires-clause-few c = subst (λ (m : Parts). entry_count m < 2 ^ 32) (sym c.parts-parts.ensures.same)
    (few_entries c.args.module.now c.parts-parts.ensures.valid)

pub remaining_parts-requires-clause-sized : goal.remaining_parts-requires-clause-sized
remaining_parts-requires-clause-sized c = ap length c.deref.ensures.value ∙ c.in_ok-marks.ensures.sized ∙ length-needs c.parts-parts.result.now

pub copy_marks-requires : goal.copy_marks-requires
copy_marks-requires c = ap length c.deref-2.ensures.value ∙ c.in_ok-marks.ensures.sized ∙ length-needs c.parts-parts.result.now

pub sound-requires : goal.sound-requires
sound-requires c =
    let m = c.parts-parts.result.now in
    let kept = c.in_ok-marks.ensures in
    let valid = subst IsValid (sym c.parts-parts.ensures.same) c.parts-parts.ensures.valid in
    let marks = c.in_ok-marks.marks.items in
    let rest = c.in_ok-rest.ensures ∙ ap (λ its. without_others m (remains m its)) c.deref.ensures.value in
    subst IsValid (sym rest) (pruned_valid m c.args.names.now c.args.stays.now marks kept valid)

pub returns-clause-weighs : goal.returns-clause-weighs
returns-clause-weighs c =
    let m = c.args.module.now in
    let rest = c.sound.ensures.same ∙ c.in_ok-rest.ensures ∙ (λ i. without_others (c.parts-parts.ensures.same i)
    (remains (c.parts-parts.ensures.same i) c.deref.result.now)) in
    subst (λ (M : Parts). weight M ≤ weight m) (sym rest) (pruned_weighs m (remains m c.deref.result.now))

pub returns-clause-pruned : goal.returns-clause-pruned
returns-clause-pruned c =
    let m = c.parts-parts.result.now in
    let own = c.parts-parts.ensures.same in
    let marks = c.in_ok-marks.marks.items in
    let given = c.deref.ensures.value in let again = c.deref-2.ensures.value in
    let rest = c.sound.ensures.same ∙ c.in_ok-rest.ensures ∙ (λ i. without_others (own i) (remains (own i) (given i))) in
    record {
      pruned = record {
        marks = marks;
        kept = subst (λ (m : Parts). IsKeptFor m c.args.names.now c.args.stays.now marks) own c.in_ok-marks.ensures;
        is = rest;
      };
      sections = c.in_ok-sections.ensures.0 ∙ (λ i. (remains (own i) (again i)).sections);
      publics = c.in_ok-sections.ensures.1 ∙ (λ i. (remains (own i) (again i)).publics);
    }
