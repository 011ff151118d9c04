use Rattle.std.proofs.Common.{◌≡◌, ◌+◌, [], ◌∷◌, ◌++◌, take, drop, take-append-drop, sym, ap, ◌∙◌, append_assoc, subst, not, false}
use Rattle.std.specs.Prelude.{if◌then◌else◌}
use Rattle.std.proofs.lemmas.List.{drop_more, take_more}
use Rattle.mufom_plan.specs.Names.{AreDistinctNames, has_name}
use Rattle.mufom_place.proofs.EntryLaws.{distinct-next}
use Rattle.mufom_place.proofs.entries.add_names.Goals as goal

pub loop-name-preserved : goal.loop-name-preserved
loop-name-preserved c =
    let i = c.loop-name.name-index in
    let names = c.args.names.now in
    let name = c.name-item.result in
    let old = c.args.index.now in
    let is = sym c.name-item.is in
    let cut = sym (take-append-drop i names) ∙ ap (λ rest. take i names ++ rest) (drop_more names i name c.loop-name-test.true
    ∙ ap (λ n. n ∷ drop (i + 1) names) is) in
    let whole : AreDistinctNames ((old ++ take i names) ++ name ∷ drop (i + 1) names) =
    subst AreDistinctNames (ap (λ all. old ++ all) cut ∙ sym (append_assoc old (take i names) (name ∷ drop (i + 1) names))) c.requires in
    let new : has_name c.loop-name.index c.as_slice.result.now ≡ false =
    (λ j. has_name (c.loop-name.invariant j) (c.as_slice.ensures j)) ∙ distinct-next (old ++ take i names) name (drop (i + 1) names) whole in
    c.in_ok-add.ensures.after
    ∙ ap (λ added. if added then c.loop-name.index ++ c.as_slice.result.now ∷ [] else c.loop-name.index) (c.in_ok-add.ensures.added ∙ ap not new)
    ∙ (λ j. c.loop-name.invariant j ++ c.as_slice.ensures j ∷ [])
    ∙ append_assoc old (take i names) (name ∷ [])
    ∙ ap (λ all. old ++ all) (sym (take_more names i name c.loop-name-test.true ∙ ap (λ n. take i names ++ n ∷ []) is))
