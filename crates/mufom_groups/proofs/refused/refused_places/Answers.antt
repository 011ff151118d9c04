use Rattle.std.proofs.Common.{◌≡◌, ◌≤◌, ◌∙◌, ℕ, List, length, map, option_map, Option, None, Some, refl, sym, ap, subst, arith}
use Rattle.std.specs.Prelude.{IfSome}
use Rattle.mufom_meaning.specs.Facts.{LinkFact}
use Rattle.mufom_words.specs.declared.command.Mark.{Mark}
use Rattle.mufom_words.specs.Tree.{groups, leaves, tree_of}
use Rattle.mufom_groups.specs.declared.refused.FileRange.{FileRange}
use Rattle.mufom_groups.specs.Groups.{files_of}
use Rattle.mufom_groups.specs.Linked.{linked}
use Rattle.mufom_groups.specs.Refused.{IsRefusedList, IsTreeOrFlat, files_between, refused_among}
use Rattle.mufom_groups.specs.Work.{stops}
use Rattle.mufom_groups.proofs.RefusedLaws.{few-files, if-ok-map, none-found, others-refused, range-few, range-refused}
use Rattle.mufom_groups.proofs.WholeLink.{files-of-marks}
use Rattle.mufom_groups.proofs.refused.refused_places.Goals as goal

pub returns-in-Some-clause-list : goal.returns-in-Some-clause-list
returns-in-Some-clause-list c =
    let tree = tree_of c.args.marks.now in let ms = c.args.modules.now in let range = c.in-Some.range in
    let own = ap (map files_between) c.deref.ensures.value ∙ c.in_ok-ranges.ensures.ranges in
    let found : Some (files_between range) ≡ option_map (λ p. p.0) (refused_among ms (groups tree))
    = ap (option_map files_between) (sym c.in-Some.is) ∙ c.in_ok-range.ensures.first ∙ ap (λ l. option_map (λ p. p.0) (refused_among ms l)) own in
    if-ok-map c.numbers_of.result (λ files. files ≡ files_between range)
    (λ files. (f : LinkFact) → linked tree ms (stops f) → IsRefusedList tree ms files f)
    (λ files is f ends. range-refused tree ms (length (leaves tree)) refl c.requires.tree.numbered files
    (ap (λ (l : List ℕ). Some l) is ∙ found) f ends)
    c.numbers_of.ensures

pub returns-in-Some-clause-few : goal.returns-in-Some-clause-few
returns-in-Some-clause-few c =
    let ms = c.args.modules.now in let range = c.in-Some.range in
    let inside : range.end ≤ length ms = subst (λ (o : Option FileRange). IfSome o (λ r. r.end ≤ length ms)) c.in-Some.is c.in_ok-range.ensures.inside in
    if-ok-map c.numbers_of.result (λ files. files ≡ files_between range) (λ files. length files ≤ length ms)
    (λ files is. subst (λ (l : List ℕ). length l ≤ length ms) (sym is) (range-few range (length ms) inside)) c.numbers_of.ensures

pub tree_or_flat-requires-clause-some : goal.tree_or_flat-requires-clause-some
tree_or_flat-requires-clause-some c =
    let count = c.file_count.ensures ∙ ap length (files-of-marks c.args.marks.now (length c.args.modules.now) c.requires.tree) in
    omega (arith, count, c.requires.some)

pub tree_or_flat-requires-clause-within : goal.tree_or_flat-requires-clause-within
tree_or_flat-requires-clause-within c =
    let count = c.file_count.ensures ∙ ap length (files-of-marks c.args.marks.now (length c.args.modules.now) c.requires.tree) in
    omega (arith, count, c.requires.tree.within)

pub returns-clause-list : goal.returns-clause-list
returns-clause-list c =
    let tree = tree_of c.args.marks.now in let ms = c.args.modules.now in
    let own = ap (map files_between) c.deref.ensures.value ∙ c.in_ok-ranges.ensures.ranges in
    let none : None ≡ option_map (λ p. p.0) (refused_among ms (groups tree))
    = ap (option_map files_between) (sym c.in-None.is) ∙ c.in_ok-range.ensures.first ∙ ap (λ l. option_map (λ p. p.0) (refused_among ms l)) own in
    let count = c.file_count.ensures ∙ ap length (files-of-marks c.args.marks.now (length ms) c.requires.tree) in
    if-ok-map c.tree_or_flat.result (IsTreeOrFlat c.file_count.result ms)
    (λ files. (f : LinkFact) → linked tree ms (stops f) → IsRefusedList tree ms files f)
    (λ files is f ends. others-refused tree ms (length (leaves tree)) refl c.requires.tree.numbered
    (none-found (refused_among ms (groups tree)) none) files (subst (λ (k : ℕ). IsTreeOrFlat k ms files) count is) f ends)
    c.tree_or_flat.ensures

pub returns-clause-few : goal.returns-clause-few
returns-clause-few c =
    let ms = c.args.modules.now in
    let count = c.file_count.ensures ∙ ap length (files-of-marks c.args.marks.now (length c.args.modules.now) c.requires.tree) in
    if-ok-map c.tree_or_flat.result (IsTreeOrFlat c.file_count.result ms) (λ files. length files ≤ length ms)
    (λ files is. few-files c.file_count.result ms files (omega (arith, count, c.requires.tree.within)) is) c.tree_or_flat.ensures
