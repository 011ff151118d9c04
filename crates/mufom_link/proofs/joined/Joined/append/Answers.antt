use Rattle.std.proofs.Common.{◌≡◌, List, ◌++◌, ◌∙◌, ap, map}
use Rattle.std.proofs.lemmas.List.{map-append}
use Rattle.mufom_debug.specs.declared.item.DebugItem.{DebugItem}
use Rattle.mufom_debug.specs.Marks.{joined, marks_of, marks_of_item, names_after_all}
use Rattle.mufom_debug.proofs.MarksLemmas.{joined-append}
use Rattle.mufom_module.specs.declared.module.Parts.{Parts}
use Rattle.mufom_link.specs.Renaming.{renaming, renamed_public, renamed_load, renamed_mark}
use Rattle.mufom_link.specs.Joining.{start_after, next_renaming}
use Rattle.mufom_link.proofs.joined.Joined.append.Goals as goal

marks-append : (xs ys : List DebugItem) → marks_of (xs ++ ys) ≡ marks_of xs ++ marks_of ys
marks-append xs ys = ap joined (map-append marks_of_item xs ys) ∙ joined-append (map marks_of_item xs) (map marks_of_item ys)

pub returns : goal.returns
returns c =
    let old = c.args.self.now in
    let targets = c.args.targets.now in
    let same = c.into_parts-sections.ensures.same in
    let s = c.len.ensures ∙ old.sections.ok.0 in
    let p = c.len-2.ensures ∙ old.publics.ok.0 in
    let r : renaming c.len.result c.len-2.result old.debug_names targets ≡ next_renaming targets old = λ i. renaming (s i) (p i) old.debug_names targets in
    let sections = c.into_vec.ensures ∙ ap (λ (m : Parts). m.sections) same in
    let publics = c.into_vec-2.ensures ∙ ap (λ (m : Parts). m.names.publics) same in
    let loads = c.into_vec-3.ensures ∙ ap (λ (m : Parts). m.loads) same in
    let items = c.into_vec-4.ensures in
    let declared = c.as_slice.ensures ∙ ap (λ (m : Parts). m.debug) same in
    record {
      sections = c.in_ok-append.ensures ∙ ap (λ xs. old.sections.items ++ xs) sections;
      publics = c.in_ok-append-2.ensures ∙ ap (λ xs. old.publics.items ++ xs) (c.rename_publics.ensures ∙ (λ i. map (renamed_public (r i)) (publics i)));
      loads = c.in_ok-append-3.ensures ∙ ap (λ xs. old.loads.items ++ xs) (c.rename_loads.ensures ∙ (λ i. map (renamed_load (r i)) (loads i)));
      start = c.take_start.ensures ∙ (λ i. start_after (r i) (same i).start old.start);
      debug =
          ap marks_of (c.in_ok-append-4.ensures ∙ ap (λ xs. old.debug.items ++ xs) items)
          ∙ marks-append old.debug.items c.in_ok-items.items
          ∙ ap (λ marks. marks_of old.debug.items ++ marks) (c.in_ok-items.ensures ∙ (λ i. map (renamed_mark (r i)) (marks_of (same i).debug)));
      debug_names = c.names_after-self.ensures ∙ ap (λ items. names_after_all old.debug_names (marks_of items)) declared;
    }
