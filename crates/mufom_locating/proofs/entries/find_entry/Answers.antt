use Rattle.std.proofs.Common.{◌≡◌, ◌∙◌, ℕ, ◌+◌, List, ◌++◌, Option, Some, None, length, map, take, drop, ap, sym, arith, not, true, false}
use Rattle.std.proofs.Common.{length-append}
use Rattle.std.specs.Prelude.{position, is_none}
use Rattle.std.specs.Str.{bytes_eq}
use Rattle.std.proofs.lemmas.List.{length-drop}
use Rattle.mufom_plan.specs.Names.{has_name, listed_names}
use Rattle.mufom_place.specs.declared.placing.Waiting.{Waiting}
use Rattle.mufom_locating.specs.Listed.{listing_of}
use Rattle.mufom_locating.proofs.ListLaws.{any-position, found-at, passed-at}
use Rattle.mufom_locating.proofs.EntryLaws.{before-lists, own-list, listed-next, front-lists, back-lists}
use Rattle.mufom_locating.proofs.entries.find_entry.Goals as goal

pub returns-in-Some : goal.returns-in-Some
returns-in-Some c = λ f are.
    let regions = c.args.regions.now in
    let entry = c.args.entry.now in
    let k = c.loop-place.place in
    let region = c.index-regions-place.result in
    let at = c.in-Some.at in
    let next = listed-next regions k region c.loop-place-test.true c.index-regions-place.is in
    let rest = c.loop-place.invariant.rest f are ∙ ap (map f) next in
    let found : position (bytes_eq entry) region.sections ≡ Some at = ap (position (bytes_eq entry)) (sym c.as_slice.ensures) ∙ sym c.in-Some.ensures.position in
    let lists : c.split_at.result.0.now ≡ map f region.sections = c.split_at.ensures.front ∙ ap (λ n. take n c.loop-place.rest.now) c.len.ensures
    ∙ front-lists f c.loop-place.rest.now region.sections (listed_names (drop (k + 1) regions)) rest in
    record {
      found = found-at (λ r. has_name r.1.sections entry) regions (listing_of regions entry) k region c.loop-place-test.true c.index-regions-place.is
          c.loop-place.invariant.before (any-position (bytes_eq entry) region.sections ∙ ap (λ (o : Option ℕ). not (is_none o)) found);
      before = before-lists entry region.sections at found f c.split_at.result.0.now lists;
      own = c.as_slice-in-Some.ensures ∙ c.index-lists-at.is ∙ own-list entry region.sections at found f c.split_at.result.0.now lists c.index-lists-at.result;
    }

pub loop-place-preserved : goal.loop-place-preserved
loop-place-preserved c =
    let regions = c.args.regions.now in
    let entry = c.args.entry.now in
    let k = c.loop-place.place in
    let region = c.index-regions-place.result in
    let next = listed-next regions k region c.loop-place-test.true c.index-regions-place.is in
    let none : position (bytes_eq entry) region.sections ≡ None = ap (position (bytes_eq entry)) (sym c.as_slice.ensures) ∙ sym c.in_default.ensures.position in
    let back = c.split_at.ensures.back ∙ ap (λ n. drop n c.loop-place.rest.now) c.len.ensures in
    record {
      count = (let sized = ap length back in
          let all = ap length next in
          let parts = length-append region.sections (listed_names (drop (k + 1) regions)) in
          let cut = length-drop (length region.sections) c.loop-place.rest.now in
          let before = c.loop-place.invariant.count in
          omega (arith, sized, all, parts, cut, before));
      rest = λ f are. back ∙ back-lists f c.loop-place.rest.now region.sections (listed_names (drop (k + 1) regions))
          (c.loop-place.invariant.rest f are ∙ ap (map f) next);
      before = passed-at (λ r. has_name r.1.sections entry) regions (listing_of regions entry) k region c.loop-place-test.true c.index-regions-place.is
          c.loop-place.invariant.before (any-position (bytes_eq entry) region.sections ∙ ap (λ (o : Option ℕ). not (is_none o)) none);
    }
