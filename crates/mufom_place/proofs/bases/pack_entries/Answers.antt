use Rattle.std.proofs.Common.{◌+◌, ◌∷◌, ◌++◌, drop, length, sym, ap, ◌∙◌, append_assoc, arith}
use Rattle.std.specs.List.{flat_map}
use Rattle.std.proofs.lemmas.List.{drop_more}
use Rattle.std.proofs.lemmas.List.Sums.{sum_by-drop_more}
use Rattle.mufom_place.specs.Bases.{packed}
use Rattle.mufom_place.specs.Packing.{end_of}
use Rattle.mufom_place.proofs.PackingLemmas.{packed-append, end_of-append}
use Rattle.mufom_place.proofs.bases.pack_entries.Goals as goal

pub loop-waiting-preserved : goal.loop-waiting-preserved
loop-waiting-preserved c =
    let entries = c.args.entries.now in
    let i = c.loop-waiting.waiting-index in
    let before = c.loop-waiting.placings in
    let end = c.loop-waiting.end in
    let item = c.waiting-item.result in
    let more = flat_map (λ waiting. waiting) (drop (i + 1) entries) in
    let next = drop_more entries i item c.loop-waiting-test.true ∙ ap (λ w. w ∷ drop (i + 1) entries) (sym c.waiting-item.is) in
    let packs = ap (packed c.args.region end) c.as_slice.ensures in
    let after = c.in_ok-end.ensures.end ∙ ap (end_of end) c.as_slice.ensures in
    let total = sum_by-drop_more length entries i item c.loop-waiting-test.true in
    let long = ap length c.as_slice.ensures in
    let long_item = ap length c.waiting-item.is in
    record {
      placed = c.loop-waiting.invariant.placed
          ∙ ap (λ rest. before ++ packed c.args.region end (flat_map (λ waiting. waiting) rest)) next
          ∙ ap (λ rest. before ++ rest) (packed-append c.args.region end item more)
          ∙ sym (append_assoc before (packed c.args.region end item) (packed c.args.region (end_of end item) more))
          ∙ (λ j. (before ++ sym packs j) ++ packed c.args.region (sym after j) more)
          ∙ ap (λ all. all ++ packed c.args.region c.in_ok-end.end more) (sym c.in_ok-end.ensures.placed);
      ends = c.loop-waiting.invariant.ends
          ∙ ap (λ rest. end_of end (flat_map (λ waiting. waiting) rest)) next
          ∙ end_of-append end item more
          ∙ ap (λ e. end_of e more) (sym after);
      low = c.in_ok-end.ensures.low;
      bound = let bound = c.in_ok-end.ensures.bound in let before_bound = c.loop-waiting.invariant.bound in
          omega (arith, total, long, long_item, bound, before_bound);
    }
