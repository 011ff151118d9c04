use Rattle.std.proofs.Common.{◌≡◌, length-append, ◌∷◌, ◌++◌, [], length, map, drop, take, replicate, sum_by, Some, None, get_or, not, ◌&&◌, ◌+◌, refl}
use Rattle.std.proofs.Common.{sym, ap, ◌∙◌, arith}
use Rattle.std.specs.Prelude.{if◌then◌else◌}
use Rattle.std.proofs.lemmas.List.{get_or-map, length-map, take_all}
use Rattle.std.proofs.lemmas.List.Sums.{sum_by-set}
use Rattle.std.proofs.Math.ListN.{set}
use Rattle.std.proofs.lemmas.List.FromFn.{length-enumerate_from}
use Rattle.mufom_place.specs.declared.refusal.PlaceRefusal.TheVariants.{Unplaced}
use Rattle.mufom_place.specs.Bases.{numbered, is_listed, waiting as waiting_of, waiting_among}
use Rattle.mufom_place.specs.Facts.{first_some, unplaced_at}
use Rattle.mufom_place.proofs.Steps.{drop-numbered, drop-numbered-all, take-numbered, first_some-next, first_some-found, none_of_some, none_of_not_some}
use Rattle.mufom_place.specs.Entries.{entry_for}
use Rattle.mufom_place.proofs.EntryLaws.{entry_for-some, entry_for-none, is_listed-some}
use Rattle.mufom_place.proofs.WaitingLemmas.{waiting-none, sum_by-none, waiting-based, waiting-added}
use Rattle.mufom_place.proofs.entries.waiting_sections.Goals as goal

pub loop-place-init : goal.loop-place-init
loop-place-init c =
    let none = c.in_ok-entries.ensures ∙ ap (λ n. replicate n []) c.len.ensures ∙ waiting-none c.args.index.now c.args.index.now in
    let sum = ap (sum_by length) none ∙ sum_by-none c.args.index.now c.args.index.now in
    record { waiting = none; total = omega (arith, sum); placed = refl }

pub returns-in_default-clause-unplaced : goal.returns-in_default-clause-unplaced
returns-in_default-clause-unplaced c = λ _.
    let listed = c.args.index.now in
    let sections = c.args.sections.now in
    let place = c.loop-place.place in
    let section = c.index-sections-place.result in
    let baseless = none_of_not_some section.base (sym c.is_some.ensures ∙ c.if-is_some.false) in
    let unlisted = entry_for-none listed section.name (ap (entry_for listed) (sym c.as_slice.ensures) ∙ sym c.entry_of.ensures ∙ c.in_default.is) in
    let some : unplaced_at listed (place, section) ≡ Some (Unplaced place) = λ i. if baseless i && not (unlisted i) then Some (Unplaced place) else None in
    c.loop-place.invariant.placed
    ∙ ap (first_some (unplaced_at listed)) (drop-numbered sections place section c.loop-place-test.true c.index-sections-place.is)
    ∙ first_some-found (unplaced_at listed) (place, section) (drop (place + 1) (numbered sections)) (Unplaced place) some

pub loop-place-preserved-then-is_some : goal.loop-place-preserved-then-is_some
loop-place-preserved-then-is_some c =
    let listed = c.args.index.now in
    let sections = c.args.sections.now in
    let place = c.loop-place.place in
    let section = c.index-sections-place.result in
    let prefix = take place (numbered sections) in
    let based = none_of_some section.base (sym c.is_some.ensures ∙ c.if-is_some.true) in
    let none : unplaced_at listed (place, section) ≡ None = λ i. if based i && not (is_listed listed section.name) then Some (Unplaced place) else None in
    let total = c.loop-place.invariant.total in
    record {
      waiting = c.loop-place.invariant.waiting ∙ waiting-based listed prefix (place, section) based
          ∙ ap (λ ss. map (waiting_among listed ss) listed) (sym (take-numbered sections place section c.loop-place-test.true c.index-sections-place.is));
      total = omega (arith, total);
      placed = c.loop-place.invariant.placed
          ∙ ap (first_some (unplaced_at listed)) (drop-numbered sections place section c.loop-place-test.true c.index-sections-place.is)
          ∙ first_some-next (unplaced_at listed) (place, section) (drop (place + 1) (numbered sections)) none;
    }

pub loop-place-preserved : goal.loop-place-preserved
loop-place-preserved c =
    let listed = c.args.index.now in
    let sections = c.args.sections.now in
    let place = c.loop-place.place in
    let section = c.index-sections-place.result in
    let prefix = take place (numbered sections) in
    let e = c.in-Some.entry in
    let baseless = none_of_not_some section.base (sym c.is_some.ensures ∙ c.if-is_some.false) in
    let alone = entry_for-some listed section.name e c.requires.names (ap (entry_for listed) (sym c.as_slice.ensures) ∙ sym c.entry_of.ensures
    ∙ c.in-Some.is) in
    let known = is_listed-some listed section.name e alone in
    let none : unplaced_at listed (place, section) ≡ None = λ i. if baseless i && not (known i) then Some (Unplaced place) else None in
    let entries = c.loop-place.entries.items in
    let lent = c.index_mut.result.now in
    let old = c.index_mut.ensures.value ∙ ap (λ es. get_or es e lent) c.loop-place.invariant.waiting
    ∙ get_or-map (waiting_among listed prefix) listed e [] lent alone.within in
    let pushed : c.push.new.self ≡ waiting_among listed prefix (get_or listed e []) ++ waiting_of (place, section) ∷ [] = c.in_ok-push.ensures.ok
    ∙ (λ j. old j ++ c.waiting.ensures j ∷ []) in
    let long = ap length c.loop-place.invariant.waiting ∙ length-map listed (waiting_among listed prefix) in
    let within = alone.within in
    let sum = sum_by-set length entries e c.push.new.self lent (omega (arith, long, within)) in
    let before = ap length c.index_mut.ensures.value in
    let after = ap length c.in_ok-push.ensures.ok ∙ length-append lent (c.waiting.result ∷ []) in
    let total = c.loop-place.invariant.total in
    record {
      waiting = (λ j. set (c.loop-place.invariant.waiting j) e (pushed j)) ∙ sym (waiting-added listed prefix (place, section) e baseless alone)
          ∙ ap (λ ss. map (waiting_among listed ss) listed) (sym (take-numbered sections place section c.loop-place-test.true c.index-sections-place.is));
      total = omega (arith, sum, before, after, total);
      placed = c.loop-place.invariant.placed
          ∙ ap (first_some (unplaced_at listed)) (drop-numbered sections place section c.loop-place-test.true c.index-sections-place.is)
          ∙ first_some-next (unplaced_at listed) (place, section) (drop (place + 1) (numbered sections)) none;
    }

pub returns-clause-waiting : goal.returns-clause-waiting
returns-clause-waiting c =
    let all = c.args.sections.now in
    let whole = take_all c.loop-place.place (numbered all) (let long = length-enumerate_from 0 all in let end = c.loop-place-test.false in
    omega (arith, long, end)) in
    c.loop-place.invariant.waiting ∙ ap (λ ss. map (waiting_among c.args.index.now ss) c.args.index.now) whole

pub returns-clause-placed : goal.returns-clause-placed
returns-clause-placed c =
    c.loop-place.invariant.placed ∙ ap (first_some (unplaced_at c.args.index.now))
    (drop-numbered-all c.args.sections.now c.loop-place.place c.loop-place-test.false)
