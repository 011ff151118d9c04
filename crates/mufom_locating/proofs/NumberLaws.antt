-- The numbers of symbols, by what the code keeps.
use Rattle.std.proofs.Common.{◌≡◌, ℕ, zero, suc, ◌+◌, ◌-◌, ◌<◌, ◌≤◌, List, [], ◌∷◌, ◌++◌, length, map, drop, get_or, refl, sym, ap, subst, ◌∙◌}
use Rattle.std.proofs.Common.{Option, Some, None, arith}
use Rattle.std.specs.Prelude.{slice_get, option_map, position, slice_index_or, unwrap_or, ◌==◌, flat_map}
use Rattle.std.specs.List.{enumerate_from}
use Rattle.std.proofs.lemmas.Option.{get_or_from_slice_get, slice_get-map}
use Rattle.mufom_plan.specs.declared.plan.Region.{Region}
use Rattle.mufom_plan.specs.declared.plan.SymbolValue.TheVariants.{Start, End, Load, RegionEnd}
use Rattle.mufom_place.specs.declared.placing.Waiting.{Waiting}
use Rattle.mufom_meaning.proofs.facts.Answers.{find_at}
use Rattle.mufom_planned.specs.Layout.{Layout, layout_bases, base_in, copy_position, move_of, moved_to}
use Rattle.mufom_planned.specs.Numbers.{entries_before, number_at, placed_for, start_in, end_in, start_among, end_among, symbol_number}
use Rattle.mufom_locating.specs.declared.entries.Listed.{Listed}
use Rattle.mufom_locating.specs.declared.numbers.Numbering.{Numbering}
use Rattle.mufom_locating.specs.Listed.{HasEntry, listing_of, start_by, end_by}
use Rattle.mufom_locating.specs.Moves.{address_in, region_move}
use Rattle.mufom_locating.specs.Numbered.{IsNumbering}
use Rattle.mufom_locating.proofs.ListLaws.{get-drop}
use Rattle.mufom_locating.proofs.EntryLaws.{joined-mapped}

-- an item of an enumerated list stands at its position
pub enumerated-at : {A : Type 0} (k : ℕ) (xs : List A) (i n : ℕ) (x : A) → slice_get (enumerate_from k xs) i ≡ Some (n, x)
    → (n ≡ k + i) × (slice_get xs i ≡ Some x)
enumerated-at k [] i n x e = absurd cc
enumerated-at {A} k (y ∷ xs) zero n x e =
    let both : ◌≡◌ {A = ℕ × A} (k, y) (n, x) = some_pair e in
    let place : k ≡ k + 0 = omega arith in
    (ap (λ (t : ℕ × A). t.0) (sym both) ∙ place, ap (λ (t : ℕ × A). Some t.1) both)
  where
    some_pair : ◌≡◌ {A = Option (ℕ × A)} (Some (k, y)) (Some (n, x)) → ◌≡◌ {A = ℕ × A} (k, y) (n, x)
    some_pair e = cc
enumerated-at k (y ∷ xs) (suc i) n x e =
    let rest = enumerated-at (k + 1) xs i n x e in
    let place = rest.0 in (omega (arith, place), rest.1)

-- a move as the code keeps it
pub same-move : (from : ℕ) (placed : List ℕ) (count : ℕ) (o : Option ℕ) (a : ℕ)
    → address_in (option_map (λ n. record { from = from; to = base_in (drop count placed) n }) o) a
    ≡ moved_to (option_map (λ n. record { from = from; to = base_in placed (count + n) }) o) a
same-move from placed count None a = refl
same-move from placed count (Some n) a = ap (λ o. unwrap_or o 0 + a - from) (get-drop placed count n)

module _ (l : Layout) (n : Numbering) (is : IsNumbering l n) where
  abbrev count : ℕ
  count = length l.sections + length l.commons

  module _ (entry : List ℕ) (listed : Listed) (h : HasEntry (placed_for l) l.plan.regions entry listed) where
    abbrev region : Region
    region = listed.region.now

    before-is : flat_map (λ own. own) listed.before.now ≡ flat_map (placed_for l) (entries_before entry region.sections)
    before-is = ap (flat_map (λ own. own)) h.before ∙ joined-mapped (placed_for l) (entries_before entry region.sections)

    start-in : start_by n.bases.now listed ≡ start_in l region entry
    start-in = λ i. start_among (is.bases i) region.base (before-is i) (h.own i)

    pub started : start_by n.bases.now listed ≡ symbol_number l (Start entry)
    started = start-in ∙ sym (ap (λ o. number_at o (λ r. start_in l r.1 entry)) h.found)

    pub ended : end_by n.bases.now listed ≡ symbol_number l (End entry)
    ended = (λ i. end_among (is.bases i) region.base (before-is i) (h.own i)) ∙ sym (ap (λ o. number_at o (λ r. end_in l r.1 entry)) h.found)

    own-move : slice_index_or n.moves.now listed.place None ≡ region_move l.copied (drop count (layout_bases l)) (listed.place, region)
    own-move =
        let found = find_at _ (enumerate_from 0 l.plan.regions) (listed.place, region) h.found in
        let at = enumerated-at 0 l.plan.regions found.0.0 listed.place region found.0.1 in
        let place : listed.place ≡ found.0.0 = (let it = at.0 in omega (arith, it)) in
        let moved = ap (λ ms. slice_get ms listed.place) is.moves
        ∙ slice_get-map (region_move l.copied (drop count (layout_bases l))) (enumerate_from 0 l.plan.regions) listed.place
        ∙ ap (option_map (region_move l.copied (drop count (layout_bases l)))) (ap (slice_get (enumerate_from 0 l.plan.regions)) place ∙ found.0.1) in
        get_or_from_slice_get n.moves.now listed.place _ None moved

    pub loaded-there : address_in (slice_index_or n.moves.now listed.place None) (start_by n.bases.now listed) ≡ symbol_number l (Load entry)
    loaded-there =
        (λ i. address_in (own-move i) (start-in i))
        ∙ same-move region.base (layout_bases l) count (position (λ c. c.source == listed.place) l.copied) (start_in l region entry)
        ∙ sym (ap (λ o. number_at o (λ r. moved_to (move_of l r) (start_in l r.1 entry))) h.found)

  module _ (entry : List ℕ) (none : listing_of l.plan.regions entry ≡ None) where
    pub no-start : 0 ≡ symbol_number l (Start entry)
    no-start = sym (ap (λ o. number_at o (λ r. start_in l r.1 entry)) none)

    pub no-end : 0 ≡ symbol_number l (End entry)
    no-end = sym (ap (λ o. number_at o (λ r. end_in l r.1 entry)) none)

    pub no-load : 0 ≡ symbol_number l (Load entry)
    no-load = sym (ap (λ o. number_at o (λ r. moved_to (move_of l r) (start_in l r.1 entry))) none)
