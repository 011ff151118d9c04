-- The part that contains the next byte goes on up to its end.
use Rattle.std.proofs.Common.{◌≡◌, ℕ, zero, suc, ◌+◌, ◌-◌, ◌<◌, ◌≤◌, ◌==◌, ◌&&◌, Bool, true, false, not, true≢false, nat_lt, nat_le, List, [], ◌∷◌}
use Rattle.std.proofs.Common.{◌++◌, length, Option, Some, None, is_some, cond, refl, sym, ap, subst, ◌∙◌, arith, length-append, append-nil, ltb-true}
use Rattle.std.proofs.Common.{ltb-false, leb-true, lt-ltb, le-ltb, le-leb, ne_eqb, ◌⊎◌, inl, inr}
use Rattle.std.specs.List.{cons_option}
use Rattle.std.proofs.lemmas.Bool.{and_parts}
use Rattle.mufom_module.specs.RecordParts.{Part}
use Rattle.mufom_judging.specs.Prefixes.{Step, size_of, offsets_of, Extent, in_header, in_part, first_present, part_among, parts_in_order, part_at}
use Rattle.mufom_judging.specs.Prefixes.{location_by, location_after}
use Rattle.mufom_judging.specs.Faults.{whole_fault, ended_fault, ended_part_fault}
use Rattle.mufom_read.specs.PrefixOfCode.{AreFrom, AreOrdered, next_location, is_inside}

nothing : {A : Type 0} {x : A} → Some x ≡ None → ⊥
nothing e = true≢false (ap is_some e)

abbrev the_end : Option Extent → ℕ
the_end None = 0
the_end (Some x) = x.to

abbrev the_begin : Option Extent → ℕ
the_begin None = 0
the_begin (Some x) = x.from

-- a byte is before its part's end
pub among-within : (parts : List Part) (os : List ℕ) (at : ℕ) (e : Extent) → part_among parts os at ≡ Some e → at < e.to
among-within [] os at e found = absurd (nothing (sym found))
among-within (part ∷ parts) [] at e found = absurd (nothing (sym found))
among-within (part ∷ parts) (w ∷ os) at e found = by_case _ refl found (among-within parts os at e) where
  here : Extent
  here = record { part = part; from = w; to = first_present os }

  by_case : (test : Bool) → test ≡ (not (w == 0) && (nat_le w at && nat_lt at (first_present os))) → cond test (Some here) (part_among parts os at)
      ≡ Some e → (part_among parts os at ≡ Some e → at < e.to) → at < e.to
  by_case false is found after = after found
  by_case true is found after = subst (λ n. at < n) (ap the_end found) (ltb-true at (first_present os) (and_parts _ _ (and_parts _ _ (sym is)).1).1)

-- ---- later bytes of a part

among_from : (parts : List Part) (os : List ℕ) (w at : ℕ) (e : Extent) → AreFrom w os → part_among parts os at ≡ Some e → (w ≤ at) × (w ≤ e.from)
among_from [] os w at e is found = absurd (nothing (sym found))
among_from (part ∷ parts) [] w at e is found = absurd (nothing (sym found))
among_from (part ∷ parts) (v ∷ os) w at e is found = by_case _ refl found (λ more. among_from parts os w at e is.1 more) where
  here : Extent
  here = record { part = part; from = v; to = first_present os }

  by_first : ((v ≡ 0) ⊎ (w ≤ v)) → not (v == 0) ≡ true → w ≤ v
  by_first (inl none) some = absurd (true≢false (sym some ∙ ap (λ n. not (n == 0)) none))
  by_first (inr from) some = from

  by_case : (test : Bool) → test ≡ (not (v == 0) && (nat_le v at && nat_lt at (first_present os))) → cond test (Some here) (part_among parts os at)
      ≡ Some e → (part_among parts os at ≡ Some e → (w ≤ at) × (w ≤ e.from)) → (w ≤ at) × (w ≤ e.from)
  by_case false same more after = after more
  by_case true same more after =
      let both = and_parts _ _ (sym same) in
      let from : w ≤ v = by_first is.0 both.0 in
      let low : v ≤ at = leb-true v at (and_parts _ _ both.1).0 in
      let begin : v ≡ e.from = ap the_begin more in
      (omega (arith, from, low), omega (arith, from, begin))

stands : (w at end : ℕ) → not (w == 0) ≡ true → w ≤ at → at < end → true ≡ (not (w == 0) && (nat_le w at && nat_lt at end))
stands w at end some low high = sym (ap (λ b. b && (nat_le w at && nat_lt at end)) some ∙ ap (λ b. b && nat_lt at end) (le-leb w at low) ∙ lt-ltb at end high)

-- a byte after another one of a part, before the part's end, is in the part
pub among-stays : (parts : List Part) (os : List ℕ) (at more : ℕ) (e : Extent) → AreOrdered os → part_among parts os at ≡ Some e → at ≤ more
    → more < e.to → part_among parts os more ≡ Some e
among-stays [] os at more e is found low high = found
among-stays (part ∷ parts) [] at more e is found low high = found
among-stays (part ∷ parts) (w ∷ os) at more e is found low high =
    by_case _ _ refl refl found (λ f. among-stays parts os at more e is.1 f low high) (λ f. (among_from parts os w at e is.0 f).0) where
      here : Extent
      here = record { part = part; from = w; to = first_present os }

      by_case : (t u : Bool) → t ≡ (not (w == 0) && (nat_le w at && nat_lt at (first_present os))) → u
          ≡ (not (w == 0) && (nat_le w more && nat_lt more (first_present os)))
          → cond t (Some here) (part_among parts os at) ≡ Some e → (part_among parts os at ≡ Some e → part_among parts os more ≡ Some e)
          → (part_among parts os at ≡ Some e → w ≤ at)
          → cond u (Some here) (part_among parts os more) ≡ Some e
      by_case true true s t f after from = f
      by_case true false s t f after from =
          let both = and_parts _ _ (sym s) in
          let within : w ≤ at = leb-true w at (and_parts _ _ both.1).0 in
          let end : first_present os ≡ e.to = ap the_end f in
          absurd (true≢false (stands w more (first_present os) both.0 (omega (arith, within, low)) (omega (arith, high, end)) ∙ sym t))
      by_case false false s t f after from = after f
      by_case false true s t f after from =
          let both = and_parts _ _ (sym t) in
          let under : more < first_present os = ltb-true more (first_present os) (and_parts _ _ both.1).1 in
          absurd (true≢false (stands w at (first_present os) both.0 (from f) (omega (arith, under, low)) ∙ sym s))

-- ---- earlier bytes of a part

-- no part begins before the first offset that is not 0
first_before : (parts : List Part) (os : List ℕ) (at : ℕ) (e : Extent) → AreOrdered os → part_among parts os at ≡ Some e → first_present os ≤ e.from
first_before [] os at e is found = absurd (nothing (sym found))
first_before (part ∷ parts) [] at e is found = absurd (nothing (sym found))
first_before (part ∷ parts) (zero ∷ os) at e is found = first_before parts os at e is.1 found
first_before (part ∷ parts) (suc w ∷ os) at e is found = by_case _ found (λ f. (among_from parts os (suc w) at e is.0 f).1) where
  here : Extent
  here = record { part = part; from = suc w; to = first_present os }

  by_case : (t : Bool) → cond t (Some here) (part_among parts os at) ≡ Some e → (part_among parts os at ≡ Some e → suc w ≤ e.from) → suc w ≤ e.from
  by_case true f after = let begin : suc w ≡ e.from = ap the_begin f in omega (arith, begin)
  by_case false f after = after f

-- a byte before another one of a part, from the part's start on, is in the part
among-back : (parts : List Part) (os : List ℕ) (at less : ℕ) (e : Extent) → AreOrdered os → part_among parts os at ≡ Some e → e.from ≤ less
    → less ≤ at → part_among parts os less ≡ Some e
among-back [] os at less e is found low high = found
among-back (part ∷ parts) [] at less e is found low high = found
among-back (part ∷ parts) (w ∷ os) at less e is found low high =
    by_case _ _ refl refl found (λ f. among-back parts os at less e is.1 f low high) (λ f. first_before parts os at e is.1 f) where
      here : Extent
      here = record { part = part; from = w; to = first_present os }

      by_case : (t u : Bool) → t ≡ (not (w == 0) && (nat_le w at && nat_lt at (first_present os))) → u
          ≡ (not (w == 0) && (nat_le w less && nat_lt less (first_present os)))
          → cond t (Some here) (part_among parts os at) ≡ Some e → (part_among parts os at ≡ Some e → part_among parts os less ≡ Some e)
          → (part_among parts os at ≡ Some e → first_present os ≤ e.from)
          → cond u (Some here) (part_among parts os less) ≡ Some e
      by_case true true s t f after first = f
      by_case true false s t f after first =
          let both = and_parts _ _ (sym s) in
          let under : at < first_present os = ltb-true at (first_present os) (and_parts _ _ both.1).1 in
          let begin : w ≡ e.from = ap the_begin f in
          absurd (true≢false (stands w less (first_present os) both.0 (omega (arith, begin, low)) (omega (arith, under, high)) ∙ sym t))
      by_case false false s t f after first = after f
      by_case false true s t f after first =
          let both = and_parts _ _ (sym t) in
          let under : less < first_present os = ltb-true less (first_present os) (and_parts _ _ both.1).1 in
          let begun : first_present os ≤ e.from = first f in
          absurd (omega (arith, under, begun, low))

-- ---- the location after a step

later_count : (n : ℕ) → nat_lt (n + 1) 10 ≡ nat_lt n 9
later_count n = by_case (nat_lt n 9) refl where
  by_case : (b : Bool) → nat_lt n 9 ≡ b → nat_lt (n + 1) 10 ≡ b
  by_case true e = let few : n < 9 = ltb-true n 9 e in lt-ltb (n + 1) 10 (omega (arith, few))
  by_case false e = let many : 9 ≤ n = ltb-false n 9 e in le-ltb (n + 1) 10 (omega (arith, many))

-- The location of the next byte after more steps: after one record of the header, or after steps that add no offset.
pub location-moves : (prefix more : List Step) → (length prefix < 10 → length more ≡ 1)
    → (10 ≤ length prefix → offsets_of (prefix ++ more) ≡ offsets_of prefix) → AreOrdered (offsets_of prefix) → size_of prefix ≤ size_of (prefix ++ more)
    → location_after (prefix ++ more) ≡ next_location (location_after prefix) (offsets_of (prefix ++ more)) (size_of (prefix ++ more))
location-moves prefix more one same ordered grows = by_header (nat_lt (length prefix) 10) refl where
  now : List Step
  now = prefix ++ more

  count : length now ≡ length prefix + length more
  count = length-append prefix more

  in_part_now : (lt : Bool) (e : Extent) → nat_lt (size_of now) e.to ≡ lt → part_at prefix (size_of prefix) ≡ Some e → 10 ≤ length prefix
      → location_by (part_at now (size_of now)) ≡ cond lt (in_part e) (location_by (part_among parts_in_order (offsets_of now) (size_of now)))
  in_part_now false e lt found many = refl
  in_part_now true e lt found many =
      let under : size_of now < e.to = ltb-true (size_of now) e.to lt in
      ap (λ (os : List ℕ). location_by (part_among parts_in_order os (size_of now))) (same many)
      ∙ ap location_by (among-stays parts_in_order (offsets_of prefix) (size_of prefix) (size_of now) e ordered found grows under)

  by_part : (o : Option Extent) → part_at prefix (size_of prefix) ≡ o → 10 ≤ length prefix → location_by (part_at now (size_of now))
      ≡ next_location (location_by o) (offsets_of now) (size_of now)
  by_part None found many = refl
  by_part (Some e) found many = in_part_now (nat_lt (size_of now) e.to) e refl found many

  by_header : (b : Bool) → nat_lt (length prefix) 10 ≡ b → location_after now ≡ next_location (location_after prefix) (offsets_of now) (size_of now)
  by_header true e =
      let few : length prefix < 10 = ltb-true (length prefix) 10 e in
      let next : length now ≡ length prefix + 1 = count ∙ ap (λ n. length prefix + n) (one few) in
      (λ k. cond (nat_lt (next k) 10) (in_header (next k)) (location_by (part_at now (size_of now))))
      ∙ ap (λ b. cond b (in_header (length prefix + 1)) (location_by (part_at now (size_of now)))) (later_count (length prefix))
      ∙ sym (ap (λ b. next_location (cond b (in_header (length prefix)) (location_by (part_at prefix (size_of prefix)))) (offsets_of now) (size_of now)) e)
  by_header false e =
      let many : 10 ≤ length prefix = ltb-false (length prefix) 10 e in
      let past : nat_lt (length now) 10 ≡ false = le-ltb (length now) 10 (omega (arith, count, many)) in
      ap (λ b. cond b (in_header (length now)) (location_by (part_at now (size_of now)))) past
      ∙ by_part (part_at prefix (size_of prefix)) refl many
      ∙ sym (ap (λ b. next_location (cond b (in_header (length prefix)) (location_by (part_at prefix (size_of prefix)))) (offsets_of now) (size_of now)) e)

-- ---- inside a part

-- no part ends before a byte that is in the same part as the byte before it
pub inside-whole : (prefix : List Step) → AreOrdered (offsets_of prefix) → is_inside (location_after prefix) (size_of prefix) ≡ true
    → ended_part_fault prefix ≡ None
inside-whole prefix ordered inside = by_header (nat_lt (length prefix) 10) inside where
  in_its_part : (e : Extent) → part_at prefix (size_of prefix) ≡ Some e → size_of prefix < e.to → nat_lt e.from (size_of prefix) ≡ true
      → ended_part_fault prefix ≡ None
  in_its_part e found under begun =
      let some : e.from < size_of prefix = ltb-true e.from (size_of prefix) begun in
      let last : part_at prefix (size_of prefix - 1) ≡ Some e =
      among-back parts_in_order (offsets_of prefix) (size_of prefix) (size_of prefix - 1) e ordered found (omega (arith, some)) (omega arith) in
      ap (ended_fault prefix) last ∙ ap (λ t. cond t (whole_fault e.part prefix) None) (ne_eqb e.to (size_of prefix) (λ end. omega (arith, end, under)))

  by_part : (o : Option Extent) → part_at prefix (size_of prefix) ≡ o → is_inside (location_by o) (size_of prefix) ≡ true → ended_part_fault prefix ≡ None
  by_part None found is = absurd (true≢false (sym is))
  by_part (Some e) found is = in_its_part e found (among-within parts_in_order (offsets_of prefix) (size_of prefix) e found) is

  by_header : (b : Bool) → is_inside (cond b (in_header (length prefix)) (location_by (part_at prefix (size_of prefix)))) (size_of prefix) ≡ true
      → ended_part_fault prefix ≡ None
  by_header true is = absurd (true≢false (sym is))
  by_header false is = by_part (part_at prefix (size_of prefix)) refl is

-- ---- offsets that stay

-- no offset is added if their number stays the same
pub offsets-stay : (os : List ℕ) (o : Option ℕ) → length (os ++ cons_option o []) ≡ length os → os ++ cons_option o [] ≡ os
offsets-stay os None same = append-nil os
offsets-stay os (Some w) same = absurd (omega (arith, same, length-append os (w ∷ [])))
