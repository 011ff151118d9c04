-- All parts of a walk, one after another, and the record that ends the module after them.
use Rattle.std.proofs.Common.{◌≡◌, ◌⊎◌, ℕ, zero, suc, ◌+◌, ◌-◌, ◌<◌, ◌≤◌, Bool, true, false, cond, not, ◌==◌, ◌&&◌, nat_lt, nat_le, List, [], ◌∷◌}
use Rattle.std.proofs.Common.{◌++◌, length, Option, Some, None, refl, sym, ap, subst, ◌∙◌, inl, inr, arith, append-nil, ltb-false, length-append}
use Rattle.std.proofs.Common.{eq-eqb, ne_eqb, lt-ltb, le-ltb, le-leb, append_assoc}
use Rattle.std.specs.List.{list_all, list_any, AllByRecursion}
use Rattle.std.proofs.lemmas.Bool.{and_parts, or_parts, not-false, not-true, both_ways, cases_eq, cases_lt, not_from_false, true≢false}
use Rattle.mufom_records.specs.declared.record.Mode.TheVariants as mode
use Rattle.mufom_records.specs.declared.record.Record.{Record}
use Rattle.mufom_records.specs.declared.record.Record.TheVariants as r
use Rattle.mufom_records.specs.Fields.{first_of}
use Rattle.mufom_records.specs.Layouts.{IsWholeRecord}
use Rattle.mufom_module.specs.SpelledRecords.{SpelledRecord}
use Rattle.mufom_module.specs.RecordParts.{Part, end_part, number_of, stands_in}
use Rattle.mufom_judging.specs.Prefixes.{Step, read, step_bytes, prefix_bytes, size_of, records_of, offsets_of, Extent, Location, at_end, part_among}
use Rattle.mufom_judging.specs.Prefixes.{parts_in_order, first_present, part_at, location_by, location_after, is_module_end, is_ended}
use Rattle.mufom_judging.specs.Faults.{is_out_of_order, record_fault, step_fault, whole_fault, ended_fault, ended_part_fault}
use Rattle.mufom_judging.proofs.ended.Walk.{size-append, IsNextAt, IsWalk, taken}
use Rattle.mufom_judging.proofs.ended.Header.{ended-read, offsets-append, no_fault_if, read_here, after_header, InOrder}
use Rattle.mufom_judging.proofs.ended.Parts.{AllInside, Ready, Split, nothing_own, split_part}
use Rattle.mufom_records.specs.declared.options.ReadOptions.{ReadOptions}
use Rattle.mufom_judging.proofs.ended.Seen.{seen_later, IsOutside, of_debug_offset}
use Rattle.mufom_module.specs.Grammar.{debug_offset}

-- ---- offsets do not fall

all_prefix : {X : Type 0} (P : X → Type 0) (xs : List X) (x : X) → AllByRecursion P (xs ++ x ∷ []) → AllByRecursion P xs
all_prefix P [] x h = tt
all_prefix P (y ∷ xs) x h = (h.0, all_prefix P xs x h.1)

all_last : {X : Type 0} (P : X → Type 0) (xs : List X) (x : X) → AllByRecursion P (xs ++ x ∷ []) → P x
all_last P [] x h = h.0
all_last P (y ∷ xs) x h = all_last P xs x h.1

pub not_zero : (v : ℕ) → (suc v == 0) ≡ false
not_zero v = ne_eqb (suc v) 0 (λ h. omega arith)

none_above : (w : ℕ) (earlier : List ℕ) → list_any (λ e. nat_lt w e) earlier ≡ false → AllByRecursion (λ e. e ≤ w) earlier
none_above w [] h = tt
none_above w (e ∷ earlier) h = let both = or_parts (nat_lt w e) (list_any (λ x. nat_lt w x) earlier) h in (ltb-false w e both.0, none_above w earlier both.1)

no_such : (a b : Bool) → not a ≡ true → (not a && b) ≡ false → b ≡ false
no_such true b h e = cc
no_such false b h e = e

both-false : (a b : Bool) → a ≡ true → b ≡ true → (a && b) ≡ false → ⊥
both-false true true x y h = true≢false h
both-false true false x y h = true≢false (sym y)
both-false false b x y h = true≢false (sym x)

-- the last offset is not 0
last_present : (earlier : List ℕ) → length earlier ≡ 7 → is_out_of_order earlier 0 ≡ false → ⊥
last_present earlier count h =
    let parts = or_parts (not (0 == 0) && list_any (λ e. nat_lt 0 e) earlier) ((length earlier == 7) && (0 == 0)) h in
    both-false (length earlier == 7) (0 == 0) (eq-eqb (length earlier) 7 count) refl parts.1

bounded : (earlier offsets : List ℕ) → InOrder earlier offsets → length earlier + length offsets ≡ 8 → 1 ≤ length offsets
    → AllByRecursion (λ e. e ≤ first_present offsets) earlier
bounded earlier [] order count some = absurd (omega arith)
bounded earlier (zero ∷ []) order count some = absurd (last_present earlier (omega arith) order.0)
bounded earlier (zero ∷ w ∷ offsets) order count some =
    let long = length-append earlier (0 ∷ []) in
    all_prefix (λ e. e ≤ first_present (w ∷ offsets)) earlier 0 (bounded (earlier ++ 0 ∷ []) (w ∷ offsets) order.1 (omega arith) (omega arith))
bounded earlier (suc v ∷ offsets) order count some =
    let parts = or_parts (not (suc v == 0) && list_any (λ e. nat_lt (suc v) e) earlier) ((length earlier == 7) && (suc v == 0)) order.0 in
    none_above (suc v) earlier (no_such (suc v == 0) (list_any (λ e. nat_lt (suc v) e) earlier) (not_from_false (suc v == 0) (not_zero v)) parts.0)

all_append : {X : Type 0} (P : X → Type 0) (xs ys : List X) → AllByRecursion P xs → AllByRecursion P ys → AllByRecursion P (xs ++ ys)
all_append P [] ys first second = second
all_append P (x ∷ xs) ys first second = (first.0, all_append P xs ys first.1 second)

all_map : {X : Type 0} (P Q : X → Type 0) (xs : List X) → ((x : X) → P x → Q x) → AllByRecursion P xs → AllByRecursion Q xs
all_map P Q [] to each = tt
all_map P Q (x ∷ xs) to each = (to x each.0, all_map P Q xs to each.1)

-- offsets after others are 0, or at least as large as a number that is no larger than those
above : (b : ℕ) (earlier offsets : List ℕ) → InOrder earlier offsets → length earlier + length offsets ≡ 8
    → ((x : ℕ) → AllByRecursion (λ e. e ≤ x) earlier → b ≤ x) → AllByRecursion (λ x. (x ≡ 0) ⊎ (b ≤ x)) offsets
above b earlier [] order count has = tt
above b earlier (zero ∷ offsets) order count has = (
  inl refl,
  above b (earlier ++ 0 ∷ []) offsets order.1 (omega (arith, count, length-append earlier (0 ∷ [])))
      (λ x each. has x (all_prefix (λ e. e ≤ x) earlier 0 each)),
)
above b earlier (suc v ∷ offsets) order count has = (
  inr (has (suc v) (bounded earlier (suc v ∷ offsets) order count (omega arith))),
  above b (earlier ++ suc v ∷ []) offsets order.1
      (omega (arith, count, length-append earlier (suc v ∷ []))) (λ x each. has x (all_prefix (λ e. e ≤ x) earlier (suc v) each)),
)

high_later : (earlier offsets : List ℕ) → InOrder earlier offsets → length earlier + length offsets ≡ 8
    → AllByRecursion (λ x. (x ≡ 0) ⊎ (first_present offsets ≤ x)) offsets
high_later earlier [] order count = tt
high_later earlier (zero ∷ offsets) order count =
    (inl refl, high_later (earlier ++ 0 ∷ []) offsets order.1 (omega (arith, count, length-append earlier (0 ∷ []))))
high_later earlier (suc v ∷ offsets) order count = (
  inr (omega arith),
  above (suc v) (earlier ++ suc v ∷ []) offsets order.1 (omega (arith, count, length-append earlier (suc v ∷ [])))
      (λ x each. all_last (λ e. e ≤ x) earlier (suc v) each),
)

-- the debug part begins before a part or after it
outside_all : (earlier : List ℕ) (v : ℕ) (offsets : List ℕ) → InOrder earlier (suc v ∷ offsets) → length earlier + length (suc v ∷ offsets) ≡ 8
    → 1 ≤ length offsets → IsOutside (suc v) (first_present offsets) (debug_offset (earlier ++ suc v ∷ offsets))
outside_all earlier v offsets order count some =
    let P = IsOutside (suc v) (first_present offsets) in
    let low = all_map (λ e. e ≤ suc v) P earlier (λ x h. inr (inl h)) (bounded earlier (suc v ∷ offsets) order count (omega arith)) in
    let high = all_map (λ x. (x ≡ 0) ⊎ (first_present offsets ≤ x)) P offsets (λ x h. elim h [ inl none ↦ inl none | inr up ↦ inr (inr up) ])
    (high_later (earlier ++ suc v ∷ []) offsets order.1 (omega (arith, count, length-append earlier (suc v ∷ [])))) in
    of_debug_offset P (earlier ++ suc v ∷ offsets) (inl refl) (all_append P earlier (suc v ∷ offsets) low (inr (inl (omega arith)), high))

-- ---- one part after another

-- a part, whose steps are those up to the next offset
pub record Chunk (options : ReadOptions) (all : List ℕ) (part : Part) (w to : ℕ) (before steps : List Step) : Type 0 where
  pub cut : Split options part to all false before steps
  pub stands : ((w ≡ size_of before) × (w ≡ 0 → ⊥)) ⊎ ((w ≡ 0) × (cut.own ≡ []))
  pub faultless : (cut.own ≡ []) ⊎ (whole_fault part (before ++ cut.own) ≡ None)

-- the record that ends the module, at the last offset
pub record EndsThere (before : List Step) (offsets : List ℕ) (steps : List Step) : Type 0 where
  pub offset : offsets ≡ size_of before ∷ []
  pub spelled : SpelledRecord
  pub is_last : steps ≡ read (size_of before) spelled ∷ []
  pub is_whole : IsWholeRecord mode.Body spelled.row spelled.bytes None
  pub own : stands_in end_part spelled.row ≡ true

-- the parts with their offsets, and the end
abbrev pub Chunks : ReadOptions → List ℕ → List Part → List ℕ → List Step → List Step → Type 0
Chunks options all [] offsets before steps = EndsThere before offsets steps
Chunks options all (part ∷ parts) [] before steps = ⊥
Chunks options all (part ∷ parts) (w ∷ offsets) before steps = (c : Chunk options all part w (first_present offsets) before steps)
    × Chunks options all parts offsets (before ++ c.cut.own) c.cut.later

-- what holds at the start of a part
record Begun (options : ReadOptions) (all : List ℕ) (parts : List Part) (earlier offsets : List ℕ) (before steps : List Step) : Type 0 where
  count : length offsets ≡ suc (length parts)
  own : list_all (λ p. not (number_of p == 7)) parts ≡ true
  order : InOrder earlier offsets
  eight : length earlier + length offsets ≡ 8
  split : all ≡ earlier ++ offsets
  offsets_named : (at : ℕ) → size_of before ≤ at → part_among parts_in_order all at ≡ part_among parts offsets at
  here : size_of before ≡ first_present offsets
  many : 10 ≤ length before
  offsets_are : offsets_of before ≡ all
  unended : is_ended before ≡ false
  ends : is_ended (before ++ steps) ≡ true
  walk : IsWalk options before steps

-- ---- the end

pub is_end : (row : Record) → stands_in end_part row ≡ true → is_module_end row ≡ true
is_end r.ModuleEnd h = refl
is_end row h = cc

end_offset : (earlier offsets : List ℕ) (n : ℕ) → length offsets ≡ 1 → length earlier + length offsets ≡ 8 → InOrder earlier offsets → n
    ≡ first_present offsets → offsets ≡ n ∷ []
end_offset earlier [] n count eight order here = absurd (omega arith)
end_offset earlier (zero ∷ []) n count eight order here = absurd (last_present earlier (omega arith) order.0)
end_offset earlier (suc w ∷ []) n count eight order here = ap (λ (k : ℕ). k ∷ []) (sym here)
end_offset earlier (w ∷ v ∷ offsets) n count eight order here = absurd (omega arith)

nothing_after : (options : ReadOptions) (prefix steps : List Step) → is_ended prefix ≡ true → IsWalk options prefix steps → steps ≡ []
nothing_after options prefix [] ends walk = refl
nothing_after options prefix (s ∷ steps) ends walk = absurd (both_ways (is_ended prefix) walk.0 ends)

the_end : (options : ReadOptions) (all earlier offsets : List ℕ) (before steps : List Step) → Begun options all [] earlier offsets before steps
    → EndsThere before offsets steps
the_end options all earlier offsets before [] begun = absurd
    (both_ways (is_ended before) begun.unended (ap (λ l. is_ended l) (sym (append-nil before)) ∙ begun.ends))
the_end options all earlier offsets before (step ∷ steps) begun =
    let start = size_of before in
    let none : part_among [] offsets start ≡ None = refl in
    let fault_offset : location_after before ≡ at_end = after_header before begun.many
    ∙ ap (λ ws. location_by (part_among parts_in_order ws start)) begun.offsets_are ∙ ap location_by (begun.offsets_named start (omega arith)) in
    let here = read_here mode.Body before step steps (subst (λ (p : Location). IsNextAt options before p (prefix_bytes (step ∷ steps)) step
    (length (step_bytes step))) fault_offset begun.walk.3) in
    let p = here.spelled in
    let fault : step_fault before (taken (read start p) (length p.bytes)) ≡ None =
    subst (λ (s : Step). step_fault before (taken s (length (step_bytes s))) ≡ None) here.is_this begun.walk.2 in
    let at_it : record_fault before at_end start p ≡ None = subst (λ (q : Location). record_fault before q start p ≡ None) fault_offset fault in
    let own = not-false (stands_in end_part p.row) (no_fault_if (not (stands_in end_part p.row)) start _ at_it) in
    let ended : is_ended (before ++ read start p ∷ []) ≡ true = ended-read before start p ∙ is_end p.row own in
    let last = nothing_after options (before ++ read start p ∷ []) steps ended
    (subst (λ (s : Step). IsWalk options (before ++ s ∷ []) steps) here.is_this begun.walk.4) in
    record {
      offset = end_offset earlier offsets start begun.count begun.eight begun.order begun.here;
      spelled = p;
      is_last = (λ i. here.is_this i ∷ last i);
      is_whole = subst (λ (l : List Step). IsWholeRecord mode.Body p.row p.bytes (first_of (prefix_bytes l) None)) last here.is_whole;
      own = own;
    }

-- ---- a part that is there

-- the test by which a place lies in a part
pub is_within : (w at to : ℕ) → (w ≡ 0 → ⊥) → w ≤ at → at < to → (not (w == 0) && (nat_le w at && nat_lt at to)) ≡ true
is_within w at to some low high =
    let a = ne_eqb w 0 some in
    let b = le-leb w at low in
    let c = lt-ltb at to high in
    all_three (w == 0) (nat_le w at) (nat_lt at to) a b c
  where
    all_three : (x y z : Bool) → x ≡ false → y ≡ true → z ≡ true → (not x && (y && z)) ≡ true
    all_three false true true x y z = refl
    all_three true b c x y z = cc
    all_three false false c x y z = cc
    all_three false true false x y z = cc

pub is_after : (w at to : ℕ) → to ≤ at → (not (w == 0) && (nat_le w at && nat_lt at to)) ≡ false
is_after w at to high = last_false (not (w == 0)) (nat_le w at) (nat_lt at to) (le-ltb at to high) where
  last_false : (x y z : Bool) → z ≡ false → (x && (y && z)) ≡ false
  last_false true true z h = h
  last_false true false z h = refl
  last_false false y z h = refl

-- the error of a part that ends where a prefix does and is not empty
pub whole_of : (part : Part) (from to : ℕ) (all : List ℕ) (prefix : List Step) → AllInside part from to all → offsets_of prefix ≡ all → size_of prefix
    ≡ to → from < to → ended_part_fault prefix ≡ None → whole_fault part prefix ≡ None
whole_of part from to all prefix within offsets size some h =
    let fault_offset : part_at prefix (size_of prefix - 1) ≡ Some (record { part = part; from = from; to = to }) =
    ap (λ ws. part_among parts_in_order ws (size_of prefix - 1)) offsets ∙ within (size_of prefix - 1) (omega arith) (omega arith) in
    let fault : cond (to == size_of prefix) (whole_fault part prefix) None ≡ None = subst (λ (o : Option Extent). ended_fault prefix o ≡ None) fault_offset h in
    subst (λ (b : Bool). cond b (whole_fault part prefix) None ≡ None) (eq-eqb to (size_of prefix) (sym size)) fault

-- the steps after a prefix that has not ended
pub no_whole_fault : (options : ReadOptions) (prefix later : List Step) → is_ended prefix ≡ false → is_ended (prefix ++ later) ≡ true
    → IsWalk options prefix later → ended_part_fault prefix ≡ None
no_whole_fault options prefix [] open_ ends walk = absurd (both_ways (is_ended prefix) open_ (ap (λ l. is_ended l) (sym (append-nil prefix)) ∙ ends))
no_whole_fault options prefix (s ∷ later) open_ ends walk = walk.1

empty_chunk : (options : ReadOptions) (all : List ℕ) (part : Part) (w to : ℕ) (before steps : List Step) → size_of before ≡ to
    → ((w ≡ size_of before) × (w ≡ 0 → ⊥))
    ⊎ (w ≡ 0) → is_ended before ≡ false → is_ended (before ++ steps) ≡ true → IsWalk options before steps
    → Chunk options all part w to before steps
empty_chunk options all part w to before steps size stands open_ ends walk =
    let same = append-nil before in
    record {
      cut = record {
        own = [];
        later = steps;
        split = refl;
        walk = subst (λ (l : List Step). IsWalk options l steps) (sym same) walk;
        unended = ap (λ l. is_ended l) same ∙ open_;
        ends = ap (λ l. is_ended (l ++ steps)) same ∙ ends;
        size = ap size_of same ∙ size;
        offsets = refl;
        is_own = nothing_own options part false (records_of before) (seen_later options all to (prefix_bytes steps));
      };
      stands = elim stands [ inl here ↦ inl here | inr none ↦ inr (none, refl) ];
      faultless = inl refl;
    }

full_chunk : (options : ReadOptions) (part : Part) (w to : ℕ) (all : List ℕ) (before steps : List Step) → AllInside part w to all → (number_of part == 7)
    ≡ false → w ≡ size_of before → (w ≡ 0 → ⊥) → w < to
    → 10 ≤ length before → offsets_of before ≡ all → is_ended before ≡ false → is_ended (before ++ steps) ≡ true → IsWalk options before steps
    → IsOutside w to (debug_offset all) → Chunk options all part w to before steps
full_chunk options part w to all before steps within other here present some many offsets open_ ends walk outside =
    let test : (size_of before == w) ≡ true = eq-eqb (size_of before) w (sym here) in
    let ready : Ready options w to all false before steps = record {
      many = many;
      offsets = offsets;
      begun = omega arith;
      inside = omega arith;
      unended = open_;
      ends = ends;
      flag = λ h. absurd (both_ways (not (size_of before == w)) (ap (λ b. not b) test) (and_parts _ _ h).0);
      outside = outside;
      walk = walk;
    } in
    let cut = split_part options part w to all false before steps within other ready in
    let grown : offsets_of (before ++ cut.own) ≡ all = offsets-append before cut.own ∙ (λ i. offsets i ++ cut.offsets i) ∙ append-nil all in
    record {
      cut = cut;
      stands = inl (here, present);
      faultless = inr (whole_of part w to all (before ++ cut.own) within grown cut.size some
          (no_whole_fault options (before ++ cut.own) cut.later cut.unended cut.ends cut.walk));
    }

-- ---- all parts

chunk_of : (options : ReadOptions) (all : List ℕ) (part : Part) (parts : List Part) (earlier : List ℕ) (w : ℕ) (offsets : List ℕ)
    (before steps : List Step) → Begun options all (part ∷ parts) earlier (w ∷ offsets) before steps
    → Chunk options all part w (first_present offsets) before steps
chunk_of options all part parts earlier zero offsets before steps begun =
    empty_chunk options all part 0 (first_present offsets) before steps begun.here (inr refl) begun.unended begun.ends begun.walk
chunk_of options all part parts earlier (suc v) offsets before steps begun =
    let to = first_present offsets in
    let long = length-append earlier (suc v ∷ []) in
    let low : suc v ≤ to = all_last (λ e. e ≤ to) earlier (suc v)
    (bounded (earlier ++ suc v ∷ []) offsets begun.order.1 (omega (arith, begun.eight)) (omega (arith, begun.count))) in
    let within : AllInside part (suc v) to all = λ at x y. begun.offsets_named at (omega (arith, begun.here))
    ∙ ap (λ b. cond b (Some (record { part = part; from = suc v; to = to })) (part_among parts offsets at)) (is_within (suc v) at to (λ h. omega arith) x y) in
    elim (cases_eq (suc v) to) [
      | inl same ↦ empty_chunk options all part (suc v) to before steps (begun.here
          ∙ same) (inl (sym begun.here, λ h. omega arith)) begun.unended begun.ends begun.walk
      | inr not_same ↦ full_chunk options part (suc v) to all before steps within (not-true (number_of part == 7) (and_parts _ _ begun.own).0)
          (sym begun.here) (λ h. omega arith) (below_from (suc v) to not_same low)
          begun.many begun.offsets_are begun.unended begun.ends begun.walk
          (subst (λ (ws : List ℕ). IsOutside (suc v) to (debug_offset ws)) (sym begun.split)
          (outside_all earlier v offsets begun.order (omega (arith, begun.eight)) (omega (arith, begun.count))))
    ]
  where
    below_from : (a b : ℕ) → (a ≡ b → ⊥) → a ≤ b → a < b
    below_from a b no_ h = elim (cases_lt a b) [ inl is ↦ is | inr is ↦ absurd (no_ (omega arith)) ]

later_places : (all : List ℕ) (part : Part) (parts : List Part) (w : ℕ) (offsets : List ℕ) (low size : ℕ) → low ≤ size → first_present offsets ≡ size
    → ((at : ℕ) → low ≤ at → part_among parts_in_order all at ≡ part_among (part ∷ parts) (w ∷ offsets) at)
    → (at : ℕ) → size ≤ at → part_among parts_in_order all at ≡ part_among parts offsets at
later_places all part parts w offsets low size more here offsets_named at high =
    offsets_named at (omega arith) ∙ ap (λ b. cond b (Some (record { part = part; from = w; to = first_present offsets }))
    (part_among parts offsets at)) (is_after w at (first_present offsets) (omega arith))

next_begun : (options : ReadOptions) (all : List ℕ) (part : Part) (parts : List Part) (earlier : List ℕ) (w : ℕ) (offsets : List ℕ)
    (before steps : List Step) → Begun options all (part ∷ parts) earlier (w ∷ offsets) before steps
    → (c : Chunk options all part w (first_present offsets) before steps)
    → Begun options all parts (earlier ++ w ∷ []) offsets (before ++ c.cut.own) c.cut.later
next_begun options all part parts earlier w offsets before steps begun c =
    let longer : size_of (before ++ c.cut.own) ≡ size_of before + size_of c.cut.own = size-append before c.cut.own in
    record {
      count = omega (arith, begun.count);
      own = (and_parts _ _ begun.own).1;
      order = begun.order.1;
      eight = omega (arith, begun.eight, length-append earlier (w ∷ []));
      split = begun.split ∙ sym (append_assoc earlier (w ∷ []) offsets);
      offsets_named = later_places all part parts w offsets (size_of before) (size_of (before ++ c.cut.own)) (omega arith) (sym c.cut.size) begun.offsets_named;
      here = c.cut.size;
      many = omega (arith, begun.many, length-append before c.cut.own);
      offsets_are = offsets-append before c.cut.own ∙ (λ i. begun.offsets_are i ++ c.cut.offsets i) ∙ append-nil all;
      unended = c.cut.unended;
      ends = c.cut.ends;
      walk = c.cut.walk;
    }

walk_parts : (options : ReadOptions) (all : List ℕ) (parts : List Part) (earlier offsets : List ℕ) (before steps : List Step)
    → Begun options all parts earlier offsets before steps → Chunks options all parts offsets before steps
walk_parts options all [] earlier offsets before steps begun = the_end options all earlier offsets before steps begun
walk_parts options all (part ∷ parts) earlier [] before steps begun = absurd (omega (arith, begun.count))
walk_parts options all (part ∷ parts) earlier (w ∷ offsets) before steps begun =
    let c = chunk_of options all part parts earlier w offsets before steps begun in (
      c,
      walk_parts options all parts (earlier ++ w ∷ []) offsets (before
          ++ c.cut.own) c.cut.later (next_begun options all part parts earlier w offsets before steps begun c),
    )

-- after the header
pub chunks_of : (options : ReadOptions) (offsets : List ℕ) (before steps : List Step) → length offsets ≡ 8 → InOrder [] offsets → size_of before
    ≡ first_present offsets → 10 ≤ length before → offsets_of before ≡ offsets
    → is_ended before ≡ false → is_ended (before ++ steps) ≡ true → IsWalk options before steps → Chunks options offsets parts_in_order offsets before steps
chunks_of options offsets before steps count order here many are open_ ends walk =
    walk_parts options offsets parts_in_order [] offsets before steps (record {
      count = count;
      own = refl;
      order = order;
      eight = omega arith;
      split = refl;
      offsets_named = λ at _. refl;
      here = here;
      many = many;
      offsets_are = are;
      unended = open_;
      ends = ends;
      walk = walk;
    })
