-- What the entries of the module of a location weigh, against those that they come from.
use Rattle.std.proofs.Common.{◌≡◌, ℕ, zero, suc, ◌+◌, ◌*◌, ◌-◌, ◌≤◌, ◌⊎◌, inl, inr, List, [], ◌∷◌, ◌++◌, map, take, drop, filter, flat_map, length}
use Rattle.std.proofs.Common.{Option, Some, None, Bool, true, false, not, cond, refl, sym, ◌∙◌, ap, arith, sum_by, length-append}
use Rattle.std.specs.Prelude.{option_map, slice_get, nat_lt, ◌==◌, if◌then◌else◌}
use Rattle.std.specs.List.{enumerate_from}
use Rattle.std.proofs.lemmas.List.{take-append-drop}
use Rattle.std.proofs.lemmas.List.Sums.{sum_by-append, sum_by-cons}
use Rattle.mufom_numbers.specs.declared.limits.TheConstants.{MOST_STRING_BYTES}
use Rattle.mufom_expr.specs.declared.token.Token.TheVariants.{Fun}
use Rattle.mufom_expr.specs.Tree.{Tree, number, variable, one, two, tokens_of, function_of_one, function_of_two}
use Rattle.mufom_sections.specs.declared.section.Section.{Section}
use Rattle.mufom_names.specs.declared.name.Weak.{Weak}
use Rattle.mufom_names.specs.declared.name.Reference.{Reference}
use Rattle.mufom_loads.specs.declared.load.Item.TheVariants.{Literal}
use Rattle.mufom_loads.specs.declared.load.Load.{Load}
use Rattle.mufom_loads.specs.declared.load.Load.TheVariants.{SetSection, SetPc, One, Repeat}
use Rattle.mufom_debug.specs.declared.item.BlockHead.{BlockHead}
use Rattle.mufom_debug.specs.declared.item.BlockHead.TheVariants as heads
use Rattle.mufom_debug.specs.Marks.{DebugMark, block_begin, block_end, name_mark, note_mark, value_mark, marks_of}
use Rattle.mufom_module.specs.declared.module.Parts.{Parts}
use Rattle.mufom_module.specs.Weights.{token_weight, expression_weight, section_letters_weight, base_weight, section_weight, notes_weight}
use Rattle.mufom_module.specs.Weights.{public_weight, weak_weight, reference_weight, head_weight, mark_weight, load_weight}
use Rattle.mufom_meaning.specs.declared.located.Run.{Run}
use Rattle.mufom_meaning.specs.declared.located.PublicValue.{PublicValue}
use Rattle.mufom_meaning.specs.Flat.{Sited, SitedPublic, sited_from, name_count, is_common, common_size}
use Rattle.mufom_meaning.specs.Values.{Setting, value}
use Rattle.mufom_meaning.specs.Readings.{PublicReading, public_reading, head_reading, mark_reading}
use Rattle.mufom_meaning.specs.Location.{placed_section, located_public, located_mark, located_head}
use Rattle.mufom_meaning.specs.Absolute.{absolute_public, chunks_within, chunks, run_within, loads_of_run, loads_of_bytes, loads_between}
use Rattle.mufom_meaning.specs.Absolute.{with_section, section_loads_at, section_loads}
use Rattle.mufom_meaning.specs.AddressMap.{cells_from}
use Rattle.mufom_numbers.proofs.Choices.{of_lt}
use Rattle.mufom_meaning.proofs.Members.{In}
use Rattle.mufom_meaning.proofs.absolute.Cells.{cells_within, cells_at, section_cells, absolute_cells}
use Rattle.mufom_meaning.proofs.absolute.Counts.{length-cells_from}

-- an expression weighs at least what a number does
pub at_least_number : (t : Tree) → 9 ≤ expression_weight t
at_least_number (number n) = omega arith
at_least_number (variable l n) = omega arith
at_least_number (one f a) = let own = at_least_number a in let all = sum_by-append token_weight (tokens_of a) (Fun (function_of_one f) ∷ []) in
    omega (arith, own, all)
at_least_number (two f a b) =
    let own = at_least_number a in
    let all = sum_by-append token_weight (tokens_of a ++ tokens_of b) (Fun (function_of_two f) ∷ []) in
    let first = sum_by-append token_weight (tokens_of a) (tokens_of b) in omega (arith, own, all, first)

-- ---- lists

module _ {X Y : Type 0} (w : Y → ℕ) (v : X → ℕ) (f : X → Y) (lighter : (x : X) → w (f x) ≤ v x) where
  pub lighter-map : (xs : List X) → sum_by w (map f xs) ≤ sum_by v xs
  lighter-map [] = omega arith
  lighter-map (x ∷ xs) =
      let a = sum_by-cons w (f x) (map f xs) in let b = sum_by-cons v x xs in
      let own = lighter x in let rest = lighter-map xs in omega (arith, a, b, own, rest)

-- the same element by element
pub lighter-all : {X : Type 0} (w v : X → ℕ) → ((x : X) → w x ≤ v x) → (xs : List X) → sum_by w xs ≤ sum_by v xs
lighter-all w v lighter [] = omega arith
lighter-all w v lighter (x ∷ xs) =
    let a = sum_by-cons w x xs in let b = sum_by-cons v x xs in let own = lighter x in let rest = lighter-all w v lighter xs in omega (arith, a, b, own, rest)

-- the same of the entries of all modules, one after another
pub lighter-sited : {X Y : Type 0} (w : Y → ℕ) (v : X → ℕ) (own : Parts → List X) (into : Sited → X → Y) → ((site : Sited) (x : X) → w (into site x) ≤ v x)
    → (s p d : ℕ) (ms : List Parts) → sum_by w (flat_map (λ site. map (into site) (own site.parts)) (sited_from s p d ms)) ≤ sum_by (λ m. sum_by v (own m)) ms
lighter-sited w v own into lighter s p d [] = omega arith
lighter-sited {X} {Y} w v own into lighter s p d (m ∷ ms) =
    let site : Sited = record { parts = m; first_section = s; first_public = p; first_name = d } in
    let rest = flat_map (λ site. map (into site) (own site.parts))
    (sited_from (s + length m.sections) (p + length m.names.publics) (d + name_count (marks_of m.debug)) ms) in
    let first = lighter-map w v (into site) (lighter site) (own m) in
    let later = lighter-sited w v own into lighter (s + length m.sections) (p + length m.names.publics) (d + name_count (marks_of m.debug)) ms in
    let a = sum_by-append w (map (into site) (own m)) rest in
    let b = sum_by-cons (λ (n : Parts). sum_by v (own n)) m ms in
    omega (arith, first, later, a, b)

-- a sum with so much more for each element
pub sum-more : {X : Type 0} (w : X → ℕ) (more : ℕ) (xs : List X) → sum_by (λ x. w x + more) xs ≡ sum_by w xs + more * length xs
sum-more w more [] = omega arith
sum-more w more (x ∷ xs) =
    let a = sum_by-cons (λ x. w x + more) x xs in let b = sum_by-cons w x xs in let rest = sum-more w more xs in
    let times : more * length (x ∷ xs) ≡ more + more * length xs = omega arith in omega (arith, a, b, rest, times)

-- ---- sections

based : (o : Option ℕ) → base_weight o ≤ 20
based None = omega arith
based (Some n) = omega arith

pub lettered : (b : Bool) → 1 ≤ section_letters_weight b
lettered true = omega arith
lettered false = omega arith

-- a placed section is absolute and has a base
placed-lighter : (bs : List ℕ) (t : ℕ × Section) → section_weight (placed_section bs t) ≤ section_weight t.1 + 21
placed-lighter bs t = let base = based (slice_get bs t.0) in let letters = lettered t.1.absolute in omega (arith, base, letters)

pub sections-lighter : (bs : List ℕ) (k : ℕ) (sections : List Section)
    → sum_by section_weight (map (placed_section bs) (enumerate_from k sections)) ≤ sum_by section_weight sections + 21 * length sections
sections-lighter bs k [] = omega arith
sections-lighter bs k (x ∷ sections) =
    let a = sum_by-cons section_weight (placed_section bs (k, x)) (map (placed_section bs) (enumerate_from (k + 1) sections)) in
    let b = sum_by-cons section_weight x sections in
    let own = placed-lighter bs (k, x) in
    let rest = sections-lighter bs (k + 1) sections in
    omega (arith, a, b, own, rest)

-- ---- publics, starts and debug marks

abbrev pub reading_weight : PublicReading → ℕ
reading_weight q = 24 + length q.name + notes_weight q.notes + 9

pub public-located : (p : PublicValue) → public_weight (absolute_public p) ≡ reading_weight (located_public p)
public-located p = refl

pub public-lighter : (s : Setting) (q : SitedPublic) → reading_weight (public_reading s q) ≤ public_weight q.entry
public-lighter s q = let own = at_least_number q.entry.value in omega (arith, own)

-- the weight of a debug record as it is located; 0 if it has none
abbrev pub located_weight : Option DebugMark → ℕ
located_weight None = 0
located_weight (Some mark) = mark_weight mark

abbrev located_head_weight : Option BlockHead → ℕ
located_head_weight None = 0
located_head_weight (Some head) = head_weight head

begin-located : (name : List ℕ) (o : Option BlockHead) → located_weight (option_map (λ h. block_begin h name) o) ≤ 22 + length name + located_head_weight o
begin-located name None = omega arith
begin-located name (Some head) = omega arith

module _ (s : Setting) (site : Sited) where
  head-lighter : (head : BlockHead) → located_head_weight (located_head (head_reading s site head)) ≤ head_weight head
  head-lighter heads.Module = omega arith
  head-lighter (heads.Source numbers) = omega arith
  head-lighter (heads.Global stack type_index offset) = by_value (value s site None offset) (at_least_number offset) where
    by_value : (o : Option ℕ) → 9 ≤ expression_weight offset → located_head_weight
        (option_map (λ n. heads.Global stack type_index (number n)) o) ≤ 18 + expression_weight offset
    by_value None own = omega arith
    by_value (Some n) own = omega (arith, own)
  head-lighter (heads.Local stack type_index offset) = by_value (value s site None offset) (at_least_number offset) where
    by_value : (o : Option ℕ) → 9 ≤ expression_weight offset → located_head_weight
        (option_map (λ n. heads.Local stack type_index (number n)) o) ≤ 18 + expression_weight offset
    by_value None own = omega arith
    by_value (Some n) own = omega (arith, own)
  head-lighter (heads.Section section_type section offset) = by_value (value s site None offset) (at_least_number offset) where
    by_value : (o : Option ℕ) → 9 ≤ expression_weight offset
        → located_head_weight (option_map (λ n. heads.Section section_type (site.first_section + section) (number n)) o) ≤ 18 + expression_weight offset
    by_value None own = omega arith
    by_value (Some n) own = omega (arith, own)

  pub mark-lighter : (mark : DebugMark) → located_weight (located_mark (mark_reading s site mark)) ≤ mark_weight mark
  mark-lighter (block_begin head name) =
      let own = head-lighter head in let all = begin-located name (located_head (head_reading s site head)) in omega (arith, own, all)
  mark-lighter (block_end None) = omega arith
  mark-lighter (block_end (Some t)) = by_value (value s site None t) (at_least_number t) where
    by_value : (o : Option ℕ) → 9 ≤ expression_weight t → located_weight (option_map (λ n. block_end (Some (number n))) o) ≤ 1 + expression_weight t
    by_value None own = omega arith
    by_value (Some n) own = omega (arith, own)
  mark-lighter (name_mark name) = omega arith
  mark-lighter (note_mark name note) = omega arith
  mark-lighter (value_mark name t) = by_value (value s site None t) (at_least_number t) where
    by_value : (o : Option ℕ) → 9 ≤ expression_weight t → located_weight
        (option_map (λ n. value_mark (site.first_name + name) (number n)) o) ≤ 11 + expression_weight t
    by_value None own = omega arith
    by_value (Some n) own = omega (arith, own)

-- ---- references that request space

-- a weak reference of a size above 0 is an entry of its own, with its name
abbrev pub asked_weight : Reference → ℕ
asked_weight r = 32 + length r.name

common-heavy : (r : Reference) → is_common r ≡ true → asked_weight r ≤ reference_weight r
common-heavy r e = by_weak r.weak e where
  by_weak : (o : Option Weak) → not (common_size o == 0) ≡ true → 32 + length r.name ≤ 13 + length r.name + notes_weight r.notes + weak_weight o
  by_weak None e = absurd cc
  by_weak (Some w) e = omega arith

pub asked-lighter : (rs : List Reference) → sum_by asked_weight (filter is_common rs) ≤ sum_by reference_weight rs
asked-lighter [] = omega arith
asked-lighter (r ∷ rs) = by_case (is_common r) refl (asked-lighter rs) where
  by_case : (b : Bool) → is_common r ≡ b → sum_by asked_weight (filter is_common rs) ≤ sum_by reference_weight rs
      → sum_by asked_weight (cond b (r ∷ filter is_common rs) (filter is_common rs)) ≤ sum_by reference_weight (r ∷ rs)
  by_case true e rest =
      let a = sum_by-cons asked_weight r (filter is_common rs) in let b = sum_by-cons reference_weight r rs in let own = common-heavy r e in
      omega (arith, a, b, own, rest)
  by_case false e rest = let b = sum_by-cons reference_weight r rs in omega (arith, b, rest)

-- ---- loads

literals-lighter : (size n : ℕ) (bytes : List ℕ) → sum_by load_weight
    (map (λ chunk. One (Literal chunk)) (chunks_within n (suc size) bytes)) ≤ 11 * length bytes
literals-lighter size zero bytes = omega arith
literals-lighter size (suc n) [] = omega arith
literals-lighter size (suc n) (byte ∷ bytes) =
    let own = take (suc size) (byte ∷ bytes) in
    let rest = drop (suc size) (byte ∷ bytes) in
    let a = sum_by-cons load_weight (One (Literal own)) (map (λ chunk. One (Literal chunk)) (chunks_within n (suc size) rest)) in
    let later = literals-lighter size n rest in
    let all = sym (length-append (take size bytes) (drop size bytes)) ∙ ap length (take-append-drop size bytes) in
    omega (arith, a, later, all)

row-lighter : (n : ℕ) (row : Run) → 1 ≤ length row.bytes → sum_by load_weight (loads_of_run n row) ≤ 31 * length row.bytes
row-lighter n row some =
    let a = sum_by-cons load_weight (SetPc n (number row.address)) (map (λ chunk. One (Literal chunk)) (chunks MOST_STRING_BYTES row.bytes)) in
    let own = literals-lighter 65534 (length row.bytes) row.bytes in
    omega (arith, a, own, some)

run-lighter : (n : ℕ) (row : Run) → sum_by load_weight (loads_of_bytes n row row.bytes) ≤ 31 * length row.bytes
run-lighter n row = by_bytes row.bytes refl where
  by_bytes : (bytes : List ℕ) → row.bytes ≡ bytes → sum_by load_weight (loads_of_bytes n row bytes) ≤ 31 * length row.bytes
  by_bytes [] e = omega arith
  by_bytes (byte ∷ bytes) e = let some : 1 ≤ length row.bytes = (let count = ap length e in omega (arith, count)) in row-lighter n row some

between-lighter : (n from to : ℕ) (runs : List Run) → sum_by load_weight (loads_between n runs from to) ≤ 31 * length (cells_within from to runs)
between-lighter n from to [] = omega arith
between-lighter n from to (run ∷ runs) =
    let row = run_within from to run in
    let own = run-lighter n row in
    let count = length-cells_from row.address row.bytes in
    let later = between-lighter n from to runs in
    let a = sum_by-append load_weight (loads_of_bytes n row row.bytes) (loads_between n runs from to) in
    let b = length-append (cells_from row.address row.bytes) (cells_within from to runs) in
    omega (arith, own, count, later, a, b)

-- each load weighs something
weightless : (loads : List Load) → sum_by load_weight loads ≤ 0 → loads ≡ []
weightless [] e = refl
weightless (SetSection n ∷ loads) e = let a = sum_by-cons load_weight (SetSection n) loads in absurd (omega (arith, a, e))
weightless (SetPc n t ∷ loads) e = let a = sum_by-cons load_weight (SetPc n t) loads in absurd (omega (arith, a, e))
weightless (One item ∷ loads) e = let a = sum_by-cons load_weight (One item) loads in absurd (omega (arith, a, e))
weightless (Repeat count items ∷ loads) e = let a = sum_by-cons load_weight (Repeat count items) loads in absurd (omega (arith, a, e))

-- the loads of a section, which is made the current one if it has cells
with-lighter : (n room cells : ℕ) (loads : List Load) → sum_by load_weight loads ≤ 31 * cells → (cells ≡ 0) ⊎ (10 ≤ room)
    → sum_by load_weight (with_section n loads) ≤ room + 31 * cells
with-lighter n room cells [] light some = omega arith
with-lighter n room cells (load ∷ loads) light (inr some) = let a = sum_by-cons load_weight (SetSection n) (load ∷ loads) in omega (arith, a, light, some)
with-lighter n room cells (load ∷ loads) light (inl none) =
    let empty : load ∷ loads ≡ [] = weightless (load ∷ loads) (omega (arith, light, none)) in absurd cc

pub section-lighter : (runs : List Run) (t : ℕ × Section) (room : ℕ) → (length (section_cells runs t) ≡ 0) ⊎ (10 ≤ room)
    → sum_by load_weight (section_loads runs t) ≤ room + 31 * length (section_cells runs t)
section-lighter runs t room = by_base t.1.base where
  by_base : (o : Option ℕ) → (length (cells_at runs t.1.size o) ≡ 0) ⊎ (10 ≤ room)
      → sum_by load_weight (section_loads_at t.0 runs t.1 o) ≤ room + 31 * length (cells_at runs t.1.size o)
  by_base None some = omega arith
  by_base (Some base) some =
      with-lighter t.0 room (length (cells_within base (base + t.1.size) runs)) (loads_between t.0 runs base (base + t.1.size))
      (between-lighter t.0 base (base + t.1.size) runs) some

-- room for the first n of a list
abbrev pub room_at : ℕ → ℕ → ℕ
room_at n place = if nat_lt place n then 10 else 0

pub room-sum : (n k : ℕ) (sections : List Section) → sum_by (λ (t : ℕ × Section). room_at n t.0) (enumerate_from k sections) ≤ 10 * (n - k)
room-sum n k [] = omega arith
room-sum n k (x ∷ sections) =
    let a = sum_by-cons (λ (t : ℕ × Section). room_at n t.0) (k, x) (enumerate_from (k + 1) sections) in
    let rest = room-sum n (k + 1) sections in
    by_case (nat_lt k n) refl a rest where
      by_case : (b : Bool) → nat_lt k n ≡ b
          → sum_by (λ (t : ℕ × Section). room_at n t.0) ((k, x) ∷ enumerate_from (k + 1) sections)
          ≡ (if b then 10 else 0) + sum_by (λ (t : ℕ × Section). room_at n t.0) (enumerate_from (k + 1) sections)
          → sum_by (λ (t : ℕ × Section). room_at n t.0) (enumerate_from (k + 1) sections) ≤ 10 * (n - (k + 1))
          → sum_by (λ (t : ℕ × Section). room_at n t.0) ((k, x) ∷ enumerate_from (k + 1) sections) ≤ 10 * (n - k)
      by_case true e a rest = let less = of_lt k n e in omega (arith, a, rest, less)
      by_case false e a rest = omega (arith, a, rest)

-- the loads of all sections, if there is room for each with cells
pub loads-lighter : (runs : List Run) (room : ℕ → ℕ) (sections : List (ℕ × Section))
    → ((t : ℕ × Section) → In t sections → (length (section_cells runs t) ≡ 0) ⊎ (10 ≤ room t.0))
    → sum_by load_weight (flat_map (section_loads runs) sections) ≤ sum_by (λ (t : ℕ × Section). room t.0) sections + 31 * length
    (absolute_cells runs sections)
loads-lighter runs room [] some = omega arith
loads-lighter runs room (t ∷ sections) some =
    let own = section-lighter runs t (room t.0) (some t (inl refl)) in
    let rest = loads-lighter runs room sections (λ u k. some u (inr k)) in
    let a = sum_by-append load_weight (section_loads runs t) (flat_map (section_loads runs) sections) in
    let b = sum_by-cons (λ (t : ℕ × Section). room t.0) t sections in
    let c = length-append (section_cells runs t) (absolute_cells runs sections) in
    omega (arith, own, rest, a, b, c)
