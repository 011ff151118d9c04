-- The module of runs, located by a plan without regions, loads the bytes of the runs.
use Rattle.std.proofs.Common.{◌≡◌, ℕ, zero, suc, ◌+◌, ◌*◌, ◌%◌, ◌^◌, ◌<◌, ◌≤◌, List, [], ◌∷◌, ◌++◌, length, take, drop, map, Option, Some, None, Bool}
use Rattle.std.proofs.Common.{true, false, refl, sym, ◌∙◌, ap, subst, arith, rules, append_assoc, append-nil, length-drop, length-append}
use Rattle.std.specs.Prelude.{◌==◌, slice_get, option_map, unwrap_or, Contains, if◌then◌else◌}
use Rattle.std.specs.List.{enumerate_from}
use Rattle.std.proofs.Math.Nat.{mod-eq_of_lt}
use Rattle.std.proofs.lemmas.List.{take-append-drop}
use Rattle.mufom_numbers.specs.declared.limits.TheConstants.{MOST_STRING_BYTES as longest}
use Rattle.mufom_sections.specs.declared.section.Section.{Section}
use Rattle.mufom_loads.specs.declared.load.Item.TheVariants.{Literal}
use Rattle.mufom_loads.specs.declared.load.Load.{Load}
use Rattle.mufom_module.specs.declared.module.Order.{Order}
use Rattle.mufom_module.specs.declared.module.Parts.{Parts}
use Rattle.mufom_place.specs.Bases.{site_of, bases}
use Rattle.mufom_meaning.specs.declared.located.Run.{Run}
use Rattle.mufom_meaning.specs.declared.located.LocatedParts.{LocatedParts}
use Rattle.mufom_meaning.specs.Absolute.{no_regions}
use Rattle.mufom_meaning.specs.AddressMap.{Cell, cells_from, literal_cells, run_cells, address_map, AreApart}
use Rattle.mufom_meaning.specs.Flat.{Sited, width}
use Rattle.mufom_meaning.specs.Location.{IsLocation}
use Rattle.mufom_meaning.specs.Placed.{placed_commons, planned_bases}
use Rattle.mufom_meaning.specs.Readings.{readings}
use Rattle.mufom_meaning.specs.Steps.{Step, item_step, steps, steps_of, counter}
use Rattle.mufom_meaning.specs.Values.{Setting, setting}
use Rattle.mufom_meaning.specs.Walk.{base_number, size_at}
use Rattle.mufom_meaning.proofs.absolute.Walk.{GoodWalk}
use Rattle.mufom_meaning.proofs.locations.CellRuns.{rows_are_single}
use Rattle.mufom_image_bytes.proofs.ChunkLaws.{cells_from-append}
use Rattle.mufom_titxt.specs.TextModules.{run_section, literals, loads_from, text_parts, EndBelow, HaveModule}

equal_self : (n : ℕ) → (n == n) ≡ true
equal_self n = search rules

module _ (order : Order) (s : Setting) (site : Sited) where
  -- the counters of the sections from this one on are at their bases
  abbrev IsAtBase : ℕ → List Step → Type 0
  IsAtBase n earlier = (m : ℕ) → n ≤ m → counter s earlier (site.first_section + m) ≡ counter s [] (site.first_section + m)

  -- a literal moves the counter of its section
  counter_on : (earlier : List Step) (section at : ℕ) (p : List ℕ) → counter s earlier section ≡ Some at → at + length p < s.modulus
      → counter s (item_step site section (Literal p) ∷ earlier) section ≡ Some (at + length p)
  unfolding counter
  counter_on earlier section at p e less =
      ap (λ (b : Bool). if b then option_map (λ pc. (pc + length p) % s.modulus) (counter s earlier section)
      else counter s earlier section) (equal_self section)
      ∙ (ap (option_map (λ pc. (pc + length p) % s.modulus)) e ∙ ap (λ n. Some n) (mod-eq_of_lt less))

  -- and no other
  counter_other : (earlier : List Step) (n : ℕ) (p : List ℕ) → IsAtBase (n + 1) earlier
      → IsAtBase (n + 1) (item_step site (site.first_section + n) (Literal p) ∷ earlier)
  unfolding counter
  counter_other earlier n p h m less =
      let other : (site.first_section + n == site.first_section + m) ≡ false = grind (arith, less) in
      ap (λ (b : Bool). if b then option_map (λ pc. (pc + length p) % s.modulus) (counter s earlier (site.first_section + m))
      else counter s earlier (site.first_section + m)) other
      ∙ h m less

  -- bytes at an address lie in a section, and in the address space
  record Lies (n at count : ℕ) : Type 0 where
    low : base_number s (site.first_section + n) ≤ at
    high : at + count ≤ base_number s (site.first_section + n) + size_at s (site.first_section + n)
    inside : at + count ≤ s.modulus

  -- the first literal of bytes, which are more
  literal_first : (n : ℕ) (p rest bytes : List ℕ) → p ++ rest ≡ bytes → (at : ℕ) (earlier : List Step)
      → counter s earlier (site.first_section + n) ≡ Some at → Lies n at (length bytes) → IsAtBase (n + 1) earlier → (more : List Step) (cells : List Cell)
      → ((e : List Step) → (0 < length rest → counter s e (site.first_section + n) ≡ Some (at + length p)) → Lies n (at + length p) (length rest)
      → IsAtBase (n + 1) e → GoodWalk order s site e more (cells_from (at + length p) rest ++ cells))
      → GoodWalk order s site earlier (item_step site (site.first_section + n) (Literal p) ∷ more) (cells_from at bytes ++ cells)
  literal_first n p rest bytes cut at earlier here lies later more cells after =
      let whole : length p + length rest ≡ length bytes = sym (length-append p rest) ∙ ap length cut in
      let low = lies.low in
      let high = lies.high in
      let inside = lies.inside in
      let tail = after (item_step site (site.first_section + n) (Literal p) ∷ earlier)
      (λ some. counter_on earlier (site.first_section + n) at p here (omega (arith, some, whole, inside)))
      (record { low = omega (arith, low); high = omega (arith, high, whole); inside = omega (arith, inside, whole) }) (counter_other earlier n p later) in (
        (
          record { at = at; bytes = p; is = refl; counted = here; low = low; high = omega (arith, high, whole); inside = omega (arith, inside, whole) },
          tail.0,
        ),
        (λ i. literal_cells (here i) p ++ tail.1 i)
            ∙ (sym (append_assoc (cells_from at p) (cells_from (at + length p) rest) cells)
            ∙ ap (λ (l : List Cell). l ++ cells) (sym (cells_from-append at p rest) ∙ ap (cells_from at) cut)),
      )

  rest_few : (b most : ℕ) (bytes : List ℕ) → suc (length bytes) ≤ suc most → length (drop longest (b ∷ bytes)) ≤ most
  rest_few b most bytes few = let left = length-drop 65534 bytes in omega (arith, few, left)

  -- the literals of bytes
  literals_walk : (n most : ℕ) (bytes : List ℕ) (at : ℕ) (earlier : List Step) → length bytes ≤ most
      → (0 < length bytes → counter s earlier (site.first_section + n) ≡ Some at) → Lies n at (length bytes) → IsAtBase (n + 1) earlier
      → (loads : List Load) (cells : List Cell) → ((e : List Step) → IsAtBase (n + 1) e → GoodWalk order s site e (steps_of site (Some n) loads) cells)
      → GoodWalk order s site earlier (steps_of site (Some n) (literals most bytes ++ loads)) (cells_from at bytes ++ cells)
  literals_walk n zero [] at earlier few ready lies later loads cells after = after earlier later
  literals_walk n (suc most) [] at earlier few ready lies later loads cells after = after earlier later
  literals_walk n zero (b ∷ bytes) at earlier few ready lies later loads cells after = absurd (omega (arith, few))
  literals_walk n (suc most) (b ∷ bytes) at earlier few ready lies later loads cells after =
      literal_first n (take longest (b ∷ bytes)) (drop longest (b ∷ bytes)) (b ∷ bytes) (take-append-drop longest (b ∷ bytes)) at earlier
      (ready (some bytes)) lies later (steps_of site (Some n) (literals most (drop longest (b ∷ bytes)) ++ loads)) cells
      (λ e start left unmoved. literals_walk n most (drop longest (b ∷ bytes)) (at + length (take longest (b ∷ bytes))) e
      (rest_few b most bytes few) start left unmoved loads cells after) where
        some : (bytes : List ℕ) → 0 < suc (length bytes)
        some bytes = omega arith

  -- the sections from this one on are those of the runs, at their addresses
  abbrev AreBased : ℕ → List Run → Type 0
  AreBased n [] = Unit {0}
  AreBased n (run ∷ runs) =
      (slice_get s.bases (site.first_section + n) ≡ Some run.address) × (slice_get s.sections (site.first_section + n) ≡ Some (run_section run))
      × AreBased (n + 1) runs

  -- the loads of runs
  runs_walk : (wide n from : ℕ) (runs : List Run) → s.modulus ≡ 2 ^ wide → EndBelow wide runs → AreApart from runs → AreBased n runs
      → (current : Option ℕ) (earlier : List Step) → IsAtBase n earlier
      → GoodWalk order s site earlier (steps_of site current (loads_from n runs)) (run_cells runs)
  unfolding counter
  runs_walk wide n from [] same below apart based current earlier h = (tt, refl)
  runs_walk wide n from (run ∷ runs) same below apart based current earlier h =
      let less : run.address < s.modulus = omega (arith, same, below.0, apart.1) in
      let start : counter s earlier (site.first_section + n) ≡ Some run.address
      = h n (omega arith) ∙ (ap (option_map (λ base. base % s.modulus)) based.0 ∙ ap (λ k. Some k) (mod-eq_of_lt less)) in
      let base : base_number s (site.first_section + n) ≡ run.address = ap (λ o. unwrap_or o 0) based.0 in
      let size : size_at s (site.first_section + n) ≡ length run.bytes
      = ap (λ (o : Option Section). unwrap_or (option_map (λ found. found.size) o) 0) based.1 in
      literals_walk n (length run.bytes) run.bytes run.address earlier (omega arith) (λ some. start)
      (record { low = omega (arith, base); high = omega (arith, base, size); inside = omega (arith, same, below.0) })
      (λ m more. h m (omega (arith, more))) (loads_from (n + 1) runs) (run_cells runs)
      (runs_walk wide (n + 1) (run.address + length run.bytes + 1) runs same below.1 apart.2 based.2 (Some n))

-- ---- the bases

run_bases : (sections asked more : List Section) (runs : List Run) (k : ℕ)
    → take (length (map run_section runs)) (map (λ (t : ℕ × Section). (site_of no_regions sections asked t).base)
    (enumerate_from k (map run_section runs ++ more))) ≡ map (λ run. run.address) runs
run_bases sections asked more [] k = refl
run_bases sections asked more (run ∷ runs) k = ap (λ (l : List ℕ). run.address ∷ l) (run_bases sections asked more runs (k + 1))

module _ (maus : ℕ) (runs : List Run) where
  abbrev ms : List Parts
  ms = text_parts maus runs ∷ []

  abbrev s : Setting
  s = setting ms (planned_bases ms no_regions)

  abbrev home : Sited
  home = record { parts = text_parts maus runs; first_section = 0; first_public = 0; first_name = 0 }

  bases_are : (planned_bases ms no_regions).sections ≡ map (λ run. run.address) runs
  bases_are =
      ap (λ (sections : List Section). take (length sections) (bases no_regions sections (placed_commons ms no_regions))) (append-nil (map run_section runs))
      ∙ run_bases (map run_section runs) (placed_commons ms no_regions) (placed_commons ms no_regions) runs 0

  all_based : (order : Order) (more : List Run) (n : ℕ)
      → ((k : ℕ) → slice_get s.bases (n + k) ≡ slice_get (map (λ run. run.address) more) k)
      → ((k : ℕ) → slice_get s.sections (n + k) ≡ slice_get (map run_section more) k) → AreBased order s home n more
  all_based order [] n h g = tt
  all_based order (run ∷ more) n h g =
      let here : 0 + n ≡ n + 0 = omega arith in
      let next : (k : ℕ) → n + 1 + k ≡ n + suc k = λ k. omega arith in (
        ap (slice_get s.bases) here ∙ h 0,
        ap (slice_get s.sections) here ∙ g 0,
        all_based order more (n + 1) (λ k. ap (slice_get s.bases) (next k) ∙ h (suc k)) (λ k. ap (slice_get s.sections) (next k) ∙ g (suc k)),
      )

  -- the walk over the loads of the module
  pub text_walk : (order : Order) → HaveModule (8 * maus) runs → GoodWalk order s home [] (steps ms) (run_cells runs)
  text_walk order h =
      let zero_first : (k : ℕ) → 0 + k ≡ k = λ k. omega arith in
      let bases_there : (k : ℕ) → slice_get s.bases (0 + k) ≡ slice_get (map (λ run. run.address) runs) k
      = λ k. ap (slice_get s.bases) (zero_first k) ∙ ap (λ (l : List ℕ). slice_get l k) bases_are in
      let sections_there : (k : ℕ) → slice_get s.sections (0 + k) ≡ slice_get (map run_section runs) k
      = λ k. ap (slice_get s.sections) (zero_first k) ∙ ap (λ (l : List Section). slice_get l k) (append-nil (map run_section runs)) in
      subst (λ all. GoodWalk order s home [] all (run_cells runs)) (sym (append-nil (steps_of home None (loads_from 0 runs))))
      (runs_walk order s home (8 * maus) 0 0 runs refl h.below h.apart (all_based order runs 0 bases_there sections_there) None [] (λ m less. refl))

  loaded : (order : Order) → HaveModule (8 * maus) runs
      → address_map order (2 ^ width ms) (readings ms (planned_bases ms no_regions)).steps ≡ run_cells runs
  unfolding readings
  loaded order h = (text_walk order h).1

  -- the runs of its location
  pub located_runs : (r : LocatedParts) → HaveModule (8 * maus) runs → IsLocation ms no_regions r → r.runs ≡ runs
  located_runs r h l =
      let cells : List Cell = address_map r.order (2 ^ width ms) (readings ms (planned_bases ms no_regions)).steps in
      let e : cells ≡ run_cells runs = loaded r.order h in
      rows_are_single cells r.runs runs l.rows
      (record { apart = h.apart; same = λ cell. (subst (λ these. Contains these cell) e, subst (λ these. Contains these cell) (sym e)) })
