-- The image of loaded bytes whose chunks were sorted by address.
use Rattle.std.proofs.Common.{◌≡◌, ℕ, ◌<◌, ◌^◌, List, [], length, Option, Some, None, map, get_or, refl, sym, ◌∙◌, ap, subst, arith, ◌∷◌, ◌≤◌, false, zero, suc}
use Rattle.std.specs.Prelude.{Contains, option_map, ◌%◌}
use Rattle.std.specs.List.{All}
use Rattle.std.specs.List.Sorted.{IsPermutation}
use Rattle.std.proofs.lemmas.List.{length-map}
use Rattle.std.proofs.lemmas.List.Elements.{All-weaker}
use Rattle.std.proofs.lemmas.List.Sorted.{All-permutation, IsPermutation-sym}
use Rattle.std.proofs.Math.Nat.{pow-le-pow_right}
use Rattle.mufom_loads.specs.declared.load.Load.{Load}
use Rattle.mufom_place.specs.Facts.{◌or_else◌}
use Rattle.mufom_meaning.specs.declared.located.Run.{Run}
use Rattle.mufom_meaning.specs.AddressMap.{Cell, run_cells, AreApart, AreRunsOf, address_map}
use Rattle.mufom_meaning.specs.Facts.{LocateFact}
use Rattle.mufom_meaning.specs.Flat.{Sited}
use Rattle.mufom_meaning.specs.Steps.{steps_of, readings_after}
use Rattle.mufom_meaning.specs.Values.{Setting}
use Rattle.mufom_meaning.specs.Walk.{first_twice, steps_fact}
use Rattle.mufom_meaning.proofs.Members.{In, Contains-In}
use Rattle.mufom_meaning.proofs.facts.Answers.{or_else_none}
use Rattle.mufom_image_bytes.specs.declared.chunk.Chunk.{Chunk}
use Rattle.mufom_image_bytes.specs.declared.layout.Layout.{Layout}
use Rattle.mufom_image_bytes.specs.declared.stop.ImageStop.{ImageStop}
use Rattle.mufom_image_bytes.specs.declared.stop.ImageStop.TheVariants as stops
use Rattle.mufom_image_bytes.specs.declared.refusal.LoadRefusal.{LoadRefusal}
use Rattle.mufom_image_bytes.specs.Stops.{fact_of}
use Rattle.mufom_image_bytes.specs.Chunks.{cells_of_chunks, cell_addresses, addresses_of, AreConsecutive}
use Rattle.mufom_image_bytes.specs.Shared.{shares_from, EndsFirst}
use Rattle.mufom_image_bytes.specs.Spread.{AreSpread, IsAmong}
use Rattle.mufom_image_bytes.specs.Outcomes.{ValuationAt, Outcome, loads_outcome, progress_at_first}
use Rattle.mufom_image_bytes.specs.Walked.{AreWalked}
use Rattle.mufom_image_bytes.specs.Walks.{first_counters}
use Rattle.mufom_image_bytes.specs.Images.{AreLow, IsImage, IsRefusal, IsImageOf, IsRefusalOf}
use Rattle.mufom_image_bytes.proofs.SpreadLaws.{HasRoom, all_have_room, spread_chunks, chunks_addresses, cells_permuted}
use Rattle.mufom_image_bytes.proofs.WalkLaws.{AreFirstCounters, walked}

-- what is known of the chunks of loaded bytes, once they are sorted
pub record AreSorted (cells : List Cell) (bytes : List ℕ) (chunks sorted : List Chunk) : Type 0 where
  pub consecutive : AreConsecutive 0 chunks (length bytes)
  pub same : cells_of_chunks bytes chunks ≡ cells
  pub permuted : IsPermutation chunks sorted

module _ (cells : List Cell) (bytes : List ℕ) (chunks sorted : List Chunk) (h : AreSorted cells bytes chunks sorted) where
  room : All (HasRoom (length bytes)) chunks
  room = all_have_room 0 (length bytes) chunks h.consecutive

  among : All (IsAmong bytes) chunks
  among = All-weaker (HasRoom (length bytes)) (IsAmong bytes) (λ c own. own.1) chunks room

  pub sorted_among : All (IsAmong bytes) sorted
  sorted_among = All-permutation (IsAmong bytes) chunks sorted h.permuted among

  pub sorted_spread : shares_from (length bytes) 0 sorted ≡ false → AreSpread 0 sorted
  sorted_spread e = spread_chunks (length bytes) 0 sorted (All-permutation (HasRoom (length bytes)) chunks sorted h.permuted room) e

  own_addresses : cell_addresses cells ≡ addresses_of chunks
  own_addresses = ap cell_addresses (sym h.same) ∙ chunks_addresses bytes chunks among

  low_addresses : AreLow cells → (a : ℕ) → Contains (addresses_of chunks) a → a < 2 ^ 64
  low_addresses low a there = low a (subst (λ all. Contains all a) (sym own_addresses) there)

  first_end : (result : Option LoadRefusal) (stop : Option LocateFact) → EndsFirst sorted (length bytes) stop (option_map fact_of result) → AreLow cells
      → (first_twice [] (cell_addresses cells) or_else stop) ≡ option_map fact_of result
  first_end result stop e low = ap (λ all. first_twice [] all or_else stop) own_addresses ∙ sym (e chunks (h.permuted, h.consecutive, low_addresses low))

  pub refused : (other : LoadRefusal) (stop : Option LocateFact) → EndsFirst sorted (length bytes) stop (Some (fact_of other))
      → IsRefusal cells stop (stops.Refused other)
  refused other stop e = λ low. first_end (Some other) stop e low

  pub imaged : (stop : Option LoadRefusal) (runs : List Run) → EndsFirst sorted (length bytes) (option_map fact_of stop) None → stop ≡ None → AreApart 0 runs
      → run_cells runs ≡ cells_of_chunks bytes sorted
      → IsImage cells (option_map fact_of stop) runs
  imaged stop runs e none apart rows = record {
    ended = ap (option_map fact_of) none;
    single = λ low. (or_else_none (first_twice [] (cell_addresses cells)) (option_map fact_of stop) (first_end None (option_map fact_of stop) e low)).0;
    rows = record {
      apart = apart;
      same = λ cell. (forth cell, back cell);
    };
  } where
    forth : (cell : Cell) → Contains cells cell → Contains (run_cells runs) cell
    forth cell there = subst (λ all. Contains all cell) (sym rows)
        (cells_permuted bytes chunks sorted h.permuted cell (subst (λ all. Contains all cell) (sym h.same) there))

    back : (cell : Cell) → Contains (run_cells runs) cell → Contains cells cell
    back cell there =
        subst (λ all. Contains all cell) h.same
        (cells_permuted bytes sorted chunks (IsPermutation-sym chunks sorted h.permuted) cell (subst (λ all. Contains all cell) rows there))

-- ---- the image of loads

get_mapped : (f : ℕ → ℕ) (xs : List ℕ) (n : ℕ) → n < length xs → get_or (map f xs) n 0 ≡ f (get_or xs n 0)
get_mapped f [] n less = absurd (omega (arith, less))
get_mapped f (x ∷ xs) zero less = refl
get_mapped f (x ∷ xs) (suc n) less = get_mapped f xs n (omega (arith, less))

module _ (layout : Layout) (valuation : ValuationAt) (loads : List Load) (high : layout.width ≤ 64) where
  abbrev outcome : Outcome
  outcome = loads_outcome layout valuation None loads (progress_at_first (first_counters layout))

  module _ (s : Setting) (site : Sited) (h : AreWalked s site layout valuation loads) where
    positive : 0 < s.modulus
    positive = let same = h.laid_out.modulus in let two : 0 < 2 = omega arith in let low : 0 ≤ layout.width = omega arith in
        let some : 2 ^ 0 ≤ 2 ^ layout.width = pow-le-pow_right two low in omega (arith, same, some)

    first : AreFirstCounters s (first_counters layout)
    first = record {
      count = length-map layout.bases.now (λ base. base % 2 ^ layout.width) ∙ ap length (sym h.laid_out.bases);
      residues = λ n less.
          get_mapped (λ base. base % 2 ^ layout.width) layout.bases.now n (let same = ap length h.laid_out.bases in omega (arith, same, less))
          ∙ ap (λ m. get_or layout.bases.now n 0 % m) (sym h.laid_out.modulus)
          ∙ ap (λ bases. get_or bases n 0 % s.modulus) (sym h.laid_out.bases);
    }

    walk : (steps_fact s [] (steps_of site None loads) ≡ (first_twice [] (cell_addresses outcome.0.cells) or_else outcome.1))
        × (outcome.1 ≡ None → outcome.0.cells ≡ address_map layout.order s.modulus (readings_after s [] (steps_of site None loads)))
        × ((a : ℕ) → In a (cell_addresses outcome.0.cells) → a < s.modulus)
    walk = walked s site layout valuation loads (first_counters layout) h positive first

    low : AreLow outcome.0.cells
    low a there =
        let under = walk.2 a (Contains-In a (cell_addresses outcome.0.cells) there) in
        let same = h.laid_out.modulus in
        let some : 0 < 2 = omega arith in
        let most : 2 ^ layout.width ≤ 2 ^ 64 = pow-le-pow_right some high in
        omega (arith, under, same, most)

  pub image_there : (cells : List Cell) (stop : Option LocateFact) (runs : List Run) → cells ≡ outcome.0.cells → stop ≡ outcome.1
      → IsImage cells stop runs → IsImageOf layout valuation loads runs
  image_there cells stop runs e f i = λ s site h.
      let w = walk s site h in
      let lowest = subst AreLow (sym e) (low s site h) in
      let none : outcome.1 ≡ None = sym f ∙ i.ended in (
        w.0 ∙ ap (λ all. first_twice [] (cell_addresses all) or_else outcome.1) (sym e) ∙ ap (λ o. o or_else outcome.1) (i.single lowest) ∙ none,
        subst (λ all. AreRunsOf all runs) (e ∙ w.1 none) i.rows,
      )

  pub refusal_there : (cells : List Cell) (stop : Option LocateFact) (refusal : ImageStop) → cells ≡ outcome.0.cells → stop ≡ outcome.1
      → IsRefusal cells stop refusal → IsRefusalOf layout valuation loads refusal
  refusal_there cells stop stops.NoMemory e f i = tt {0}
  refusal_there cells stop (stops.Refused other) e f i = λ s site h.
      (walk s site h).0
      ∙ ap (λ all. first_twice [] (cell_addresses all) or_else outcome.1) (sym e)
      ∙ ap (λ o. first_twice [] (cell_addresses cells) or_else o) (sym f)
      ∙ i (subst AreLow (sym e) (low s site h))
