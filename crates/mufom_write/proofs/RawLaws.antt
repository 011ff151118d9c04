-- The bytes of a raw image are those of the range from its first address to its last.
use Rattle.std.proofs.Common.{◌≡◌, ℕ, ◌+◌, ◌-◌, ◌≤◌, List, [], ◌∷◌, ◌++◌, length, take, drop, replicate, refl, sym, ap, ◌∙◌, arith}
use Rattle.std.proofs.lemmas.List.{length-append, length-replicate, take_all}
use Rattle.mufom_meaning.specs.declared.located.Run.{Run}
use Rattle.mufom_meaning.specs.AddressMap.{AreApart}
use Rattle.mufom_meaning.specs.Runs.{run_end}
use Rattle.mufom_write.specs.Laws.{RawImagesAreRanges}
use Rattle.mufom_write.specs.Range.{next_after, part_within, range_from, space_before}
use Rattle.mufom_write.specs.Raw.{first_address, raw_image, runs_from}
use Rattle.mufom_write.proofs.RangeLaws.{range-whole}

module _ (fill end at : ℕ) (run : Run) (behind : at ≤ run.address) (inside : run_end run ≤ end) where
  -- a run that begins at or after the address, and ends in the range
  space-is : space_before end at run ≡ run.address - at
  space-is = omega (arith, inside)

  part-is : part_within end at run ≡ run.bytes
  part-is =
      ap (λ n. take (end - (run.address + n)) (drop n run.bytes)) {x = at - run.address} {y = 0} (omega (arith, behind))
      ∙ take_all (end - (run.address + 0)) run.bytes (omega (arith, inside))

  next-is : next_after end at run ≡ run_end run
  next-is = ap (λ n. at + space_before end at run + n) (ap length part-is) ∙ omega (arith, space-is, behind)

  -- it is in the range after the space before it
  run-is : (runs : List Run)
      → range_from fill end at (run ∷ runs) ≡ (replicate (run.address - at) fill ++ run.bytes) ++ range_from fill end (run_end run) runs
  run-is runs = λ i. (replicate (space-is i) fill ++ part-is i) ++ range_from fill end (next-is i) runs

-- the length of the bytes up to the end of a run, and those after it
length-runs : (fill at : ℕ) (run : Run) (runs : List Run) → at ≤ run.address
    → at + length (runs_from fill at (run ∷ runs)) ≡ run_end run + length (runs_from fill (run_end run) runs)
length-runs fill at run runs behind =
    let first : List ℕ = replicate (run.address - at) fill ++ run.bytes in
    let whole = length-append first (runs_from fill (run_end run) runs) in
    let both = length-append (replicate (run.address - at) fill) run.bytes in
    let space = length-replicate (run.address - at) fill in
    omega (arith, whole, both, space, behind)

-- the runs from an address on are the range from there to their end
raw-range : (fill end at from : ℕ) (runs : List Run) → AreApart from runs → at ≤ from → end ≡ at + length (runs_from fill at runs)
    → range_from fill end at runs ≡ runs_from fill at runs
raw-range fill end at from [] apart low ends = ap (λ n. replicate n fill) {x = end - at} {y = 0} (omega (arith, ends))
raw-range fill end at from (run ∷ runs) apart low ends =
    let behind : at ≤ run.address = omega (arith, low, apart.0) in
    let more : end ≡ run_end run + length (runs_from fill (run_end run) runs) = ends ∙ length-runs fill at run runs behind in
    run-is fill end at run behind (omega (arith, more)) runs
    ∙ ap (λ rest. (replicate (run.address - at) fill ++ run.bytes) ++ rest)
    (raw-range fill end (run_end run) (run.address + length run.bytes + 1) runs apart.2 (omega arith) more)

from-first : (runs : List Run) → AreApart 0 runs → AreApart (first_address runs) runs
from-first [] apart = tt
from-first (run ∷ runs) apart = (omega arith, apart.1, apart.2)

pub raw-images-are-ranges : RawImagesAreRanges
raw-images-are-ranges fill runs apart =
    let first : ℕ = first_address runs in
    let count : ℕ = length (raw_image fill runs) in
    sym (raw-range fill (first + count) first first runs (from-first runs apart) (omega arith) refl) ∙ range-whole fill first count runs apart
