-- How many bytes the runs of a location have.
use Rattle.std.proofs.Common.{◌≡◌, ◌<◌, ◌≤◌, ◌^◌, ◌∷◌, [], List, length, refl, ap, arith, length-append}
use Rattle.std.specs.Prelude.{sum_by}
use Rattle.std.proofs.lemmas.List.Sums.{sum_by-cons}
use Rattle.mufom_numbers.specs.declared.limits.TheConstants.{MOST_IMAGE_BYTES}
use Rattle.mufom_module.specs.declared.module.Parts.{Parts}
use Rattle.mufom_meaning.specs.declared.located.LocatedParts.{LocatedParts}
use Rattle.mufom_meaning.specs.declared.located.Run.{Run}
use Rattle.mufom_meaning.specs.AddressMap.{Cell, address_map, cells_from, run_cells}
use Rattle.mufom_meaning.specs.Counts.{loaded_total}
use Rattle.mufom_meaning.specs.Facts.{image_limit}
use Rattle.mufom_meaning.specs.Flat.{width}
use Rattle.mufom_meaning.specs.Placed.{planned_bases}
use Rattle.mufom_meaning.specs.Readings.{readings}
use Rattle.mufom_meaning.specs.Steps.{steps, readings_after}
use Rattle.mufom_meaning.specs.Values.{Setting, setting}
use Rattle.mufom_meaning.proofs.Members.{Contains-In, In-Contains}
use Rattle.mufom_meaning.proofs.facts.StepCounts.{counts_agree}
use Rattle.mufom_meaning.proofs.values.ValueLaws.{no_fact_before}
use Rattle.mufom_meaning.proofs.absolute.Cells.{apart_own}
use Rattle.mufom_meaning.proofs.absolute.Counts.{cells_count, fewer, length-cells_from}
use Rattle.mufom_located.specs.Located.{IsLocated}

length-run_cells : (runs : List Run) → length (run_cells runs) ≡ sum_by (λ (run : Run). length run.bytes) runs
length-run_cells [] = refl
length-run_cells (run ∷ runs) =
    let own = length-cells_from run.address run.bytes in
    let later = length-run_cells runs in
    let both = length-append (cells_from run.address run.bytes) (run_cells runs) in
    let whole = sum_by-cons (λ (run : Run). length run.bytes) run runs in omega (arith, own, later, both, whole)

-- as many as an image may have
bounded-runs : (r : LocatedParts) → IsLocated r → sum_by (λ (run : Run). length run.bytes) r.runs ≤ MOST_IMAGE_BYTES
unfolding readings
bounded-runs r h =
    let ms : List Parts = h.source ∷ [] in
    let s : Setting = setting ms (planned_bases ms h.plan) in
    let cells : List Cell = address_map r.order (2 ^ width ms) (readings_after s [] (steps ms)) in
    let few = fewer (run_cells r.runs) cells (apart_own r.runs h.is.rows.apart)
    (λ cell k. Contains-In cell cells ((h.is.rows.same cell).1 (In-Contains cell (run_cells r.runs) k))) in
    let count = cells_count r.order s [] (steps ms) in
    let all = counts_agree ms (h.valid, tt) in
    let limit : ¬ (MOST_IMAGE_BYTES < loaded_total ms) = λ past. no_fact_before ms h.plan h.is.locates (image_limit (loaded_total ms)) (refl, past) in
    let long = length-run_cells r.runs in
    omega (arith, few, count, all, limit, long)

pub bounded : (r : LocatedParts) (runs : List Run) → runs ≡ r.runs → IsLocated r → sum_by (λ (run : Run). length run.bytes) runs ≤ MOST_IMAGE_BYTES
bounded r runs same h = let most = bounded-runs r h in let total = ap (sum_by (λ (run : Run). length run.bytes)) same in omega (arith, most, total)
