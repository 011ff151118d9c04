-- The absolute module of a location weighs less than 2^32.
use Rattle.std.proofs.Common.{◌≡◌, ℕ, ◌+◌, ◌*◌, ◌<◌, ◌≤◌, ◌^◌, List, [], ◌∷◌, ◌++◌, length, filter, sum_by, None, refl, inl, sym, ap, subst, arith, append-nil}
use Rattle.std.proofs.lemmas.List.Sums.{sum_by-cons}
use Rattle.mufom_numbers.specs.declared.limits.TheConstants.{MOST_IMAGE_BYTES}
use Rattle.mufom_sections.specs.declared.section.Section.{Section}
use Rattle.mufom_names.specs.declared.name.Reference.{Reference}
use Rattle.mufom_names.specs.Names.{names_of, AreDistinct}
use Rattle.mufom_loads.specs.Lengths.{lengths_loaded}
use Rattle.mufom_module.specs.declared.module.Parts.{Parts}
use Rattle.mufom_module.specs.Defects.{IsValid}
use Rattle.mufom_module.specs.Weights.{section_weight}
use Rattle.mufom_module.specs.Written.{weight}
use Rattle.mufom_module.proofs.WeightLaws.{weight-sum}
use Rattle.mufom_plan.specs.declared.plan.PlanSymbol.{PlanSymbol}
use Rattle.mufom_plan.specs.declared.plan.Plan.{Plan}
use Rattle.mufom_meaning.specs.declared.located.LocatedParts.{LocatedParts}
use Rattle.mufom_meaning.specs.Absolute.{absolute_of}
use Rattle.mufom_meaning.specs.Counts.{loaded_total}
use Rattle.mufom_meaning.specs.Facts.{image_limit}
use Rattle.mufom_meaning.specs.Flat.{flat_references, flat_sections, is_common}
use Rattle.mufom_meaning.specs.LocationLaws.{asking_count}
use Rattle.mufom_meaning.specs.LocateAnswer.{locate_answer}
use Rattle.mufom_meaning.specs.StagingLaws.{total_weight}
use Rattle.mufom_meaning.proofs.absolute.Entries.{asked-lighter, asked_weight, lettered, lighter-all}
use Rattle.mufom_meaning.proofs.facts.AllAnswers.{answers_are_facts}
use Rattle.mufom_image.specs.Stages.{most_weight}
use Rattle.mufom_planned.specs.PlanSymbols.{followed_by, symbols_module, with_symbols}
use Rattle.mufom_planned.specs.Planned.{IsPlanned}
use Rattle.mufom_planned.specs.PlanLaws.{HasSoundSymbols, HaveShortRegions, PlannedAbsoluteWeighs, PlannedIsLocatable}
use Rattle.mufom_locating.specs.Light.{weight_limit}
use Rattle.mufom_locating.specs.Placed.{numbers_of}

times : {X : Type 0} (n : ℕ) (xs : List X) → sum_by (λ (x : X). n) xs ≡ n * length xs
times n [] = omega arith
times {X} n (x ∷ xs) = let rest = times n xs in let own = sum_by-cons (λ (x : X). n) x xs in omega (arith, rest, own)

-- no more bytes are loaded than an image has
few-loaded : (ms : List Parts) (plan : Plan) → locate_answer ms plan ≡ None → loaded_total ms ≤ MOST_IMAGE_BYTES
few-loaded ms plan none =
    let within : ¬ (MOST_IMAGE_BYTES < loaded_total ms) =
    λ past. (answers_are_facts ms plan).locate_complete none (image_limit (loaded_total ms)) (inl (refl, past)) in
    omega (arith, within)

-- the bound on what a plan adds
light-all : (m : Parts) → weight m < weight_limit → lengths_loaded m.loads ≤ MOST_IMAGE_BYTES → most_weight m + 7667868 < 2 ^ 32
light-all m light few =
    let all = weight-sum m in
    let a = lighter-all (λ (s : Section). 14) section_weight (λ s. let letters = lettered s.absolute in omega (arith, letters)) m.sections in
    let b = times 14 m.sections in
    let c = lighter-all (λ r. 32) asked_weight (λ r. omega arith) (filter is_common m.names.references) in
    let d = times 32 (filter is_common m.names.references) in
    let e = asked-lighter m.names.references in
    omega (arith, light, all, a, b, c, d, e, few)

-- of a location without symbols and copies
pub light-enough : (m : Parts) (plan : Plan) (heavy : ℕ) → weight m < weight_limit → locate_answer (m ∷ []) plan ≡ None → heavy ≤ most_weight m → heavy < 2 ^ 32
light-enough m plan heavy light none within =
    let few = few-loaded (m ∷ []) plan none in
    let own = sum_by-cons (λ (n : Parts). lengths_loaded n.loads) m [] in
    let most = light-all m light (omega (arith, few, own)) in
    omega (arith, within, most)

-- ---- with symbols and copies

loads-stay : (m : Parts) (numbers : PlanSymbol → ℕ) (symbols : List PlanSymbol) → lengths_loaded m.loads ≤ loaded_total (followed_by (m ∷ []) numbers symbols)
loads-stay m numbers [] = let own = sum_by-cons (λ (n : Parts). lengths_loaded n.loads) m [] in omega (arith, own)
loads-stay m numbers (symbol ∷ symbols) =
    let own = sum_by-cons (λ (n : Parts). lengths_loaded n.loads) m (symbols_module m numbers (symbol ∷ symbols) ∷ []) in omega (arith, own)

pub light-planned : PlannedIsLocatable → PlannedAbsoluteWeighs → (m : Parts) (plan : Plan) (r : LocatedParts) → IsValid m → weight m < weight_limit
    → HasSoundSymbols plan → HaveShortRegions plan → IsPlanned (m ∷ []) plan r → weight (absolute_of r) < 2 ^ 32
light-planned locatable weighs m plan r valid light sound short is =
    let there = locatable (m ∷ []) plan (valid, tt) sound is.links is.locates in
    let few = few-loaded (with_symbols (m ∷ []) plan) plan there.locates in
    let loads = loads-stay m (numbers_of m plan) plan.symbols in
    let most = light-all m light (omega (arith, few, loads)) in
    let bound = weighs (m ∷ []) plan r (valid, tt) sound is in
    let own = sum_by-cons weight m [] in
    let sections = ap (λ (xs : List Section). length xs) (append-nil m.sections) in
    let asked = ap (λ (xs : List Reference). length (filter is_common xs)) (append-nil m.names.references) in
    let bytes = sum_by-cons (λ (n : Parts). lengths_loaded n.loads) m [] in
    let names = sound.short in
    omega (arith, most, bound, own, sections, asked, bytes, names, short)
