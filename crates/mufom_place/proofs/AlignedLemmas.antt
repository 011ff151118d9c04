-- The sections that wait are aligned if all sections are.
use Rattle.std.proofs.Common.{ℕ, zero, suc, ◌+◌, List, [], ◌∷◌, map, Bool, true, false, cond, arith}
use Rattle.std.specs.Prelude.{filter, All}
use Rattle.std.specs.List.{AllByRecursion, enumerate_from}
use Rattle.mufom_sections.specs.declared.section.Section.{Section}
use Rattle.mufom_place.specs.Bases.{Numbered, numbered, goes_to, waiting, waiting_among}
use Rattle.mufom_place.specs.Facts.{IsAligned}
use Rattle.mufom_place.specs.Packing.{IsAlignedWaiting}

all_of : {A : Type 0} (P : A → Type 0) (xs : List A) → AllByRecursion P xs → All P xs
all_of P [] h k d less = absurd (omega (arith, less))
all_of P (x ∷ xs) h zero d less = h.0
all_of P (x ∷ xs) h (suc k) d less = all_of P xs h.1 k d (omega (arith, less))

numbered_aligned : (n : ℕ) (sections : List Section) → All IsAligned sections → AllByRecursion (λ (s : Numbered). IsAligned s.1) (enumerate_from n sections)
numbered_aligned n [] h = tt
numbered_aligned n (section ∷ sections) h = (h 0 section (omega arith), numbered_aligned (n + 1) sections (λ k d less. h (suc k) d (omega (arith, less))))

waiting_aligned : (listed : List (List ℕ)) (entry : List ℕ) (ss : List Numbered) → AllByRecursion (λ (s : Numbered). IsAligned s.1) ss
    → AllByRecursion IsAlignedWaiting (waiting_among listed ss entry)
waiting_aligned listed entry [] h = tt
waiting_aligned listed entry (s ∷ ss) h = by_case (goes_to listed entry s) (waiting_aligned listed entry ss h.1) where
  by_case : (b : Bool) → AllByRecursion IsAlignedWaiting (waiting_among listed ss entry)
      → AllByRecursion IsAlignedWaiting (map waiting (cond b (s ∷ filter (goes_to listed entry) ss) (filter (goes_to listed entry) ss)))
  by_case true later = (record { least = h.0.least; most = h.0.most }, later)
  by_case false later = later

entries_aligned : (listed : List (List ℕ)) (ss : List Numbered) → AllByRecursion (λ (s : Numbered). IsAligned s.1) ss → (all : List (List ℕ))
    → AllByRecursion (All IsAlignedWaiting) (map (waiting_among listed ss) all)
entries_aligned listed ss h [] = tt
entries_aligned listed ss h (entry ∷ all) = (
  all_of IsAlignedWaiting (waiting_among listed ss entry) (waiting_aligned listed entry ss h),
  entries_aligned listed ss h all,
)

pub waiting-aligned : (listed : List (List ℕ)) (sections : List Section) → All IsAligned sections → (all : List (List ℕ))
    → All (All IsAlignedWaiting) (map (waiting_among listed (numbered sections)) all)
waiting-aligned listed sections h all = all_of (All IsAlignedWaiting) (map (waiting_among listed (numbered sections)) all)
    (entries_aligned listed (numbered sections) (numbered_aligned 0 sections h) all)

-- commons that wait are aligned if the commons are
pub commons-aligned : (first : ℕ) (commons : List Section) → All IsAligned commons → All IsAlignedWaiting (map waiting (enumerate_from first commons))
commons-aligned first commons h = all_of IsAlignedWaiting (map waiting (enumerate_from first commons))
    (each first commons (numbered_aligned first commons h)) where
      each : (n : ℕ) (ss : List Section) → AllByRecursion (λ (s : Numbered). IsAligned s.1) (enumerate_from n ss)
          → AllByRecursion IsAlignedWaiting (map waiting (enumerate_from n ss))
      each n [] h = tt
      each n (section ∷ ss) h = (record { least = h.0.least; most = h.0.most }, each (n + 1) ss h.1)
