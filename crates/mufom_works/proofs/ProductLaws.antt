-- What is made of a location, or why nothing is.
use Rattle.std.proofs.Common.{◌≡◌, ◌<◌, ◌≤◌, ℕ, Bool, false, true, nat_lt, arith, rules, length, List, Option, Some, None, refl, sym, ap, subst, ◌∙◌, ◌⊎◌}
use Rattle.std.proofs.Common.{inl, inr, if◌then◌else◌}
use Rattle.std.proofs.lemmas.Bool.{ltb-true}
use Rattle.mufom_numbers.specs.declared.limits.TheConstants.{MOST_FILE_BYTES}
use Rattle.mufom_map.specs.Mapped.{Mapped}
use Rattle.mufom_origins.specs.Words.{ModuleFiles}
use Rattle.mufom_meaning.specs.declared.located.LocatedParts.{LocatedParts}
use Rattle.mufom_write.specs.Raw.{raw_image}
use Rattle.mufom_groups.specs.Work.{gives, stops}
use Rattle.mufom_outcome.specs.declared.outcome.BinRefusal.{BinRefusal}
use Rattle.mufom_outcome.specs.declared.outcome.BinRefusal.TheVariants as bins
use Rattle.mufom_outcome.specs.declared.outcome.Outcome.{Outcome}
use Rattle.mufom_outcome.specs.declared.outcome.Outcome.TheVariants as outcome
use Rattle.mufom_outcome.specs.declared.outcome.Refusal.TheVariants as refusal
use Rattle.mufom_outcome.specs.Stop.{Stop, bytes_refused}
use Rattle.mufom_task.specs.declared.task.Product.{Product}
use Rattle.mufom_task.specs.declared.task.Product.TheVariants as product
use Rattle.mufom_task.specs.Tasks.{file_of}
use Rattle.mufom_works.specs.Run.{file_name}
use Rattle.mufom_works.specs.Works.{Output, bytes_fact, made, product_of, bytes_unless, length_fact, region_fact, region_image, region_named}
use Rattle.mufom_works.specs.WorkEnds.{EndsAt}

-- ---- what is made of a location

is-less : {n m : ℕ} → n < m → nat_lt n m ≡ true
is-less {n = n} {m = m} less = search rules

-- the test of a limit
pub many-by : (most count : ℕ) → most < count → nat_lt most count ≡ true
many-by most count past = is-less past

pub few-by : (most count : ℕ) → count ≤ most → nat_lt most count ≡ false
few-by most count few = by (nat_lt most count) refl where
  by : (b : Bool) → nat_lt most count ≡ b → nat_lt most count ≡ false
  by true is = absurd (omega (arith, few, ltb-true most count is))
  by false is = is

-- there are too many bytes, or not
pub too-many : (count : ℕ) → MOST_FILE_BYTES < count → length_fact count ≡ Some (bins.TooLong count)
too-many count past = ap (λ b. if b then Some (bins.TooLong count) else None) (many-by MOST_FILE_BYTES count past)

pub not-too-many : (count : ℕ) → count ≤ MOST_FILE_BYTES → length_fact count ≡ None
not-too-many count few = ap (λ b. if b then Some (bins.TooLong count) else None) (few-by MOST_FILE_BYTES count few)

-- bytes that are refused are not put out, and others are
pub bytes-stop : (o : Option BinRefusal) (b : BinRefusal) → o ≡ Some b → (name bytes : List ℕ) → bytes_unless o name bytes (stops (bytes_refused b))
bytes-stop o b some name bytes = subst (λ (p : Option BinRefusal). bytes_unless p name bytes (stops (bytes_refused b))) (sym some) refl

pub bytes-give : (o : Option BinRefusal) → o ≡ None → (name bytes : List ℕ) → bytes_unless o name bytes (gives (made name bytes))
bytes-give o none name bytes = subst (λ (p : Option BinRefusal). bytes_unless p name bytes (gives (made name bytes))) (sym none) refl

-- a name that no region has is refused, if it can be copied
pub region-unknown : (name out bytes : List ℕ) (answer : Outcome)
    → (answer ≡ outcome.NoMemory) ⊎ (answer ≡ outcome.Refused (refusal.Bin (bins.Region name)))
    → EndsAt (bytes_unless (region_fact name None) out bytes) answer
region-unknown name out bytes answer (inl same) = inl same
region-unknown name out bytes answer (inr same) = inr (bytes_refused (bins.Region name), tt, same, refl)

bytes-place : (o : Option BinRefusal) (name bytes : List ℕ) (output : Output) → bytes_unless o name bytes (gives output) → file_name output ≡ Some name
bytes-place (Some b) name bytes output is = absurd is
bytes-place None name bytes output is = ap file_name is

bytes-ends : (o : Option BinRefusal) (name bytes : List ℕ) (s : Stop) → bytes_unless o name bytes (stops s)
    → (b : BinRefusal) × (o ≡ Some b) × (s ≡ bytes_refused b)
bytes-ends (Some b) name bytes s is = (b, refl, is)
bytes-ends None name bytes s is = absurd is

-- a file has the name that is given
pub product-place : (p : Product) (names : ModuleFiles) (shown : Mapped) (r : LocatedParts) (o : Output) → product_of p names shown r (gives o)
    → file_name o ≡ file_of p
product-place (product.Absolute out) names shown r o (held, is) = ap file_name is
product-place (product.Raw fill out) names shown r o is = bytes-place (length_fact (length (raw_image fill r.runs))) out (raw_image fill r.runs) o is
product-place (product.Region name fill out) names shown r o is =
    bytes-place (region_fact name (region_named shown.regions name)) out (region_image fill (region_named shown.regions name) r) o is
product-place (product.TiTxt out) names shown r o is = ap file_name is
product-place product.Image names shown r o is = ap file_name is
product-place (product.Map at) names shown r o is = ap file_name is
product-place (product.Hit at) names shown r o is = ap file_name is

-- Nothing ends the work but bytes of `bin` that may not be written.
pub product-stops : (p : Product) (names : ModuleFiles) (shown : Mapped) (r : LocatedParts) (s : Stop) → product_of p names shown r (stops s)
    → (b : BinRefusal) × (bytes_fact p shown.regions r ≡ Some b) × (s ≡ bytes_refused b)
product-stops (product.Absolute out) names shown r s (held, never) = absurd never
product-stops (product.Raw fill out) names shown r s is = bytes-ends (length_fact (length (raw_image fill r.runs))) out (raw_image fill r.runs) s is
product-stops (product.Region name fill out) names shown r s is =
    bytes-ends (region_fact name (region_named shown.regions name)) out (region_image fill (region_named shown.regions name) r) s is
product-stops (product.TiTxt out) names shown r s never = absurd never
product-stops product.Image names shown r s never = absurd never
product-stops (product.Map at) names shown r s never = absurd never
product-stops (product.Hit at) names shown r s never = absurd never

-- so what may be written is made
pub product-never : (p : Product) (names : ModuleFiles) (shown : Mapped) (r : LocatedParts) → bytes_fact p shown.regions r ≡ None → (s : Stop)
    → product_of p names shown r (stops s) → ⊥
product-never p names shown r may s ends =
    let (b, some, same) = product-stops p names shown r s ends in let clash : None ≡ Some b = sym may ∙ some in absurd cc
