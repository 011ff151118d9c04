-- The generated modules as a list: it can be linked, and weighs no more than its modules do together.
use Rattle.std.proofs.Common.{◌≡◌, ℕ, zero, suc, ◌+◌, ◌-◌, ◌*◌, ◌<◌, ◌≤◌, ◌++◌, ◌∷◌, [], List, length, Bool, Some, None, refl, sym, ◌∙◌, ap, arith}
use Rattle.std.proofs.Common.{add-zero, zero-add}
use Rattle.std.specs.Prelude.{codes, slice_get, ◌==◌}
use Rattle.std.specs.Fmt.{decimal}
use Rattle.std.proofs.lemmas.Fmt.{decimal_injective}
use Rattle.std.proofs.lemmas.List.Sums.{sum_by-cons}
use Rattle.mufom_names.specs.Names.{AreDistinct}
use Rattle.mufom_module.specs.declared.module.Parts.{Parts}
use Rattle.mufom_module.specs.Written.{weight}
use Rattle.mufom_meaning.specs.Flat.{flat_starts, public_names}
use Rattle.mufom_meaning.specs.LinkAnswer.{link_answer}
use Rattle.mufom_meaning.specs.Staging.{AreValid, HaveDescriptor, HaveDescriptorOf}
use Rattle.mufom_meaning.specs.StagingLaws.{total_weight}
use Rattle.mufom_numbers.proofs.Choices.{some_same}
use Rattle.mufom_meaning.proofs.facts.Linkable.{no_link_answer_is_linkable}
use Rattle.mufom_make.specs.Generated.{module_at, modules_from, name_at}
use Rattle.mufom_make.specs.Links.{most_weight}
use Rattle.mufom_make.proofs.ModuleLaws.{module_at-valid, module_at-light}

pub modules_from-append : (count a b n : ℕ) → modules_from count (a + b) n ≡ modules_from count a n ++ modules_from count b (n + a)
modules_from-append count zero b n =
    ap (λ (more : ℕ). modules_from count more n) (zero-add b) ∙ ap (λ (k : ℕ). modules_from count b k) (sym (add-zero n))
modules_from-append count (suc a) b n =
    let more : suc a + b ≡ suc (a + b) = omega arith in
    let after : n + 1 + a ≡ n + suc a = omega arith in
    ap (λ (k : ℕ). modules_from count k n) more
    ∙ ap (λ (ms : List Parts). module_at (n + 1 == count) n ∷ ms) (modules_from-append count a b (n + 1)
    ∙ ap (λ (k : ℕ). modules_from count a (n + 1) ++ modules_from count b k) after)

-- one more module at the end
pub one-longer : (count first n : ℕ) (ms : List Parts) (m : Parts) → first ≤ n → ms ≡ modules_from count (n - first) first → m ≡ module_at (n + 1 == count) n
    → ms ++ m ∷ [] ≡ modules_from count (n + 1 - first) first
one-longer count first n ms m order same own =
    let more : n + 1 - first ≡ n - first + 1 = omega (arith, order) in
    let there : n ≡ first + (n - first) = omega (arith, order) in
    (λ i. same i ++ own i ∷ [])
    ∙ ap (λ (k : ℕ). modules_from count (n - first) first ++ module_at (k + 1 == count) k ∷ []) there
    ∙ sym (modules_from-append count (n - first) 1 first)
    ∙ ap (λ (k : ℕ). modules_from count k first) (sym more)

pub length-modules_from : (count more n : ℕ) → length (modules_from count more n) ≡ more
length-modules_from count zero n = refl
length-modules_from count (suc more) n = ap suc (length-modules_from count more (n + 1))

pub all-valid : (count more n : ℕ) → n + more ≤ 65536 → AreValid (modules_from count more n)
all-valid count zero n few = tt
all-valid count (suc more) n few = (module_at-valid (n + 1 == count) n (omega (arith, few)), all-valid count more (n + 1) (omega (arith, few)))

pub all-light : (count more n : ℕ) → n + more ≤ 65536 → total_weight (modules_from count more n) ≤ most_weight * more
all-light count zero n few = omega arith
all-light count (suc more) n few =
    let own = module_at-light (n + 1 == count) n (omega (arith, few)) in
    let rest = all-light count more (n + 1) (omega (arith, few)) in
    let whole = sum_by-cons weight (module_at (n + 1 == count) n) (modules_from count more (n + 1)) in omega (arith, own, rest, whole)

pub one-descriptor : (last : Bool) (k count more n : ℕ) → HaveDescriptor (module_at last k) (modules_from count more n)
one-descriptor last k count zero n = tt
one-descriptor last k count (suc more) n = ((refl, refl), one-descriptor last k count more (n + 1))

own-descriptor : (count more n : ℕ) → HaveDescriptorOf (modules_from count more n) (modules_from count more n)
own-descriptor count zero n = tt
own-descriptor count (suc more) n = one-descriptor (n + 1 == count) n count (suc more) n

no-starts : (count more n : ℕ) → flat_starts (modules_from count more n) ≡ []
no-starts count zero n = refl
no-starts count (suc more) n = no-starts count more (n + 1)

-- ---- names

-- the name at a position is that of its module
record IsNameAt (more n k : ℕ) (name : List ℕ) : Type 0 where
  within : k < more
  same : name ≡ name_at (codes "f") (n + k)

named-at : (count more n k : ℕ) (name : List ℕ) → slice_get (public_names (modules_from count more n)) k ≡ Some name → IsNameAt more n k name
named-at count zero n k name there = absurd cc
named-at count (suc more) n zero name there = record {
  within = omega arith;
  same = sym (some_same (name_at (codes "f") n) name there) ∙ ap (name_at (codes "f")) (sym (add-zero n));
}
named-at count (suc more) n (suc k) name there =
    let later = named-at count more (n + 1) k name there in
    let within = later.within in
    let shifted : n + 1 + k ≡ n + suc k = omega arith in
    record { within = omega (arith, within); same = later.same ∙ ap (name_at (codes "f")) shifted }

same-number : (m n : ℕ) → m < 65536 → n < 65536 → name_at (codes "f") m ≡ name_at (codes "f") n → m ≡ n
same-number m n few less same = let digits : decimal m ≡ decimal n = cc in decimal_injective m n (omega (arith, few)) (omega (arith, less)) digits

pub distinct-names : (count more n : ℕ) → n + more ≤ 65536 → AreDistinct (public_names (modules_from count more n))
distinct-names count more n few place repeats =
    let k = repeats.0 in
    let before = repeats.2 in
    let first = named-at count more n k repeats.1 repeats.3 in
    let second = named-at count more n place repeats.1 repeats.4 in
    let low = first.within in
    let high = second.within in
    let same = same-number (n + k) (n + place) (omega (arith, few, low)) (omega (arith, few, high)) (sym first.same ∙ second.same) in
    omega (arith, before, same)

-- no link fact holds about them
pub linkable : (count more n : ℕ) → n + more ≤ 65536 → link_answer (modules_from count more n) ≡ None
linkable count more n few = (no_link_answer_is_linkable (modules_from count more n)).1 (record {
  descriptor = own-descriptor count more n;
  names = distinct-names count more n few;
  starts = let none = ap length (no-starts count more n) in omega (arith, none);
})
