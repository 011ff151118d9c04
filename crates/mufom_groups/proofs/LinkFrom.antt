-- One link of the modules from a position on.
use Rattle.std.proofs.Common.{◌≡◌, ℕ, zero, suc, ◌+◌, ◌≤◌, ◌<◌, ◌^◌, List, [], ◌∷◌, ◌++◌, length, take, drop, None, Result, Ok, Err, OnOk, refl, sym}
use Rattle.std.proofs.Common.{◌∙◌, ap, subst, arith}
use Rattle.mufom_module.specs.declared.module.Parts.{Parts}
use Rattle.mufom_module.specs.Written.{weight}
use Rattle.mufom_link.specs.Conditions.{MayBeLinked}
use Rattle.mufom_meaning.specs.Joined.{IsJoined}
use Rattle.mufom_meaning.specs.LinkAnswer.{link_answer}
use Rattle.mufom_meaning.specs.StagingLaws.{first_name_length, total_weight}
use Rattle.mufom_groups.specs.Groups.{IsLinkedFrom, most_weight}
use Rattle.mufom_groups.specs.Linked.{first_name}
use Rattle.mufom_groups.proofs.LinkWalk.{weight-split}

pub on-ok : {T E : Type 0} (r : Result T E) (P Q : Type 0) → (P → Q) → OnOk r P → OnOk r Q
on-ok (Ok x) P Q step holds = step holds
on-ok (Err e) P Q step holds = holds

pub some-from : {A : Type 0} (k : ℕ) (xs : List A) → k < length xs → 0 < length (drop k xs)
some-from zero xs less = less
some-from (suc k) [] less = absurd (omega (arith, less))
some-from (suc k) (x ∷ xs) less = some-from k xs (omega (arith, less))

first-length : (ms : List Parts) → first_name_length ms ≡ length (first_name ms)
first-length [] = refl
first-length (m ∷ ms) = refl

module _ (linked group : List Parts) (start : ℕ) (is_group : group ≡ drop start linked) (inside : start < length linked) (name : List ℕ) (named : name
    ≡ first_name group) where
  group-some : 0 < length group
  group-some = subst (λ (l : List Parts). 0 < length l) (sym is_group) (some-from start linked inside)

  pub group-conditions : length name < 2 ^ 16 → total_weight linked ≤ most_weight → MayBeLinked group name
  group-conditions short light = record {
    some = group-some;
    short = short;
    light = let split = weight-split start linked in let same = ap total_weight is_group in omega (arith, light, split, same, short);
  }

  pub is-linked-from : (M : Parts) (new before : List Parts) → IsJoined M group name → link_answer group ≡ None
      → weight M + first_name_length group ≤ total_weight group + length name
      → before ≡ take start linked → new ≡ before ++ M ∷ [] → IsLinkedFrom start linked new
  is-linked-from M new before j none weighs is_before is_new = record {
    link = M;
    new_list = is_new ∙ ap (λ (l : List Parts). l ++ M ∷ []) is_before;
    joined = subst (λ (l : List Parts). IsJoined M l (first_name l)) is_group (subst (λ (n : List ℕ). IsJoined M group n) named j);
    linkable = ap link_answer (sym is_group) ∙ none;
    light =
        let size = ap (λ (l : List ℕ). length l) named in
        let first = first-length group in
        let same = ap total_weight is_group in
        omega (arith, weighs, size, first, same);
  }
