-- The tables have what the records state.
use Rattle.std.proofs.Common.{◌≡◌, ◌⊎◌, ℕ, ◌==◌, ◌||◌, nat_eq, List, [], ◌∷◌, Option, Some, None, is_some, IsSome, ◌↔◌, Contains, filter_map, refl}
use Rattle.std.proofs.Common.{sym, ap, ◌∙◌, eq-eqb, ne_eqb, inl, inr, true≢false}
use Rattle.std.specs.List.{list_any}
use Rattle.std.specs.Cmp.{nat_eq_equiv}
use Rattle.std.proofs.lemmas.Bool.{cases_eq, false_from_ne_true}
use Rattle.std.proofs.lemmas.Map.Views.{list_any-from_Contains}
use Rattle.mufom_sections.proofs.PlacesLemmas.{Contains-from_test}
use Rattle.mufom_module.specs.SpelledRecords.{Once, value_of_public, weakness, alignment, section_size, section_base, start_address, is_same_statement}
use Rattle.mufom_read.specs.Kept.{has, alignment_stated, size_stated, base_stated, value_stated, weakness_stated}

pub eqb-swap : (i j : ℕ) → (i == j) ≡ (j == i)
eqb-swap i j = by_case (cases_eq i j) where
  by_case : ((i ≡ j) ⊎ (i ≡ j → ⊥)) → (i == j) ≡ (j == i)
  by_case (inl e) = eq-eqb i j e ∙ sym (eq-eqb j i (sym e))
  by_case (inr n) = ne_eqb i j n ∙ sym (ne_eqb j i (λ e. n (sym e)))

has-any : (k : ℕ) (ks : List ℕ) → has ks k ≡ list_any (nat_eq k) ks
has-any k [] = refl
has-any k (i ∷ ks) = ap (λ b. b || has ks k) (eqb-swap i k) ∙ ap (λ b. nat_eq k i || b) (has-any k ks)

-- a table has an index if it finds its position
pub has-position : (r : Option ℕ) (ks : List ℕ) (k : ℕ) → (IsSome r ↔ Contains ks k) → is_some r ≡ has ks k
has-position None ks k h = sym (has-any k ks ∙ false_from_ne_true _ (λ e. true≢false (sym (h.1 (Contains-from_test k ks e)))))
has-position (Some i) ks k h = sym (has-any k ks ∙ list_any-from_Contains nat_eq_equiv k ks (h.0 refl))

-- the table of what is stated of alignments has what was stated
pub alignment-has : (i : ℕ) (all : List Once) → has (filter_map alignment_stated all) i ≡ list_any (is_same_statement (alignment i)) all
alignment-has i [] = refl
alignment-has i (value_of_public j ∷ all) = alignment-has i all
alignment-has i (weakness j ∷ all) = alignment-has i all
alignment-has i (alignment j ∷ all) = ap (λ b. b || has (filter_map alignment_stated all) i) (eqb-swap j i) ∙ ap (λ b. (i == j) || b) (alignment-has i all)
alignment-has i (section_size j ∷ all) = alignment-has i all
alignment-has i (section_base j ∷ all) = alignment-has i all
alignment-has i (start_address ∷ all) = alignment-has i all

-- the table of what is stated of sizes has what was stated
pub size-has : (i : ℕ) (all : List Once) → has (filter_map size_stated all) i ≡ list_any (is_same_statement (section_size i)) all
size-has i [] = refl
size-has i (value_of_public j ∷ all) = size-has i all
size-has i (weakness j ∷ all) = size-has i all
size-has i (alignment j ∷ all) = size-has i all
size-has i (section_size j ∷ all) = ap (λ b. b || has (filter_map size_stated all) i) (eqb-swap j i) ∙ ap (λ b. (i == j) || b) (size-has i all)
size-has i (section_base j ∷ all) = size-has i all
size-has i (start_address ∷ all) = size-has i all

-- the table of what is stated of bases has what was stated
pub base-has : (i : ℕ) (all : List Once) → has (filter_map base_stated all) i ≡ list_any (is_same_statement (section_base i)) all
base-has i [] = refl
base-has i (value_of_public j ∷ all) = base-has i all
base-has i (weakness j ∷ all) = base-has i all
base-has i (alignment j ∷ all) = base-has i all
base-has i (section_size j ∷ all) = base-has i all
base-has i (section_base j ∷ all) = ap (λ b. b || has (filter_map base_stated all) i) (eqb-swap j i) ∙ ap (λ b. (i == j) || b) (base-has i all)
base-has i (start_address ∷ all) = base-has i all

-- the table of what is stated of values has what was stated
pub value-has : (i : ℕ) (all : List Once) → has (filter_map value_stated all) i ≡ list_any (is_same_statement (value_of_public i)) all
value-has i [] = refl
value-has i (value_of_public j ∷ all) = ap (λ b. b || has (filter_map value_stated all) i) (eqb-swap j i) ∙ ap (λ b. (i == j) || b) (value-has i all)
value-has i (weakness j ∷ all) = value-has i all
value-has i (alignment j ∷ all) = value-has i all
value-has i (section_size j ∷ all) = value-has i all
value-has i (section_base j ∷ all) = value-has i all
value-has i (start_address ∷ all) = value-has i all

-- the table of what is stated of weaknesss has what was stated
pub weakness-has : (i : ℕ) (all : List Once) → has (filter_map weakness_stated all) i ≡ list_any (is_same_statement (weakness i)) all
weakness-has i [] = refl
weakness-has i (value_of_public j ∷ all) = weakness-has i all
weakness-has i (weakness j ∷ all) = ap (λ b. b || has (filter_map weakness_stated all) i) (eqb-swap j i) ∙ ap (λ b. (i == j) || b) (weakness-has i all)
weakness-has i (alignment j ∷ all) = weakness-has i all
weakness-has i (section_size j ∷ all) = weakness-has i all
weakness-has i (section_base j ∷ all) = weakness-has i all
weakness-has i (start_address ∷ all) = weakness-has i all
