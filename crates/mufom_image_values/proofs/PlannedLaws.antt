-- If the sections and commons are where a plan puts them, the setting of the expressions is that of the plan.
use Rattle.std.proofs.Common.{◌≡◌, ℕ, zero, suc, ◌+◌, List, [], ◌∷◌, map, length, take, drop, Option, Some, None, Bool, true, false, refl, sym, ◌∙◌}
use Rattle.std.proofs.Common.{ap, append-nil, zero-add, length-append, length-drop, arith}
use Rattle.std.specs.Prelude.{slice_get, option_and_then, if◌then◌else◌}
use Rattle.std.specs.Str.{bytes_eq}
use Rattle.std.proofs.lemmas.List.{nil_from_length}
use Rattle.mufom_sections.specs.declared.section.Section.{Section}
use Rattle.mufom_module.specs.declared.module.Parts.{Parts}
use Rattle.mufom_plan.specs.declared.plan.Plan.{Plan}
use Rattle.mufom_plan.specs.Commons.{has_common}
use Rattle.mufom_plan.specs.Names.{has_name}
use Rattle.mufom_meaning.specs.Flat.{commons, flat_sections}
use Rattle.mufom_meaning.specs.Placed.{common_section, common_sections, placed_commons, base_list, base_named, planned_bases}
use Rattle.mufom_meaning.specs.Values.{setting}
use Rattle.mufom_meaning.proofs.Names.{has_name-turned}
use Rattle.mufom_meaning.proofs.Placed.{bases_by_position, bases_count}
use Rattle.mufom_meaning.proofs.Tests.{either_false}
use Rattle.mufom_image_values.specs.Names.{place_in}
use Rattle.mufom_image_values.specs.Resolutions.{common_list}
use Rattle.mufom_image_values.specs.Evaluated.{bases_by, setting_by}
use Rattle.mufom_image_values.proofs.NameLaws.{place-some, place-none}

-- a name that is not among those of the sections has no base
unnamed : (pairs : List (List ℕ × ℕ)) (names : List (List ℕ)) (placed : List ℕ) (name : List ℕ) → has_name names name ≡ false
    → base_named (map (common_section pairs) names) placed name ≡ None
unnamed pairs [] placed name e = refl
unnamed pairs (x ∷ names) [] name e = refl
unnamed pairs (x ∷ names) (base ∷ placed) name e =
    let two = either_false (bytes_eq x name) (has_name names name) (sym (has_name-turned x names name) ∙ e) in
    ap (λ b. if b then Some base else base_named (map (common_section pairs) names) placed name) two.0 ∙ unnamed pairs names placed name two.1

get-drop : {A : Type 0} (n : ℕ) (xs : List A) (i : ℕ) → slice_get (drop n xs) i ≡ slice_get xs (n + i)
get-drop zero xs i = ap (slice_get xs) (sym (zero-add i))
get-drop (suc n) [] i = let next : suc n + i ≡ suc (n + i) = omega arith in ap (slice_get []) (sym next)
get-drop (suc n) (x ∷ xs) i = let next : suc n + i ≡ suc (n + i) = omega arith in get-drop n xs i ∙ ap (slice_get (x ∷ xs)) (sym next)

module _ (m : Parts) (plan : Plan) where
  abbrev all : List ℕ
  all = base_list (m ∷ []) plan

  abbrev count : ℕ
  count = length m.sections

  counted : length (flat_sections (m ∷ [])) ≡ count
  counted = ap (λ (sections : List Section). length sections) (append-nil m.sections)

  -- the base of a common by its position is that by its name
  by_name : (name : List ℕ) → option_and_then (slice_get (drop count all)) (place_in (common_list m) name) ≡ (planned_bases (m ∷ []) plan).commons name
  by_name name = by_region (has_common plan.regions) refl (place_in (common_list m) name) refl where
    none_placed : has_common plan.regions ≡ false → drop count all ≡ []
    none_placed e =
        let asked : length (placed_commons (m ∷ []) plan) ≡ 0 = ap (λ b. length (if b then common_sections (m ∷ []) else [])) e in
        let many = bases_count plan (flat_sections (m ∷ [])) (placed_commons (m ∷ []) plan) in
        let both = length-append (flat_sections (m ∷ [])) (placed_commons (m ∷ []) plan) in
        nil_from_length (drop count all) (omega (arith, length-drop count all, many, both, asked, counted))

    by_region : (b : Bool) → has_common plan.regions ≡ b → (o : Option ℕ) → place_in (common_list m) name ≡ o
        → option_and_then (slice_get (drop count all)) o ≡ (planned_bases (m ∷ []) plan).commons name
    by_region true e (Some k) f =
        let there = place-some 0 (common_list m) name k f in
        let place : there.0 ≡ k = omega (arith, there.1) in
        let spot = ap (slice_get (common_list m)) (sym place) ∙ there.2 in
        get-drop count all k
        ∙ ap (λ n. slice_get all (n + k)) (sym counted)
        ∙ sym ((bases_by_position (m ∷ []) plan).of_commons e k name spot)
    by_region true e None f =
        sym (ap (λ b. base_named (if b then common_sections (m ∷ []) else []) (drop (length (flat_sections (m ∷ []))) all) name) e
        ∙ unnamed (commons (m ∷ [])) (common_list m) (drop (length (flat_sections (m ∷ []))) all) name (place-none 0 (common_list m) name f))
    by_region false e (Some k) f =
        ap (λ (bases : List ℕ). slice_get bases k) (none_placed e) ∙ sym ((bases_by_position (m ∷ []) plan).of_no_common e name)
    by_region false e None f = sym ((bases_by_position (m ∷ []) plan).of_no_common e name)

  -- the bases by position are those of the plan
  pub planned : bases_by m (take count all) (drop count all) ≡ planned_bases (m ∷ []) plan
  planned = let own = counted in λ i. record { sections = take (sym own i) all; commons = λ name. by_name name i }

  pub setting-planned : setting_by m (take count all) (drop count all) ≡ setting (m ∷ []) (planned_bases (m ∷ []) plan)
  setting-planned = ap (setting (m ∷ [])) planned
