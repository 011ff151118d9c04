-- If no fact is found before the walk, a module may be walked over.
use Rattle.std.proofs.Common.{◌≡◌, ℕ, ◌+◌, ◌^◌, ◌<◌, ◌≤◌, inr, List, [], ◌∷◌, ◌++◌, length, Option, Some, None, Bool, true, false, refl, sym, ◌∙◌, ap}
use Rattle.std.proofs.Common.{subst, append-nil, length-append, arith}
use Rattle.std.specs.Prelude.{slice_get, option_map, option_to_list, unwrap_or}
use Rattle.std.proofs.lemmas.Option.{slice_get_within}
use Rattle.mufom_expr.specs.Tree.{Tree}
use Rattle.mufom_names.specs.Names.{names_of, AreDistinct}
use Rattle.mufom_sections.specs.declared.section.Section.{Section}
use Rattle.mufom_module.specs.declared.module.Parts.{Parts}
use Rattle.mufom_plan.specs.declared.plan.Plan.{Plan}
use Rattle.mufom_plan.specs.Commons.{has_common}
use Rattle.mufom_plan.specs.Names.{has_name}
use Rattle.mufom_place.specs.Bases.{site_of}
use Rattle.mufom_meaning.specs.Bases.{Bases}
use Rattle.mufom_meaning.specs.Facts.{LocateFact, duplicate, undefined, common_unplaced, cycle}
use Rattle.mufom_meaning.specs.Flat.{flat_sections, width, common_names}
use Rattle.mufom_meaning.specs.LinkAnswer.{link_answer}
use Rattle.mufom_meaning.specs.Placed.{placed_commons, planned_bases}
use Rattle.mufom_meaning.specs.Stands.{StandsBeforeWalk}
use Rattle.mufom_meaning.specs.Values.{Setting, setting, value}
use Rattle.mufom_meaning.specs.Walk.{base_number, size_at}
use Rattle.mufom_meaning.proofs.Members.{get_some}
use Rattle.mufom_meaning.proofs.Names.{get-prefix}
use Rattle.mufom_meaning.proofs.Placed.{bases_count, planned_count, planned_get, common_there, common_has_base}
use Rattle.mufom_meaning.proofs.absolute.Places.{base_there, ends_inside}
use Rattle.mufom_meaning.proofs.facts.AllAnswers.{before_complete}
use Rattle.mufom_meaning.proofs.facts.Linkable.{no_link_answer_is_linkable}
use Rattle.mufom_meaning.proofs.values.ValueLaws.{no_link_fact}
use Rattle.mufom_image_values.specs.declared.values.PlacedModule.{PlacedModule}
use Rattle.mufom_image_values.specs.Evaluated.{bases_by}
use Rattle.mufom_image_values.proofs.DivisionLaws.{value-is}
use Rattle.mufom_image_values.proofs.PlannedLaws.{planned}
use Rattle.mufom_image_bytes.specs.Modules.{home_of, IsReady}
use Rattle.mufom_image_bytes.specs.Outcomes.{ValuationAt}
use Rattle.mufom_image_entries.specs.declared.valued.ValuedModule.{ValuedModule}
use Rattle.mufom_image_entries.specs.Valued.{parts_of, IsValued}
use Rattle.mufom_image.specs.Placements.{placing_refusal, ArePlaced}
use Rattle.mufom_image.specs.Stages.{IsJudged, IsPlannedBy, public_division, bases_of, valuation_of, MayBeWalked}

-- a module alone may be linked, if none of its publics has the name of another
pub linkable-alone : (m : Parts) → AreDistinct (names_of m.names.publics) → link_answer (m ∷ []) ≡ None
linkable-alone m names = (no_link_answer_is_linkable (m ∷ [])).1 (record {
  descriptor = ((refl, refl), tt {0});
  names = subst AreDistinct (sym (append-nil (names_of m.names.publics))) names;
  starts = at_most_one m.start;
})
  where
    at_most_one : (o : Option Tree) → length (option_to_list o ++ []) ≤ 1
    at_most_one None = omega arith
    at_most_one (Some t) = omega arith

module _ (m : Parts) (plan : Plan) (names : AreDistinct (names_of m.names.publics)) (placed : placing_refusal m plan ≡ None) (clear : IsJudged m plan) where
  abbrev ms : List Parts
  ms = m ∷ []

  abbrev at : Bases
  at = planned_bases ms plan

  abbrev s : Setting
  s = setting ms at

  before : (fact : LocateFact) → ¬ StandsBeforeWalk ms plan s fact
  before = before_complete ms plan placed clear.undefined clear.commons clear.acyclic clear.limit

  -- each section lies inside the address space
  inside : (n : ℕ) → base_number s n + size_at s n ≤ s.modulus
  inside n = by_section (slice_get (flat_sections ms) n) refl (slice_get at.sections n) refl where
    by_section : (o : Option Section) → slice_get (flat_sections ms) n ≡ o → (b : Option ℕ) → slice_get at.sections n ≡ b
        → unwrap_or b 0 + unwrap_or (option_map (λ (found : Section). found.size) o) 0 ≤ 2 ^ width ms
    by_section None e None f = omega arith
    by_section None e (Some base) f =
        let less = slice_get_within at.sections n base f in
        let count = planned_count ms plan in
        absurd (get_some (flat_sections ms) n (omega (arith, less, count)) e)
    by_section (Some section) e b f =
        let less = slice_get_within (flat_sections ms) n section e in
        let here = (get-prefix (flat_sections ms) (placed_commons ms plan) n section e).0 in
        let base : unwrap_or b 0 ≡ (site_of plan (flat_sections ms) (placed_commons ms plan) (n, section)).base
        = ap (λ o. unwrap_or o 0) (sym f ∙ planned_get ms plan n less ∙ base_there plan (flat_sections ms) (placed_commons ms plan) n section here) in
        let high : ¬ (2 ^ width ms < (site_of plan (flat_sections ms) (placed_commons ms plan) (n, section)).base + section.size)
        = λ past. ends_inside plan (flat_sections ms) (placed_commons ms plan) (width ms) placed n section here (inr past) in
        omega (arith, base, high)

  -- a common that has a name has a base
  has_base : (name : List ℕ) → has_name (common_names ms) name ≡ true → at.commons name ≡ None → ⊥
  has_base name common none = by_region (has_common plan.regions) refl where
    by_region : (b : Bool) → has_common plan.regions ≡ b → ⊥
    by_region true e = common_has_base ms plan e name common none
    by_region false e = before (common_unplaced name) (e, common_there ms name common)

  ready : (valuation : ValuationAt) → ((counter : ℕ) (t : Tree) → valuation counter t ≡ value s (home_of m) (Some counter) t) → public_division s ≡ None
      → IsReady m at at.sections valuation
  ready valuation is none = record {
    at_bases = refl;
    count = planned_count ms plan ∙ ap length (append-nil m.sections);
    inside = inside;
    once = λ name. no_link_fact ms (linkable-alone m names) (duplicate name);
    defined = λ name. before (undefined name);
    commons = has_base;
    acyclic = λ name. before (cycle name);
    publics = none;
    is_value = is;
  }

-- there is a base for each section of a placed module
pub placed-count : (m : Parts) (plan : Plan) (sections : List Section) (bases : List ℕ) → ArePlaced m plan sections bases → length m.sections ≤ length bases
placed-count m plan sections bases placed =
    let all = ap length placed.bases ∙ bases_count plan (flat_sections (m ∷ [])) (placed_commons (m ∷ []) plan) in
    let both = length-append (flat_sections (m ∷ [])) (placed_commons (m ∷ []) plan) in
    let own = ap length (append-nil m.sections) in
    omega (arith, all, both, own)

-- the bases of a module that is placed where the plan puts it are those of the plan
pub same-bases : (plan : Plan) (placed : PlacedModule) → IsPlannedBy plan placed → bases_of placed ≡ planned_bases (placed.graph.parts.now ∷ []) plan
same-bases plan placed by =
    let m = placed.graph.parts.now in
    (let first = by.sections in let last = by.commons in λ i. bases_by m (first i) (last i)) ∙ planned m plan

-- the loads of the module may be walked over
pub may-be-walked : (plan : Plan) (valued : ValuedModule) → IsValued valued → AreDistinct (names_of (parts_of valued).names.publics)
    → placing_refusal (parts_of valued) plan ≡ None
    → IsJudged (parts_of valued) plan → IsPlannedBy plan valued.placed.now → MayBeWalked valued
may-be-walked plan valued v names none clear by = let m = parts_of valued in let valuation = valuation_of valued in record {
  ready = subst (λ (b : Bases). ((counter : ℕ) (t : Tree) → valuation counter t ≡ value (setting (m ∷ []) b) (home_of m) (Some counter) t)
      → public_division (setting (m ∷ []) b) ≡ None → IsReady m b b.sections valuation)
      (sym (same-bases plan valued.placed.now by))
      (ready m plan names none clear valuation)
      (λ counter t. value-is valued.placed.now v.placed valued.values.now v.values (Some counter) t);
}
