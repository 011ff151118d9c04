-- Names and places do not depend on the values of a plan's symbols.
use Rattle.std.proofs.Common.{◌≡◌, ℕ, ◌+◌, List, [], ◌∷◌, ◌++◌, map, length, None, refl, sym, ap, ◌∙◌}
use Rattle.std.specs.Prelude.{filter, flat_map, not, if◌then◌else◌}
use Rattle.std.specs.Str.{bytes_eq}
use Rattle.std.specs.List.{list_any}
use Rattle.std.proofs.lemmas.Grind.{flat_map-append}
use Rattle.mufom_sections.specs.declared.section.Section.{Section}
use Rattle.mufom_names.specs.declared.name.Reference.{Reference}
use Rattle.mufom_debug.specs.Marks.{marks_of}
use Rattle.mufom_module.specs.declared.module.Parts.{Parts}
use Rattle.mufom_plan.specs.declared.plan.Plan.{Plan}
use Rattle.mufom_plan.specs.declared.plan.PlanSymbol.{PlanSymbol}
use Rattle.mufom_plan.specs.Commons.{has_common}
use Rattle.mufom_plan.specs.Names.{has_name, symbol_names}
use Rattle.mufom_place.specs.Copies.{copies}
use Rattle.mufom_meaning.specs.Flat.{common_size, distinct, flat_references, flat_sections, is_common, name_count, public_names, same_common, sited_from}
use Rattle.mufom_meaning.specs.Placed.{common_section, placed_commons}
use Rattle.mufom_meaning.specs.Steps.{steps, steps_of}
use Rattle.mufom_planned.specs.Layout.{layout, loads_into}
use Rattle.mufom_planned.specs.Numbers.{symbol_number}
use Rattle.mufom_planned.specs.PlanSymbols.{followed_by, symbols_module, with_names, with_symbols}
use Rattle.mufom_planned.specs.PlanLaws.{NamesDoNotDependOnValues, PlacementDoesNotDependOnValues, SymbolsHaveTheirOwnLayout}
use Rattle.mufom_planned.proofs.SymbolsModule.{followed_names}

-- ---- names

pub names_do_not_depend_on_values : NamesDoNotDependOnValues
names_do_not_depend_on_values [] symbols numbers others = refl
names_do_not_depend_on_values (m ∷ ms) [] numbers others = refl
names_do_not_depend_on_values (m ∷ ms) (symbol ∷ more) numbers others =
    followed_names (m ∷ ms) m numbers (symbol ∷ more) ∙ sym (followed_names (m ∷ ms) m others (symbol ∷ more))

-- ---- places

-- a last module without loads adds no step
steps-before : (s p d : ℕ) (ms : List Parts) (x : Parts) → x.loads ≡ []
    → flat_map (λ site. steps_of site None site.parts.loads) (sited_from s p d (ms ++ x ∷ []))
    ≡ flat_map (λ site. steps_of site None site.parts.loads) (sited_from s p d ms)
steps-before s p d [] x none =
    ap (λ loads. steps_of (record { parts = x; first_section = s; first_public = p; first_name = d }) None loads ++ []) none
steps-before s p d (m ∷ ms) x none =
    ap (λ rest. steps_of (record { parts = m; first_section = s; first_public = p; first_name = d }) None m.loads ++ rest)
    (steps-before (s + length m.sections) (p + length m.names.publics) (d + name_count (marks_of m.debug)) ms x none)

module _ (m : Parts) (ms : List Parts) (numbers : PlanSymbol → ℕ) (symbols : List PlanSymbol) where
  abbrev own : Parts
  own = symbols_module m numbers symbols

  abbrev list : List Parts
  list = (m ∷ ms) ++ own ∷ []

  -- the module of symbols has no sections, no references and no loads
  sections : flat_sections list ≡ flat_sections (m ∷ ms) ++ []
  sections = flat_map-append (λ (x : Parts). x.sections) (m ∷ ms) (own ∷ [])

  references : flat_references list ≡ flat_references (m ∷ ms) ++ []
  references = flat_map-append (λ (x : Parts). x.names.references) (m ∷ ms) (own ∷ [])

  names : public_names list ≡ public_names (m ∷ ms) ++ symbol_names symbols
  names = followed_names (m ∷ ms) m numbers symbols

  same_steps : steps list ≡ steps (m ∷ ms)
  same_steps = steps-before 0 0 0 (m ∷ ms) own refl

-- the commons that a plan places for these references, if these are the public names
abbrev commons_by : Plan → List Reference → List (List ℕ) → List Section
commons_by plan references names =
    let requested = distinct same_common (map (λ (r : Reference). (r.name, common_size r.weak))
    (filter is_common (filter (λ (r : Reference). not (has_name names r.name)) references))) in
    if has_common plan.regions then map (common_section requested) (distinct bytes_eq (map (λ (common : List ℕ × ℕ). common.0) requested)) else []

pub placement_does_not_depend_on_values : PlacementDoesNotDependOnValues
placement_does_not_depend_on_values [] plan symbols numbers others = refl
placement_does_not_depend_on_values (m ∷ ms) plan [] numbers others = refl
placement_does_not_depend_on_values (m ∷ ms) plan (symbol ∷ more) numbers others =
    let own : flat_sections (list m ms numbers (symbol ∷ more)) ≡ flat_sections (list m ms others (symbol ∷ more))
    = sections m ms numbers (symbol ∷ more) ∙ sym (sections m ms others (symbol ∷ more)) in
    let asked = references m ms numbers (symbol ∷ more) ∙ sym (references m ms others (symbol ∷ more)) in
    let named = names m ms numbers (symbol ∷ more) ∙ sym (names m ms others (symbol ∷ more)) in
    let walked : steps (list m ms numbers (symbol ∷ more)) ≡ steps (list m ms others (symbol ∷ more))
    = same_steps m ms numbers (symbol ∷ more) ∙ sym (same_steps m ms others (symbol ∷ more)) in
    let commons : placed_commons (list m ms numbers (symbol ∷ more)) plan ≡ placed_commons (list m ms others (symbol ∷ more)) plan
    = λ i. commons_by plan (asked i) (named i) in
    λ i. record {
      plan = plan;
      sections = own i;
      commons = commons i;
      copied = copies plan (own i) (commons i) (λ n. list_any (loads_into n) (walked i));
    }

pub symbols_have_their_own_layout : SymbolsHaveTheirOwnLayout
symbols_have_their_own_layout ms plan =
    placement_does_not_depend_on_values ms plan plan.symbols (λ symbol. symbol_number (layout (with_names ms plan) plan) symbol.value) (λ symbol. 0)
