-- The link of a module with the symbols of a plan means what the list with the symbols means.
use Rattle.std.proofs.Common.{◌≡◌, ◌≢◌, ℕ, ◌*◌, List, [], ◌∷◌, map, Option, Some, None, refl, sym, ap, subst, ◌∙◌, append-nil, not}
use Rattle.std.specs.Prelude.{find, filter, option_map, ◌^◌, ◌%◌}
use Rattle.mufom_names.specs.declared.name.Reference.{Reference}
use Rattle.mufom_names.specs.Names.{names_of, AreDistinct}
use Rattle.mufom_module.specs.declared.module.Parts.{Parts}
use Rattle.mufom_module.specs.Defects.{IsValid}
use Rattle.mufom_plan.specs.declared.plan.PlanSymbol.{PlanSymbol}
use Rattle.mufom_plan.specs.declared.plan.Plan.{Plan}
use Rattle.mufom_plan.specs.Names.{has_name, symbol_names}
use Rattle.mufom_place.specs.Facts.{◌or_else◌}
use Rattle.mufom_place.specs.Copies.{all_refusal, copies}
use Rattle.mufom_meaning.specs.declared.located.LocatedParts.{LocatedParts}
use Rattle.mufom_meaning.specs.Facts.{LocateFact, placement}
use Rattle.mufom_meaning.specs.Flat.{commons, common_size, distinct, flat_references, flat_sections, is_common, public_names, same_common, unresolved_references, width}
use Rattle.mufom_meaning.specs.LinkAnswer.{link_answer}
use Rattle.mufom_meaning.specs.Staging.{unlinked, linked}
use Rattle.mufom_meaning.proofs.Placed.{same_placed_commons}
use Rattle.mufom_meaning.proofs.facts.Linkable.{no_link_answer_is_linkable}
use Rattle.mufom_meaning.proofs.staging.Stages.{Stays, stays_linked}
use Rattle.mufom_refusals.specs.declared.locate.LocateRefusal.{LocateRefusal}
use Rattle.mufom_refusals.specs.declared.locate.LocateRefusal.TheVariants as refusals
use Rattle.mufom_image.specs.Refusals.{IsMet}
use Rattle.mufom_image.proofs.MetLaws.{met-first}
use Rattle.mufom_planned.specs.Layout.{Layout, layout, has_bytes}
use Rattle.mufom_planned.specs.PlanSymbols.{first_shared, followed_by, with_names, with_symbols}
use Rattle.mufom_planned.specs.Planned.{PlanFact, HasLocation, IsPlanned, copied_answer, layout_fact, of_list, planned_answer, shared_name}
use Rattle.mufom_planned.specs.PlanLaws.{HasSoundSymbols}
use Rattle.mufom_planned.proofs.Alike.{layout_same, same_answer, location_there}
use Rattle.mufom_planned.proofs.SymbolsModule.{symbols_valid, followed_names}
use Rattle.mufom_refusals.specs.declared.planned.PlannedRefusal.{PlannedRefusal}
use Rattle.mufom_refusals.specs.declared.planned.PlannedRefusal.TheVariants as planned
use Rattle.mufom_locating.specs.Copied.{IsLocatedWithCopies}
use Rattle.mufom_locating.specs.Linked.{IsLinkWith, symbols_behind}
use Rattle.mufom_planned.specs.Numbers.{symbol_number}
use Rattle.mufom_locating.specs.declared.layout.Layout.{Layout as Laid}
use Rattle.mufom_locating.specs.Numbered.{AreValues}
use Rattle.mufom_locating.specs.Placed.{IsLaid, IsPlacedBy, numbers_of}
use Rattle.mufom_locating.specs.Refusals.{IsMetBy, list_fact}
use Rattle.mufom_locating.proofs.LinkLaws.{few_starts}

-- ---- errors

-- an error that reports no fact is out of memory
met-none : (refusal : LocateRefusal) → IsMet None refusal → (met : Option LocateFact) → IsMet met refusal
met-none (refusals.Place refusal) h met = absurd cc
met-none (refusals.Undefined name) h met = absurd cc
met-none (refusals.CommonUnplaced name) h met = absurd cc
met-none (refusals.Cycle name) h met = absurd cc
met-none (refusals.DivideByZero site) h met = absurd cc
met-none (refusals.Overflow section address kind size value) h met = absurd cc
met-none (refusals.LoadOutside section address) h met = absurd cc
met-none (refusals.LoadedTwice address) h met = absurd cc
met-none (refusals.ImageLimit count) h met = absurd cc
met-none refusals.NoMemory h met = tt

-- the fact about a list is the one that is found
pub list_fact-of_list : (o : Option LocateFact) → list_fact (option_map of_list o) ≡ o
list_fact-of_list None = refl
list_fact-of_list (Some fact) = refl

no-list-fact : (o : Option (List ℕ)) → list_fact (option_map shared_name o) ≡ None
no-list-fact None = refl
no-list-fact (Some name) = refl

module _ (m : Parts) (plan : Plan) where
  abbrev shared : Option (List ℕ)
  shared = first_shared (m ∷ []) plan

  abbrev after : Option PlanFact
  after = option_map of_list (copied_answer (with_symbols (m ∷ []) plan) plan)

  -- the error of a shared name
  pub shared-met : (refusal : PlannedRefusal) → IsMetBy (option_map shared_name shared) refusal → IsMetBy (planned_answer (m ∷ []) plan) refusal
  shared-met (planned.SharedName name) h = ap (λ o. o or_else after) h
  shared-met (planned.Locate refusal) h =
      met-none refusal (subst (λ o. IsMet o refusal) (no-list-fact shared) h) (list_fact (planned_answer (m ∷ []) plan))

  -- the error about the list with the symbols
  pub listed-met : shared ≡ None → (refusal : LocateRefusal) → IsMet (copied_answer (with_symbols (m ∷ []) plan) plan) refusal
      → IsMetBy (planned_answer (m ∷ []) plan) (planned.Locate refusal)
  listed-met none refusal h =
      subst (λ o. IsMet o refusal)
      (sym (ap (λ o. list_fact (option_map shared_name o or_else after)) none ∙ list_fact-of_list (copied_answer (with_symbols (m ∷ []) plan) plan))) h

  pub nothing-met : shared ≡ None → copied_answer (with_symbols (m ∷ []) plan) plan ≡ None → planned_answer (m ∷ []) plan ≡ None
  nothing-met none found = (λ i. option_map shared_name (none i) or_else option_map of_list (found i))

-- ---- the list with the symbols

behind_it : (m : Parts) (numbers : PlanSymbol → ℕ) (symbols : List PlanSymbol) → symbols ≢ [] → followed_by (m ∷ []) numbers symbols ≡ symbols_behind m numbers symbols
behind_it m numbers [] some = absurd (some refl)
behind_it m numbers (symbol ∷ symbols) some = refl

-- a module alone can be linked
pub alone-links : (m : Parts) → AreDistinct (names_of m.names.publics) → link_answer (m ∷ []) ≡ None
alone-links m names =
    (no_link_answer_is_linkable (m ∷ [])).1 (record {
      descriptor = ((refl, refl), tt);
      names = subst AreDistinct (sym (append-nil (names_of m.names.publics))) names;
      starts = few_starts m.start;
    })

module _ (m : Parts) (valid : IsValid m) (plan : Plan) (sound : HasSoundSymbols plan) (some : plan.symbols ≢ []) where
  abbrev behind : (PlanSymbol → ℕ) → List Parts
  behind numbers = symbols_behind m numbers plan.symbols

  pub named-behind : with_names (m ∷ []) plan ≡ behind (λ symbol. 0)
  named-behind = behind_it m (λ symbol. 0) plan.symbols some

  pub symbols-behind : with_symbols (m ∷ []) plan ≡ behind (numbers_of m plan)
  symbols-behind = behind_it m (numbers_of m plan) plan.symbols some

  -- where everything is placed does not depend on the values of symbols
  module _ (numbers others : PlanSymbol → ℕ) where
    same-names : public_names (behind numbers) ≡ public_names (behind others)
    same-names = followed_names (m ∷ []) m numbers plan.symbols ∙ sym (followed_names (m ∷ []) m others plan.symbols)

    same-unresolved : unresolved_references (behind numbers) ≡ unresolved_references (behind others)
    same-unresolved = ap (λ names. filter (λ (reference : Reference). not (has_name names reference.name)) (flat_references (behind numbers))) same-names

    same-commons : commons (behind numbers) ≡ commons (behind others)
    same-commons =
        ap (λ (rs : List Reference). distinct same_common (map (λ reference. (reference.name, common_size reference.weak)) (filter is_common rs))) same-unresolved

    pub same-layouts : layout (behind numbers) plan ≡ layout (behind others) plan
    same-layouts =
        let placed = same_placed_commons (behind numbers) (behind others) refl same-commons plan in
        λ i. record {
          plan = plan;
          sections = flat_sections (behind numbers);
          commons = placed i;
          copied = copies plan (flat_sections (behind numbers)) (placed i) (has_bytes (behind numbers));
        }

  module _ (numbers : PlanSymbol → ℕ) (M : Parts) (is : IsLinkWith m numbers plan.symbols M) where
    pub stays : Stays m (M ∷ []) (behind numbers)
    stays =
        stays_linked m (M ∷ []) (behind numbers)
        (linked (behind numbers) [] (behind numbers) [] M m.name (unlinked (behind numbers)) is.valid is.joined is.joined.named)
        (valid, (symbols_valid m valid numbers plan.symbols sound.short, tt)) ((refl, refl), ((refl, refl), tt))
        ((no_link_answer_is_linkable (behind numbers)).0 is.links).names

    -- the link has the layout of the list with the symbols' names
    pub linked-layout : layout (M ∷ []) plan ≡ layout (with_names (m ∷ []) plan) plan
    linked-layout =
        layout_same (M ∷ []) (behind numbers) plan stays.meaning ∙ same-layouts numbers (λ symbol. 0) ∙ sym (ap (λ ms. layout ms plan) named-behind)

    pub linked-width : width (M ∷ []) ≡ width (m ∷ [])
    linked-width = ap (λ n. 8 * n) is.joined.header.maus

    abbrev names-layout : Layout
    names-layout = layout (with_names (m ∷ []) plan) plan

    pub linked-laid : (laid : Laid) → IsPlacedBy M plan laid → IsLaid (width (m ∷ [])) names-layout laid
    linked-laid laid h =
        subst (λ w. IsLaid w names-layout laid) linked-width (subst (λ l. IsLaid (width (M ∷ [])) l laid) linked-layout h)

    pub laid-linked : (laid : Laid) → IsLaid (width (m ∷ [])) names-layout laid → IsPlacedBy M plan laid
    laid-linked laid h =
        subst (λ w. IsLaid w (layout (M ∷ []) plan) laid) (sym linked-width) (subst (λ l. IsLaid (width (m ∷ [])) l laid) (sym linked-layout) h)

    pub linked-values : (values : List ℕ) → AreValues M.maus (λ symbol. symbol_number (layout (M ∷ []) plan) symbol.value) plan.symbols values
        → AreValues m.maus (numbers_of m plan) plan.symbols values
    linked-values values h =
        let maus = is.joined.header.maus in
        let laid = linked-layout in
        h ∙ (λ i. map (λ (symbol : PlanSymbol). symbol_number (laid i) symbol.value % 2 ^ (8 * maus i)) plan.symbols)

    -- no public name occurs twice in it
    pub linked-distinct : AreDistinct (names_of M.names.publics)
    linked-distinct =
        subst AreDistinct (sym (sym (append-nil (names_of M.names.publics)) ∙ stays.names))
        ((no_link_answer_is_linkable (behind numbers)).0 is.links).names

    same-width : width (M ∷ []) ≡ width (with_symbols (m ∷ []) plan)
    same-width = linked-width ∙ sym (ap width symbols-behind)

    -- the link is placed as the list with the symbols, whatever their values in the link
    pub whole-layout : layout (M ∷ []) plan ≡ layout (with_symbols (m ∷ []) plan) plan
    whole-layout =
        layout_same (M ∷ []) (behind numbers) plan stays.meaning ∙ same-layouts numbers (numbers_of m plan) ∙ sym (ap (λ ms. layout ms plan) symbols-behind)

    pub same-fact : layout_fact (M ∷ []) (layout (M ∷ []) plan) ≡ layout_fact (with_symbols (m ∷ []) plan) (layout (with_symbols (m ∷ []) plan) plan)
    same-fact = λ i. option_map placement (all_refusal (same-width i) (whole-layout i).plan (whole-layout i).sections (whole-layout i).commons (whole-layout i).copied)

    -- an error of placing the link
    pub layout-met : first_shared (m ∷ []) plan ≡ None → (refusal : LocateRefusal) → IsMet (layout_fact (M ∷ []) (layout (M ∷ []) plan)) refusal
        → IsMetBy (planned_answer (m ∷ []) plan) (planned.Locate refusal)
    layout-met none refusal h =
        listed-met m plan none refusal
        (met-first (layout_fact (with_symbols (m ∷ []) plan) (layout (with_symbols (m ∷ []) plan) plan)) _ refusal
        (subst (λ o. IsMet o refusal) same-fact h))

  module _ (M : Parts) (is : IsLinkWith m (numbers_of m plan) plan.symbols M) where
    pub same-answers : copied_answer (M ∷ []) plan ≡ copied_answer (with_symbols (m ∷ []) plan) plan
    same-answers =
        same_answer m (M ∷ []) (behind (numbers_of m plan)) plan (stays (numbers_of m plan) M is) ∙ sym (ap (λ ms. copied_answer ms plan) symbols-behind)

    -- an error of locating the link
    pub copied-met : first_shared (m ∷ []) plan ≡ None → (refusal : LocateRefusal) → IsMet (copied_answer (M ∷ []) plan) refusal
        → IsMetBy (planned_answer (m ∷ []) plan) (planned.Locate refusal)
    copied-met none refusal h = listed-met m plan none refusal (subst (λ o. IsMet o refusal) same-answers h)

    -- the location of the link is that of the module by the plan
    pub linked-planned : AreDistinct (names_of m.names.publics) → first_shared (m ∷ []) plan ≡ None → (r : LocatedParts) → IsLocatedWithCopies M plan r
        → IsPlanned (m ∷ []) plan r
    linked-planned names none r h = record {
      links = alone-links m names;
      locates = nothing-met m plan none (sym same-answers ∙ h.locates);
      located = subst (λ ms. HasLocation ms plan r) (sym symbols-behind)
          (location_there (M ∷ []) (behind (numbers_of m plan)) plan (stays (numbers_of m plan) M is).meaning r h.located);
    }

-- ---- a plan without symbols

module _ (m : Parts) (plan : Plan) (none : plan.symbols ≡ []) where
  no-shared : first_shared (m ∷ []) plan ≡ None
  no-shared = ap (λ symbols. find (has_name (public_names (m ∷ []))) (symbol_names symbols)) none

  pub same-list : with_symbols (m ∷ []) plan ≡ m ∷ []
  same-list = ap (followed_by (m ∷ []) (numbers_of m plan)) none

  pub unnamed-met : (refusal : LocateRefusal) → IsMet (copied_answer (m ∷ []) plan) refusal → IsMetBy (planned_answer (m ∷ []) plan) (planned.Locate refusal)
  unnamed-met refusal h =
      listed-met m plan no-shared refusal (subst (λ ms. IsMet (copied_answer ms plan) refusal) (sym same-list) h)

  pub unnamed-planned : AreDistinct (names_of m.names.publics) → (r : LocatedParts) → IsLocatedWithCopies m plan r → IsPlanned (m ∷ []) plan r
  unnamed-planned names r h = record {
    links = alone-links m names;
    locates = nothing-met m plan no-shared (ap (λ ms. copied_answer ms plan) same-list ∙ h.locates);
    located = subst (λ ms. HasLocation ms plan r) (sym same-list) h.located;
  }
