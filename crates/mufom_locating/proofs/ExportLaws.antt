-- The module that is shown of a location by a plan, and what a plan places.
use Rattle.std.proofs.Common.{◌≡◌, ◌≢◌, ℕ, List, [], ◌∷◌, Option, Some, None, refl, sym, ap, subst, ◌∙◌}
use Rattle.std.specs.Prelude.{option_map}
use Rattle.mufom_names.specs.Names.{names_of, AreDistinct}
use Rattle.mufom_module.specs.declared.module.Parts.{Parts}
use Rattle.mufom_module.specs.Defects.{IsValid}
use Rattle.mufom_plan.specs.declared.plan.PlanSymbol.{PlanSymbol}
use Rattle.mufom_plan.specs.declared.plan.Plan.{Plan}
use Rattle.mufom_place.specs.Facts.{◌or_else◌}
use Rattle.mufom_place.specs.Copies.{all_refusal}
use Rattle.mufom_meaning.specs.Facts.{LocateFact, placement}
use Rattle.mufom_meaning.specs.Flat.{width}
use Rattle.mufom_meaning.specs.Joined.{IsJoined}
use Rattle.mufom_meaning.specs.LocateAnswer.{after_placing}
use Rattle.mufom_meaning.specs.StagingLaws.{MeansTheSame}
use Rattle.mufom_refusals.specs.declared.locate.LocateRefusal.{LocateRefusal}
use Rattle.mufom_refusals.specs.declared.locate.LocateRefusal.TheVariants as refusals
use Rattle.mufom_image.specs.Refusals.{IsMet}
use Rattle.mufom_planned.specs.Layout.{layout}
use Rattle.mufom_planned.specs.Numbers.{symbol_number}
use Rattle.mufom_planned.specs.PlanSymbols.{first_shared, with_names, with_symbols}
use Rattle.mufom_planned.specs.Planned.{copied_answer, layout_fact, of_list, planned_answer, shared_name}
use Rattle.mufom_planned.specs.PlanLaws.{HasSoundSymbols, AreLoadedInPlace}
use Rattle.mufom_planned.specs.Shown.{placing_fact, shown_if, shown_list}
use Rattle.mufom_planned.proofs.Locatable.{none_of_both, none_mapped}
use Rattle.mufom_planned.proofs.Plain.{none_from}
use Rattle.mufom_locating.specs.Linked.{IsLinkWith, symbols_behind}
use Rattle.mufom_locating.specs.declared.layout.Layout.{Layout as Laid}
use Rattle.mufom_locating.specs.Numbered.{AreValues}
use Rattle.mufom_locating.specs.Placed.{IsPlacedBy, numbers_of}
use Rattle.mufom_locating.proofs.JoinLaws.{linked-distinct, linked-layout, linked-values, linked-width, named-behind, same-answers, same-fact, stays, symbols-behind}

-- regions that are loaded where they are have no copies
pub no-copies : (ms : List Parts) (plan : Plan) → AreLoadedInPlace plan.regions → [] ≡ (layout ms plan).copied
no-copies ms plan none = sym (none_from plan.regions _ _ 0 plan.regions none)

-- no symbol of a plan by which a list can be located has the name of a public
pub unshared : (ms : List Parts) (plan : Plan) → planned_answer ms plan ≡ None → first_shared ms plan ≡ None
unshared ms plan e =
    none_mapped shared_name (first_shared ms plan)
    (none_of_both (option_map shared_name (first_shared ms plan)) (option_map of_list (copied_answer (with_symbols ms plan) plan)) e).0

-- an error that is not out of memory reports a fact
pub met-some : (o : Option LocateFact) (refusal : LocateRefusal) → refusal ≢ refusals.NoMemory → IsMet o refusal → (fact : LocateFact) × (o ≡ Some fact)
met-some o (refusals.Place refusal) other h = (_, h)
met-some o (refusals.Undefined name) other h = (_, h)
met-some o (refusals.CommonUnplaced name) other h = (_, h)
met-some o (refusals.Cycle name) other h = (_, h)
met-some o (refusals.DivideByZero site) other h = (_, h)
met-some o (refusals.Overflow section address kind size value) other h = (_, h)
met-some o (refusals.LoadOutside section address) other h = (_, h)
met-some o (refusals.LoadedTwice address) other h = (_, h)
met-some o (refusals.ImageLimit count) other h = (_, h)
met-some o refusals.NoMemory other h = absurd (other refl)

-- what is returned of a module that is shown
pub record IsShown (m : Parts) (plan : Plan) (M : Parts) : Type 0 where
  pub joined : IsJoined M (shown_list (m ∷ []) plan) m.name
  pub means : MeansTheSame (M ∷ []) (shown_list (m ∷ []) plan)
  pub names : AreDistinct (names_of M.names.publics)
  pub answers : copied_answer (M ∷ []) plan ≡ copied_answer (with_symbols (m ∷ []) plan) plan

module _ (m : Parts) (valid : IsValid m) (plan : Plan) (sound : HasSoundSymbols plan) (some : plan.symbols ≢ []) where
  abbrev zero_of : PlanSymbol → ℕ
  zero_of symbol = 0

  -- what keeps the link with the names from being placed keeps the list with the names from it
  named-fact : (N : Parts) (is : IsLinkWith m zero_of plan.symbols N) → layout_fact (N ∷ []) (layout (N ∷ []) plan) ≡ placing_fact (m ∷ []) plan
  named-fact N is =
      let own = linked-layout m valid plan sound some zero_of N is in
      let w : width (N ∷ []) ≡ width (with_names (m ∷ []) plan) = linked-width m valid plan sound some zero_of N is
      ∙ sym (ap width (named-behind m valid plan sound some)) in
      λ i. option_map placement (all_refusal (w i) (own i).plan (own i).sections (own i).commons (own i).copied)

  -- the link with the names, if it cannot be placed
  pub shown-named : (N : Parts) → IsLinkWith m zero_of plan.symbols N → (fact : LocateFact) → layout_fact (N ∷ []) (layout (N ∷ []) plan) ≡ Some fact
      → IsShown m plan N
  shown-named N is fact e =
      let list : shown_list (m ∷ []) plan ≡ symbols_behind m zero_of plan.symbols = ap (λ o. shown_if o (m ∷ []) plan) (sym (named-fact N is) ∙ e)
      ∙ named-behind m valid plan sound some in
      let there = sym (same-fact m valid plan sound some zero_of N is) ∙ e in
      record {
        joined = subst (λ ms. IsJoined N ms m.name) (sym list) is.joined;
        means = subst (MeansTheSame (N ∷ [])) (sym list) (stays m valid plan sound some zero_of N is).meaning;
        names = linked-distinct m valid plan sound some zero_of N is;
        answers = ap (λ o. o or_else after_placing (N ∷ []) plan) e
            ∙ sym (ap (λ o. o or_else after_placing (with_symbols (m ∷ []) plan) plan) there);
      }

  -- the link with the symbols at their values, if the link with the names can be placed
  pub shown-valued : (N : Parts) → IsLinkWith m zero_of plan.symbols N → layout_fact (N ∷ []) (layout (N ∷ []) plan) ≡ None
      → (M : Parts) → IsLinkWith m (numbers_of m plan) plan.symbols M → IsShown m plan M
  shown-valued N is e M valued =
      let list : shown_list (m ∷ []) plan ≡ symbols_behind m (numbers_of m plan) plan.symbols =
      ap (λ o. shown_if o (m ∷ []) plan) (sym (named-fact N is) ∙ e) ∙ symbols-behind m valid plan sound some in
      record {
        joined = subst (λ ms. IsJoined M ms m.name) (sym list) valued.joined;
        means = subst (MeansTheSame (M ∷ [])) (sym list) (stays m valid plan sound some (numbers_of m plan) M valued).meaning;
        names = linked-distinct m valid plan sound some (numbers_of m plan) M valued;
        answers = same-answers m valid plan sound some M valued;
      }

  -- the same, as it is computed: `given` are the values
  pub shown-placed : (N : Parts) → IsLinkWith m zero_of plan.symbols N → (laid : Laid) → IsPlacedBy N plan laid
      → (values : List ℕ) → AreValues N.maus (λ symbol. symbol_number (layout (N ∷ []) plan) symbol.value) plan.symbols values
      → (given : List ℕ) → given ≡ values
      → (M : Parts) → ((numbers : PlanSymbol → ℕ) → AreValues m.maus numbers plan.symbols given → IsLinkWith m numbers plan.symbols M)
      → IsShown m plan M
  shown-placed N is laid placed values are given same M link =
      shown-valued N is (ap (option_map placement) placed.places.fits) M
      (link (numbers_of m plan) (same ∙ linked-values m valid plan sound some zero_of N is values are))
