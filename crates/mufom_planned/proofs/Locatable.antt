-- What is located by a plan can be linked, and located without copies, with the plan's symbols behind it.
use Rattle.std.proofs.Common.{◌≡◌, ℕ, ◌≤◌, List, [], ◌∷◌, ◌++◌, length, Option, Some, None, refl, ap, sym, ◌∙◌, subst}
use Rattle.std.specs.Prelude.{find, option_map, option_to_list}
use Rattle.std.proofs.lemmas.List.{append-nil}
use Rattle.std.proofs.lemmas.Grind.{flat_map-append}
use Rattle.mufom_names.specs.Names.{AreDistinct}
use Rattle.mufom_module.specs.declared.module.Parts.{Parts}
use Rattle.mufom_plan.specs.declared.plan.PlanSymbol.{PlanSymbol}
use Rattle.mufom_plan.specs.declared.plan.Plan.{Plan}
use Rattle.mufom_plan.specs.Names.{has_name, symbol_names, AreDistinctNames}
use Rattle.mufom_plan.specs.Symbols.{HaveShortNames}
use Rattle.mufom_place.specs.Facts.{◌or_else◌}
use Rattle.mufom_place.proofs.CopyLaws.{fits_without_copies}
use Rattle.mufom_meaning.specs.Flat.{public_names, flat_starts, width, flat_sections}
use Rattle.mufom_meaning.specs.Placed.{placed_commons}
use Rattle.mufom_meaning.specs.Facts.{placement}
use Rattle.mufom_meaning.specs.FactLaws.{IsLinkable}
use Rattle.mufom_meaning.specs.LinkAnswer.{link_answer}
use Rattle.mufom_meaning.specs.LocateAnswer.{locate_answer, after_placing}
use Rattle.mufom_meaning.specs.Staging.{AreValid}
use Rattle.mufom_meaning.proofs.facts.Linkable.{no_link_answer_is_linkable}
use Rattle.mufom_planned.specs.Layout.{layout}
use Rattle.mufom_planned.specs.PlanSymbols.{symbols_module, followed_by, with_symbols, first_shared}
use Rattle.mufom_planned.specs.Planned.{of_list, shared_name, copied_answer, layout_fact, planned_answer}
use Rattle.mufom_planned.specs.PlanLaws.{PlannedIsLocatable}
use Rattle.mufom_planned.proofs.SymbolsModule.{symbols_valid, followed_names, distinct_together, none_shared}
use Rattle.mufom_planned.proofs.Alike.{valid_together, alike_together}

pub none_of_both : {A : Type 0} (o p : Option A) → o or_else p ≡ None → (o ≡ None) × (p ≡ None)
none_of_both None p e = (refl, e)
none_of_both (Some x) p e = absurd cc

pub none_mapped : {A B : Type 0} (f : A → B) (o : Option A) → option_map f o ≡ None → o ≡ None
none_mapped f None e = refl
none_mapped f (Some x) e = absurd cc

-- a list is valid and linkable with sound symbols behind it
followed_links : (numbers : PlanSymbol → ℕ) (symbols : List PlanSymbol) (ms : List Parts) → AreDistinctNames (symbol_names symbols) → HaveShortNames symbols
    → AreValid ms → link_answer ms ≡ None → find (has_name (public_names ms)) (symbol_names symbols) ≡ None
    → AreValid (followed_by ms numbers symbols) × (link_answer (followed_by ms numbers symbols) ≡ None)
followed_links numbers symbols [] distinct short v e apart = (tt, e)
followed_links numbers [] (m ∷ ms) distinct short v e apart = (v, e)
followed_links numbers (symbol ∷ more) (m ∷ ms) distinct short v e apart =
    let symbols : List PlanSymbol = symbol ∷ more in
    let own = symbols_module m numbers symbols in
    let was = (no_link_answer_is_linkable (m ∷ ms)).0 e in
    let same = followed_names (m ∷ ms) m numbers symbols in
    let starts = flat_map-append (λ (p : Parts). option_to_list p.start) (m ∷ ms) (own ∷ []) ∙ append-nil (flat_starts (m ∷ ms)) in
    let linkable : IsLinkable ((m ∷ ms) ++ own ∷ []) = record {
      descriptor = alike_together m (m ∷ ms) (own ∷ []) was.descriptor ((refl, refl), tt);
      names = subst AreDistinct (sym same) (distinct_together (public_names (m ∷ ms)) (symbol_names symbols) was.names distinct
          (none_shared (public_names (m ∷ ms)) (symbol_names symbols) apart));
      starts = subst (λ n. n ≤ 1) (ap length (sym starts)) was.starts;
    } in
    (valid_together (m ∷ ms) (own ∷ []) v (symbols_valid m v.0 numbers symbols short, tt), (no_link_answer_is_linkable ((m ∷ ms) ++ own ∷ [])).1 linkable)

-- what is located with copies is located without them
located_without : (ms : List Parts) (plan : Plan) → copied_answer ms plan ≡ None → locate_answer ms plan ≡ None
unfolding locate_answer
located_without ms plan e =
    let parts = none_of_both (layout_fact ms (layout ms plan)) (after_placing ms plan) e in
    let fits = fits_without_copies (width ms) plan (flat_sections ms) (placed_commons ms plan) (layout ms plan).copied (none_mapped placement _ parts.0) in
    ap (λ o. option_map placement o or_else after_placing ms plan) fits ∙ parts.1

pub planned_is_locatable : PlannedIsLocatable
planned_is_locatable ms plan v sound links e =
    let parts = none_of_both (option_map shared_name (first_shared ms plan)) (option_map of_list (copied_answer (with_symbols ms plan) plan)) e in
    let both = followed_links _ plan.symbols ms sound.distinct sound.short v links (none_mapped shared_name (first_shared ms plan) parts.0) in
    record {
      valid = both.0;
      links = both.1;
      locates = located_without (with_symbols ms plan) plan (none_mapped of_list (copied_answer (with_symbols ms plan) plan) parts.1);
    }

-- nothing is returned for the list with the symbols
pub copied_none : (ms : List Parts) (plan : Plan) → planned_answer ms plan ≡ None → copied_answer (with_symbols ms plan) plan ≡ None
copied_none ms plan e = none_mapped of_list _ (none_of_both (option_map shared_name (first_shared ms plan)) _ e).1
