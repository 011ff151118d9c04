-- A list that was linked in stages is located by a plan as the list of its leaves.
use Rattle.std.proofs.Common.{◌≡◌, ℕ, ◌*◌, List, [], ◌∷◌, ◌++◌, map, length, Option, Some, None, Bool, false, refl, ap, sym, ◌∙◌, subst, append_assoc}
use Rattle.std.proofs.Common.{◌||◌, ◌&&◌, not}
use Rattle.std.specs.Prelude.{find, option_map, ◌==◌, ◌^◌}
use Rattle.std.specs.List.{list_any}
use Rattle.mufom_loads.specs.declared.load.Item.TheVariants.{Literal, Field}
use Rattle.mufom_names.specs.Names.{AreDistinct}
use Rattle.mufom_module.specs.declared.module.Parts.{Parts}
use Rattle.mufom_plan.specs.declared.plan.PlanSymbol.{PlanSymbol}
use Rattle.mufom_plan.specs.declared.plan.Plan.{Plan}
use Rattle.mufom_plan.specs.Names.{has_name, symbol_names, AreDistinctNames}
use Rattle.mufom_plan.specs.Symbols.{HaveShortNames}
use Rattle.mufom_place.specs.Facts.{◌or_else◌}
use Rattle.mufom_place.specs.Copies.{copies, all_refusal}
use Rattle.mufom_meaning.specs.declared.located.LocatedParts.{LocatedParts}
use Rattle.mufom_meaning.specs.Bases.{Bases, no_bases}
use Rattle.mufom_meaning.specs.Flat.{flat_sections, commons, public_names, width}
use Rattle.mufom_meaning.specs.Placed.{planned_bases}
use Rattle.mufom_meaning.specs.Readings.{Readings, readings}
use Rattle.mufom_meaning.specs.Values.{Setting}
use Rattle.mufom_meaning.specs.Steps.{Step, counter_step, item_step, steps, StepReading, counter_reading, literal_reading, field_reading}
use Rattle.mufom_meaning.specs.Steps.{step_reading, readings_after}
use Rattle.mufom_meaning.specs.Facts.{LocateFact, placement}
use Rattle.mufom_meaning.specs.Location.{Header, first_header, placed_sections, located_mark}
use Rattle.mufom_meaning.specs.AddressMap.{AreRunsOf}
use Rattle.mufom_meaning.specs.Staging.{AreValid, HaveDescriptor, IsStaged, unlinked, linked}
use Rattle.mufom_meaning.specs.StagingLaws.{MeansTheSame}
use Rattle.mufom_meaning.proofs.Placed.{same_placed_commons, same_planned}
use Rattle.mufom_meaning.proofs.staging.Stages.{Stays, stays_linked}
use Rattle.mufom_numbers.proofs.Choices.{some_same}
use Rattle.mufom_planned.specs.Layout.{Layout, layout, layout_bases, whole_list, has_bytes, loads_into}
use Rattle.mufom_planned.specs.Numbers.{symbol_number}
use Rattle.mufom_planned.specs.PlanSymbols.{symbols_module, followed_by, with_names, with_symbols, first_shared}
use Rattle.mufom_planned.specs.Planned.{of_list, shared_name, copied_answer, planned_answer, load_map, HasLocation, IsPlanned}
use Rattle.mufom_planned.specs.Shown.{placing_fact, shown_if, shown_list}
use Rattle.mufom_planned.specs.PlanLaws.{HasSoundSymbols, AreLocatedAlike, StagedPlansMeanTheSame}
use Rattle.mufom_planned.proofs.SymbolsModule.{symbols_valid, followed_names, distinct_together, none_shared}

-- ---- which sections have bytes is seen in the readings of the steps

abbrev reading_loads : ℕ → StepReading → Bool
reading_loads n (counter_reading section v) = false
reading_loads n (literal_reading section at bytes) = (section == n) && not (length bytes == 0)
reading_loads n (field_reading section at kind size v) = (section == n) && not (size == 0)

step_loads : (n : ℕ) (s : Setting) (earlier : List Step) (step : Step) → reading_loads n (step_reading s earlier step) ≡ loads_into n step
step_loads n s earlier (counter_step site section t) = refl
step_loads n s earlier (item_step site section (Literal bytes)) = refl
step_loads n s earlier (item_step site section (Field kind size t)) = refl

all_load : (n : ℕ) (s : Setting) (earlier more : List Step) → list_any (reading_loads n) (readings_after s earlier more) ≡ list_any (loads_into n) more
all_load n s earlier [] = refl
all_load n s earlier (step ∷ more) = λ i. step_loads n s earlier step i || all_load n s (step ∷ earlier) more i

has_bytes-read : (ms : List Parts) (b : Bases) (n : ℕ) → list_any (reading_loads n) (readings ms b).steps ≡ has_bytes ms n
unfolding readings
has_bytes-read ms b n = all_load n _ [] (steps ms)

-- ---- lists with the same readings have the same layout

width_of : Option Header → ℕ
width_of None = 0
width_of (Some header) = 8 * header.2

width-first : (ms : List Parts) → width ms ≡ width_of (first_header ms)
unfolding width_of
width-first [] = refl
width-first (m ∷ ms) = refl

module _ (ms ns : List Parts) (plan : Plan) (same : MeansTheSame ms ns) where
  sections : flat_sections ms ≡ flat_sections ns
  unfolding readings
  sections = ap (λ (x : Readings). x.sections) (same.same_readings no_bases)

  asked : commons ms ≡ commons ns
  unfolding readings
  asked = ap (λ (x : Readings). x.commons) (same.same_readings no_bases)

  bytes : (n : ℕ) → has_bytes ms n ≡ has_bytes ns n
  bytes n =
      sym (has_bytes-read ms no_bases n) ∙ ap (λ (x : Readings). list_any (reading_loads n) x.steps) (same.same_readings no_bases)
      ∙ has_bytes-read ns no_bases n

  widths : width ms ≡ width ns
  widths = width-first ms ∙ ap width_of same.same_first ∙ sym (width-first ns)

  pub layout_same : layout ms plan ≡ layout ns plan
  layout_same = let own = sections in let more = same_placed_commons ms ns sections asked plan in
      λ i. record { plan = plan; sections = own i; commons = more i; copied = copies plan (own i) (more i) (λ n. bytes n i) }

  there : readings ms (planned_bases ms plan) ≡ readings ns (planned_bases ns plan)
  there = same.same_readings (planned_bases ms plan) ∙ ap (readings ns) (same_planned ms ns sections asked plan)

  pub location_there : (r : LocatedParts) → HasLocation ms plan r → HasLocation ns plan r
  location_there r h = record {
    first = sym same.same_first ∙ h.first;
    sections = h.sections ∙ ap (λ (l : Layout). placed_sections (layout_bases l) (whole_list l)) layout_same;
    publics = h.publics ∙ ap (λ (x : Readings). x.publics) there;
    start = h.start ∙ ap (λ (x : Readings). x.starts) there;
    debug = h.debug ∙ ap (λ (x : Readings). map located_mark x.debug) there;
    rows = let own = layout_same in let w = widths in let its = there in
        subst (λ cells. AreRunsOf cells r.runs) (λ i. load_map (own i) r.order (2 ^ w i) (its i).steps) h.rows;
  }

  pub location_back : (r : LocatedParts) → HasLocation ns plan r → HasLocation ms plan r
  location_back r h = record {
    first = same.same_first ∙ h.first;
    sections = h.sections ∙ ap (λ (l : Layout). placed_sections (layout_bases l) (whole_list l)) (sym layout_same);
    publics = h.publics ∙ ap (λ (x : Readings). x.publics) (sym there);
    start = h.start ∙ ap (λ (x : Readings). x.starts) (sym there);
    debug = h.debug ∙ ap (λ (x : Readings). map located_mark x.debug) (sym there);
    rows = let own = sym layout_same in let w = sym widths in let its = sym there in
        subst (λ cells. AreRunsOf cells r.runs) (λ i. load_map (own i) r.order (2 ^ w i) (its i).steps) h.rows;
  }

module _ (d : Parts) (ms ns : List Parts) (plan : Plan) (so : Stays d ms ns) where
  pub same_answer : copied_answer ms plan ≡ copied_answer ns plan
  same_answer = let own = layout_same ms ns plan so.meaning in let later = so.later plan in let w = widths ms ns plan so.meaning in
      λ i. option_map placement (all_refusal (w i) plan (own i).sections (own i).commons (own i).copied) or_else later i

-- ---- a list in stages, with more modules behind it

staged_before : (more ms leaves : List Parts) → IsStaged ms leaves → IsStaged (ms ++ more) (leaves ++ more)
staged_before more _ _ (unlinked ms) = unlinked (ms ++ more)
staged_before more _ _ (linked leaves before group after M name stages m j stay) =
    let so_far = staged_before more (before ++ (group ++ after)) leaves stages in
    let behind = append_assoc before (group ++ after) more ∙ ap (λ xs. before ++ xs) (append_assoc group after more) in
    subst (λ xs. IsStaged xs (leaves ++ more)) (sym (append_assoc before (M ∷ after) more))
    (linked (leaves ++ more) before group (after ++ more) M name (subst (λ xs. IsStaged xs (leaves ++ more)) behind so_far) m j stay)

pub valid_together : (ms more : List Parts) → AreValid ms → AreValid more → AreValid (ms ++ more)
valid_together [] more v w = w
valid_together (m ∷ ms) more v w = (v.0, valid_together ms more v.1 w)

pub alike_together : (d : Parts) (ms more : List Parts) → HaveDescriptor d ms → HaveDescriptor d more → HaveDescriptor d (ms ++ more)
alike_together d [] more k l = l
alike_together d (m ∷ ms) more k l = (k.0, alike_together d ms more k.1 l)

-- modules with the same descriptor have the same module of symbols
same_symbols : (m l : Parts) (numbers : PlanSymbol → ℕ) (symbols : List PlanSymbol) → m.maus ≡ l.maus → m.order ≡ l.order
    → symbols_module m numbers symbols ≡ symbols_module l numbers symbols
same_symbols m l numbers symbols maus order = λ i. symbols_module (record l { maus = maus i; order = order i }) numbers symbols

module _ (d : Parts) (numbers : PlanSymbol → ℕ) (plan : Plan) (sound : HasSoundSymbols plan) where
  -- lists that mean the same do so with the symbols behind them
  followed : (ms leaves : List Parts) → IsStaged ms leaves → AreValid leaves → HaveDescriptor d leaves → AreDistinct (public_names leaves)
      → Stays d ms leaves → first_shared leaves plan ≡ None
      → Stays d (followed_by ms numbers plan.symbols) (followed_by leaves numbers plan.symbols)
  followed [] [] staged v k names so apart = so
  followed [] (l ∷ ls) staged v k names so apart = let e = so.first in absurd cc
  followed (m ∷ ms) [] staged v k names so apart = let e = so.first in absurd cc
  followed (m ∷ ms) (l ∷ ls) staged v k names so apart = by_symbols plan.symbols refl where
    same_head : ◌≡◌ {A = Header} (m.processor, m.name, m.maus, m.order) (l.processor, l.name, l.maus, l.order)
    same_head = some_same _ _ so.first

    by_symbols : (symbols : List PlanSymbol) → plan.symbols ≡ symbols
        → Stays d (followed_by (m ∷ ms) numbers symbols) (followed_by (l ∷ ls) numbers symbols)
    by_symbols [] is = so
    by_symbols (symbol ∷ more) is =
        let symbols : List PlanSymbol = symbol ∷ more in
        let own = symbols_module l numbers symbols in
        let short = subst (λ all. HaveShortNames all) is sound.short in
        let valid : AreValid (own ∷ []) = (symbols_valid l v.0 numbers symbols short, tt) in
        let alike : HaveDescriptor d (own ∷ []) = (k.0, tt) in
        let distinct = subst AreDistinct (sym (followed_names (l ∷ ls) l numbers symbols))
        (distinct_together (public_names (l ∷ ls)) (symbol_names symbols) names
        (subst (λ all. AreDistinctNames (symbol_names all)) is sound.distinct)
        (none_shared (public_names (l ∷ ls)) (symbol_names symbols)
        (ap (λ all. find (has_name (public_names (l ∷ ls))) (symbol_names all)) (sym is) ∙ apart))) in
        let head = same_head in
        let same = same_symbols m l numbers symbols (ap (λ (x : Header). x.2) head) (ap (λ (x : Header). x.3) head) in
        subst (λ S. Stays d ((m ∷ ms) ++ S ∷ []) ((l ∷ ls) ++ own ∷ [])) (sym same)
        (stays_linked d ((m ∷ ms) ++ own ∷ []) ((l ∷ ls) ++ own ∷ []) (staged_before (own ∷ []) (m ∷ ms) (l ∷ ls) staged)
        (valid_together (l ∷ ls) (own ∷ []) v valid) (alike_together d (l ∷ ls) (own ∷ []) k alike) distinct)

-- ---- the law

module _ (d : Parts) (ms leaves : List Parts) (plan : Plan) (staged : IsStaged ms leaves) (v : AreValid leaves) (k : HaveDescriptor d leaves)
    (names : AreDistinct (public_names leaves)) (sound : HasSoundSymbols plan) where
  so : Stays d ms leaves
  so = stays_linked d ms leaves staged v k names

  shared : first_shared ms plan ≡ first_shared leaves plan
  shared = ap (λ all. find (has_name all) (symbol_names plan.symbols)) so.names

  abbrev numbers_of : List Parts → PlanSymbol → ℕ
  numbers_of xs symbol = symbol_number (layout (with_names xs plan) plan) symbol.value

  module _ (apart : first_shared leaves plan ≡ None) where
    named : Stays d (with_names ms plan) (with_names leaves plan)
    named = followed d (λ symbol. 0) plan sound ms leaves staged v k names so apart

    same_named : layout (with_names ms plan) plan ≡ layout (with_names leaves plan) plan
    same_named = layout_same (with_names ms plan) (with_names leaves plan) plan named.meaning

    same_numbers : numbers_of ms ≡ numbers_of leaves
    same_numbers = let all = same_named in λ i symbol. symbol_number (all i) symbol.value

    same_fact : placing_fact ms plan ≡ placing_fact leaves plan
    same_fact =
        let all = same_named in
        let w = widths (with_names ms plan) (with_names leaves plan) plan named.meaning in
        λ i. option_map placement (all_refusal (w i) (all i).plan (all i).sections (all i).commons (all i).copied)

    stays : Stays d (with_symbols ms plan) (with_symbols leaves plan)
    stays = subst (λ numbers. Stays d (followed_by ms numbers plan.symbols) (with_symbols leaves plan)) (sym same_numbers)
        (followed d (numbers_of leaves) plan sound ms leaves staged v k names so apart)

    shown_same : (o : Option LocateFact) → MeansTheSame (shown_if o ms plan) (shown_if o leaves plan)
    shown_same None = stays.meaning
    shown_same (Some fact) = named.meaning

    same_answers : planned_answer ms plan ≡ planned_answer leaves plan
    same_answers = let first = shared in let rest = same_answer d (with_symbols ms plan) (with_symbols leaves plan) plan stays in
        λ i. option_map shared_name (first i) or_else option_map of_list (rest i)

    alike : AreLocatedAlike ms leaves plan
    alike = record {
      answers = same_answers;
      locations = λ r. (
        λ h. record {
          links = sym so.meaning.same_link ∙ h.links;
          locates = sym same_answers ∙ h.locates;
          located = location_there (with_symbols ms plan) (with_symbols leaves plan) plan stays.meaning r h.located;
        },
        λ h. record {
          links = so.meaning.same_link ∙ h.links;
          locates = same_answers ∙ h.locates;
          located = location_back (with_symbols ms plan) (with_symbols leaves plan) plan stays.meaning r h.located;
        },
      );
      meaning = λ e. stays.meaning;
      shown = λ e. subst (λ o. MeansTheSame (shown_if o ms plan) (shown_list leaves plan)) (sym same_fact) (shown_same (placing_fact leaves plan));
    }

  -- a name that is shared is the answer for both lists
  answered : (xs : List Parts) (name : List ℕ) → first_shared xs plan ≡ Some name → planned_answer xs plan ≡ Some (shared_name name)
  answered xs name e = ap (λ o. option_map shared_name o or_else option_map of_list (copied_answer (with_symbols xs plan) plan)) e

  not_located : (xs : List Parts) (name : List ℕ) → first_shared xs plan ≡ Some name → (r : LocatedParts) → IsPlanned xs plan r → ⊥
  not_located xs name e r h = let f = sym (answered xs name e) ∙ h.locates in cc

  by_shared : (o : Option (List ℕ)) → first_shared leaves plan ≡ o → AreLocatedAlike ms leaves plan
  by_shared None e = alike e
  by_shared (Some name) e = record {
    answers = answered ms name (shared ∙ e) ∙ sym (answered leaves name e);
    locations = λ r. (λ h. absurd (not_located ms name (shared ∙ e) r h), λ h. absurd (not_located leaves name e r h));
    meaning = λ none. absurd (let clash = sym e ∙ none in cc);
    shown = λ none. absurd (let clash = sym e ∙ none in cc);
  }

  pub located_alike : AreLocatedAlike ms leaves plan
  located_alike = by_shared (first_shared leaves plan) refl

pub staged_plans_mean_the_same : StagedPlansMeanTheSame
staged_plans_mean_the_same d ms leaves plan staged v k names sound = located_alike d ms leaves plan staged v k names sound
