-- When an expression has a value: the laws.
use Rattle.std.proofs.Common.{◌≡◌, ◌≢◌, ℕ, ◌+◌, inl, inr, List, [], ◌∷◌, map, Option, Some, None, Bool, true, false, refl, ap, subst}
use Rattle.std.specs.Prelude.{option_map, option_to_list}
use Rattle.mufom_expr.specs.Tree.{Tree, number}
use Rattle.mufom_loads.specs.declared.load.Item.TheVariants.{Literal, Field}
use Rattle.mufom_debug.specs.declared.item.BlockHead.{BlockHead}
use Rattle.mufom_debug.specs.declared.item.BlockHead.TheVariants as heads
use Rattle.mufom_debug.specs.Marks.{DebugMark, block_begin, block_end, name_mark, note_mark, value_mark, marks_of, mark_expressions, expressions_of, offset_of}
use Rattle.mufom_module.specs.declared.module.Parts.{Parts}
use Rattle.mufom_plan.specs.declared.plan.Plan.{Plan}
use Rattle.mufom_plan.specs.Names.{has_name}
use Rattle.mufom_plan.specs.Commons.{has_common}
use Rattle.mufom_meaning.specs.declared.located.Site.{Site}
use Rattle.mufom_meaning.specs.Flat.{Sited, SitedPublic, sited, flat_publics, common_names}
use Rattle.mufom_meaning.specs.Values.{Setting, setting, value}
use Rattle.mufom_meaning.specs.Placed.{planned_bases}
use Rattle.mufom_meaning.specs.Steps.{Step, counter_step, item_step, steps, counter, StepReading, step_reading, readings_after}
use Rattle.mufom_meaning.specs.Walk.{start_trees, debug_trees}
use Rattle.mufom_meaning.specs.Readings.{readings, PublicReading, public_reading, mark_reading, head_reading}
use Rattle.mufom_meaning.specs.Location.{located_mark, located_head}
use Rattle.mufom_meaning.specs.LocationLaws.{HasValue, StepHasValue, AllValued}
use Rattle.mufom_meaning.specs.Facts.{LinkFact, duplicate, LocateFact, undefined, common_unplaced, cycle, zero_divisor}
use Rattle.mufom_meaning.specs.LinkAnswer.{link_answer}
use Rattle.mufom_meaning.specs.LocateAnswer.{locate_answer}
use Rattle.mufom_meaning.specs.Stands.{LinkFactStands, StandsBeforeWalk, IsStepAfter, put_back, HasZeroDivisor}
use Rattle.mufom_meaning.specs.Staging.{AreValid}
use Rattle.mufom_meaning.specs.Valued.{HaveValues, NoneByDivision, ValuesExist}
use Rattle.mufom_meaning.proofs.facts.AllAnswers.{answers_are_facts}
use Rattle.mufom_meaning.proofs.Placed.{planned_count, common_has_base, common_there}
use Rattle.mufom_meaning.proofs.Members.{In, Contains-In, at-In, map-In, In-map, In-flat_map, flat_map-In}
use Rattle.mufom_meaning.proofs.values.Lacks.{HasAllNamed, meets_none}
use Rattle.mufom_meaning.proofs.values.Named.{has_all_named}
use Rattle.mufom_meaning.proofs.values.Valued.{none_meets, have_values}

abbrev pub placed : List Parts → Plan → Setting
placed ms plan = setting ms (planned_bases ms plan)

all_named : (ms : List Parts) (plan : Plan) → AreValid ms → ((fact : LinkFact) → ¬ LinkFactStands ms fact)
    → ((fact : LocateFact) → ¬ StandsBeforeWalk ms plan (placed ms plan) fact)
    → HasAllNamed ms (placed ms plan)
all_named ms plan v link before =
    has_all_named ms (planned_bases ms plan) v (planned_count ms plan) (λ name. link (duplicate name)) (λ name. before (undefined name))
    (λ name common none. based name common none (has_common plan.regions) refl) (λ name. before (cycle name)) where
      based : (name : List ℕ) → has_name (common_names ms) name ≡ true → (planned_bases ms plan).commons name ≡ None → (b : Bool)
          → has_common plan.regions ≡ b → ⊥
      based name common none true e = common_has_base ms plan e name common none
      based name common none false e = before (common_unplaced name) (e, common_there ms name common)

pub none_by_division : NoneByDivision
none_by_division ms plan v link before c site t at =
    (none_meets ms (placed ms plan) (all_named ms plan v link before) refl c site t at, meets_none (placed ms plan) c site t)

-- if nothing is returned no fact holds
pub no_link_fact : (ms : List Parts) → link_answer ms ≡ None → (fact : LinkFact) → ¬ LinkFactStands ms fact
no_link_fact ms e = (answers_are_facts ms (record { regions = []; symbols = []; keep = [] })).link_complete e

pub no_fact_before : (ms : List Parts) (plan : Plan) → locate_answer ms plan ≡ None → (fact : LocateFact) → ¬ StandsBeforeWalk ms plan (placed ms plan) fact
no_fact_before ms plan e fact h = (answers_are_facts ms plan).locate_complete e fact (inl h)

no_zero_divisor : (ms : List Parts) (plan : Plan) → link_answer ms ≡ None → locate_answer ms plan ≡ None → (place : Site)
    → ¬ HasZeroDivisor ms (placed ms plan) place
no_zero_divisor ms plan l e place h = (answers_are_facts ms plan).locate_complete e (zero_divisor place) (inr (no_link_fact ms l, no_fact_before ms plan e, h))

pub values_exist : ValuesExist
values_exist ms plan v l e =
    have_values ms (placed ms plan) (all_named ms plan v (no_link_fact ms l) (no_fact_before ms plan e)) refl (no_zero_divisor ms plan l e)

-- The readings.

some_of : (o : Option ℕ) → o ≢ None → HasValue o
some_of None h = absurd (h refl)
some_of (Some n) h = (n, refl)

-- a reading of steps is that of a step after those before it
pub reading-of : (s : Setting) (earlier more : List Step) (x : StepReading) → In x (readings_after s earlier more)
    → (before : List Step) × (step : Step) × (rest : List Step) × (put_back earlier more ≡ put_back before (step ∷ rest)) × (step_reading s before step ≡ x)
reading-of s earlier [] x h = absurd h
reading-of s earlier (step ∷ more) x (inl e) = (earlier, step, more, refl, e)
reading-of s earlier (step ∷ more) x (inr h) = reading-of s (step ∷ earlier) more x h

module _ (ms : List Parts) (s : Setting) (h : HaveValues ms s) where
  step_valued : (before : List Step) (step : Step) → IsStepAfter ms before step → StepHasValue (step_reading s before step)
  step_valued before (counter_step site section t) at = some_of (value s site (counter s before section) t)
      (h.expressions (Some (before, section)) site t (inl at))
  step_valued before (item_step site section (Literal bytes)) at =
      some_of (counter s before section) (h.counters before (item_step site section (Literal bytes)) at)
  step_valued before (item_step site section (Field kind size t)) at = (
    some_of (counter s before section) (h.counters before (item_step site section (Field kind size t)) at),
    some_of (value s site (counter s before section) t) (h.expressions (Some (before, section)) site t (inr (kind, size, at))),
  )

  -- an expression of a debug record
  in_debug_trees : (site : Sited) → In site (sited ms) → (mark : DebugMark) → In mark (marks_of site.parts.debug) → (t : Tree)
      → In t (mark_expressions mark) → In (site, t) (debug_trees ms)
  in_debug_trees site k mark m t e =
      In-flat_map (λ site. map (λ t. (site, t)) (expressions_of (marks_of site.parts.debug))) site (site, t) (sited ms) k
      (In-map (λ t. (site, t)) t (expressions_of (marks_of site.parts.debug)) (In-flat_map mark_expressions mark t (marks_of site.parts.debug) m e))

  pub debug_valued : (site : Sited) → In site (sited ms) → (mark : DebugMark) → In mark (marks_of site.parts.debug) → (t : Tree)
      → In t (mark_expressions mark) → HasValue (value s site None t)
  debug_valued site k mark m t e = some_of (value s site None t)
      (h.expressions None site t (inr (inr (at-In (site, t) (debug_trees ms) (in_debug_trees site k mark m t e)))))

  pub head_located : (site : Sited) (head : BlockHead) → ((t : Tree) → In t (option_to_list (offset_of head)) → HasValue (value s site None t))
      → (located : BlockHead) × (located_head (head_reading s site head) ≡ Some located)
  head_located site heads.Module k = (heads.Module, refl)
  head_located site (heads.Global stack type_index offset) k = let n = k offset (inl refl) in
      (heads.Global stack type_index (number n.0), ap (option_map (λ n. heads.Global stack type_index (number n))) n.1)
  head_located site (heads.Local stack type_index offset) k = let n = k offset (inl refl) in
      (heads.Local stack type_index (number n.0), ap (option_map (λ n. heads.Local stack type_index (number n))) n.1)
  head_located site (heads.Source numbers) k = (heads.Source numbers, refl)
  head_located site (heads.Section section_type section offset) k =
      let n = k offset (inl refl) in (
        heads.Section section_type (site.first_section + section) (number n.0),
        ap (option_map (λ n. heads.Section section_type (site.first_section + section) (number n))) n.1,
      )

  pub mark_located : (site : Sited) (mark : DebugMark) → ((t : Tree) → In t (mark_expressions mark) → HasValue (value s site None t))
      → (located : DebugMark) × (located_mark (mark_reading s site mark) ≡ Some located)
  mark_located site (block_begin head name) k = let there = head_located site head k in
      (block_begin there.0 name, ap (option_map (λ h. block_begin h name)) there.1)
  mark_located site (block_end None) k = (block_end None, refl)
  mark_located site (block_end (Some t)) k = let n = k t (inl refl) in (block_end (Some (number n.0)), ap (option_map (λ n. block_end (Some (number n)))) n.1)
  mark_located site (name_mark name) k = (name_mark name, refl)
  mark_located site (note_mark name note) k = (note_mark (site.first_name + name) note, refl)
  mark_located site (value_mark name t) k = let n = k t (inl refl) in
      (value_mark (site.first_name + name) (number n.0), ap (option_map (λ n. value_mark (site.first_name + name) (number n))) n.1)

  pub public_valued : (q : SitedPublic) → In q (flat_publics ms) → HasValue (value s q.site None q.entry.value)
  public_valued q m = some_of (value s q.site None q.entry.value) (h.expressions None q.site q.entry.value (inl (q, at-In q (flat_publics ms) m, refl, refl)))

  pub start_valued : (site : Sited) → In site (sited ms) → (t : Tree) → In t (option_to_list site.parts.start) → HasValue (value s site None t)
  start_valued site k t m =
      some_of (value s site None t) (h.expressions None site t (inr (inl (at-In (site, t) (start_trees ms)
      (In-flat_map (λ site. map (λ t. (site, t)) (option_to_list site.parts.start)) site (site, t) (sited ms) k
      (In-map (λ t. (site, t)) t (option_to_list site.parts.start) m))))))

  pub reading_valued : (x : StepReading) → In x (readings_after s [] (steps ms)) → StepHasValue x
  reading_valued x m = let there = reading-of s [] (steps ms) x m in subst StepHasValue there.4 (step_valued there.0 there.1 (there.2, there.3))

pub all_valued : AllValued
unfolding readings
all_valued ms plan v l e = let s = placed ms plan in let h = values_exist ms plan v l e in record {
  publics = λ q m. let there = map-In (public_reading s) q (flat_publics ms) (Contains-In q (map (public_reading s) (flat_publics ms)) m) in
      subst (λ (q : PublicReading). HasValue q.value) there.2 (public_valued ms s h there.0 there.1);
  steps = λ x m. reading_valued ms s h x (Contains-In x (readings_after s [] (steps ms)) m);
  starts = λ o m. let there = flat_map-In (λ site. map (value s site None) (option_to_list site.parts.start)) o (sited ms)
      (Contains-In o (readings ms (planned_bases ms plan)).starts m) in
      let own = map-In (value s there.0 None) o (option_to_list there.0.parts.start) there.2 in
      subst HasValue own.2 (start_valued ms s h there.0 there.1 own.0 own.1);
  debug = λ mark m. let there = flat_map-In (λ site. map (mark_reading s site) (marks_of site.parts.debug)) mark (sited ms)
      (Contains-In mark (readings ms (planned_bases ms plan)).debug m) in
      let own = map-In (mark_reading s there.0) mark (marks_of there.0.parts.debug) there.2 in
      subst (λ mark. (located : DebugMark) × (located_mark mark ≡ Some located)) own.2
      (mark_located ms s h there.0 own.0 (debug_valued ms s h there.0 there.1 own.0 own.1));
}
