-- Steps, counters and the facts found in a walk, without debug items.
use Rattle.std.proofs.Common.{◌≡◌, ℕ, zero, suc, ◌+◌, ◌%◌, ◌==◌, List, [], ◌∷◌, ◌++◌, map, flat_map, Option, Some, None, cond, refl, sym, ap, ◌∙◌}
use Rattle.std.specs.Prelude.{option_map, option_to_list}
use Rattle.std.proofs.lemmas.List.{map-append}
use Rattle.mufom_expr.specs.Tree.{Tree}
use Rattle.mufom_loads.specs.declared.load.Item.{Item}
use Rattle.mufom_loads.specs.declared.load.Item.TheVariants.{Literal, Field}
use Rattle.mufom_loads.specs.declared.load.Load.{Load}
use Rattle.mufom_loads.specs.declared.load.Load.TheVariants.{SetSection, SetPc, One, Repeat}
use Rattle.mufom_loads.specs.Lengths.{repeated, byte_count}
use Rattle.mufom_debug.specs.Marks.{marks_of, expressions_of}
use Rattle.mufom_module.specs.declared.module.Parts.{Parts}
use Rattle.mufom_place.specs.Facts.{◌or_else◌, first_some}
use Rattle.mufom_meaning.specs.declared.located.Site.{Site}
use Rattle.mufom_meaning.specs.declared.located.Site.TheVariants as sites
use Rattle.mufom_meaning.specs.Flat.{Sited, SitedPublic, sited}
use Rattle.mufom_meaning.specs.Values.{Setting, value}
use Rattle.mufom_meaning.specs.Steps.{Step, counter_step, item_step, item_steps, steps_of, steps, counter, counter_reading, literal_reading}
use Rattle.mufom_meaning.specs.Steps.{field_reading, step_reading, readings_after}
use Rattle.mufom_meaning.specs.Facts.{zero_divisor}
use Rattle.mufom_meaning.specs.Walk.{zero_divisor_at, public_fact, counted_from, outside_at, first_twice, addresses_at, loaded_addresses}
use Rattle.mufom_meaning.specs.Walk.{overflow_at, field_fact, base_number, size_at, item_fact, step_fact, steps_fact, SitedTree}
use Rattle.mufom_meaning.specs.Walk.{start_trees, debug_trees, start_fact}
use Rattle.mufom_debug_laws.specs.Without.{all_without_debug}
use Rattle.mufom_debug_laws.proofs.Sites.{bare_site, sited-bare, no-entries}
use Rattle.mufom_debug_laws.proofs.Values.{bare_public, bare_setting, value-bare, divisor-bare}

-- a step at the place of its module in a list without debug items
abbrev pub bare_step : Step → Step
bare_step (counter_step site section t) = counter_step (bare_site site) section t
bare_step (item_step site section item) = item_step (bare_site site) section item

-- ---- the steps

items-bare : (site : Sited) (current : Option ℕ) (items : List Item) → item_steps (bare_site site) current items
    ≡ map bare_step (item_steps site current items)
items-bare site None items = refl
items-bare site (Some section) [] = refl
items-bare site (Some section) (item ∷ items) =
    ap (λ more. item_step (bare_site site) (site.first_section + section) item ∷ more) (items-bare site (Some section) items)

map-repeated : (n : ℕ) (xs : List Step) → map bare_step (repeated n xs) ≡ repeated n (map bare_step xs)
map-repeated zero xs = refl
map-repeated (suc n) xs = map-append bare_step xs (repeated n xs) ∙ ap (λ more. map bare_step xs ++ more) (map-repeated n xs)

repeated-bare : (site : Sited) (current : Option ℕ) (count : ℕ) (items : List Item)
    → repeated count (item_steps (bare_site site) current items) ≡ map bare_step (repeated count (item_steps site current items))
repeated-bare site current count items = ap (repeated count) (items-bare site current items) ∙ sym (map-repeated count (item_steps site current items))

module-steps : (site : Sited) (current : Option ℕ) (loads : List Load) → steps_of (bare_site site) current loads ≡ map bare_step (steps_of site current loads)
module-steps site current [] = refl
module-steps site current (SetSection section ∷ loads) = module-steps site (Some section) loads
module-steps site current (SetPc section t ∷ loads) =
    ap (λ more. counter_step (bare_site site) (site.first_section + section) t ∷ more) (module-steps site current loads)
module-steps site current (One item ∷ loads) = (λ i. items-bare site current (item ∷ []) i ++ module-steps site current loads i)
    ∙ sym (map-append bare_step (item_steps site current (item ∷ [])) (steps_of site current loads))
module-steps site current (Repeat count items ∷ loads) =
    (λ i. repeated-bare site current count items i ++ module-steps site current loads i)
    ∙ sym (map-append bare_step (repeated count (item_steps site current items)) (steps_of site current loads))

-- the entries of all modules, each moved
mapped : {X : Type 0} (move : X → X) (f g : Sited → List X) → ((site : Sited) → f (bare_site site) ≡ map move (g site)) → (sites : List Sited)
    → flat_map f (map bare_site sites) ≡ map move (flat_map g sites)
mapped move f g same [] = refl
mapped move f g same (site ∷ sites) = (λ i. same site i ++ mapped move f g same sites i) ∙ sym (map-append move (g site) (flat_map g sites))

pub steps-bare : (ms : List Parts) → steps (all_without_debug ms) ≡ map bare_step (steps ms)
steps-bare ms = ap (λ sites. flat_map (λ site. steps_of site None site.parts.loads) sites) (sited-bare ms)
    ∙ mapped bare_step (λ site. steps_of site None site.parts.loads) (λ site. steps_of site None site.parts.loads)
    (λ site. module-steps site None site.parts.loads) (sited ms)

-- ---- counters and readings

value-at-bare : (s : Setting) (site : Sited) (pc qc : Option ℕ) (t : Tree) → pc ≡ qc → value (bare_setting s) (bare_site site) pc t ≡ value s site qc t
value-at-bare s site pc qc t same = ap (λ c. value (bare_setting s) (bare_site site) c t) same ∙ value-bare s site qc t

counter-bare : (s : Setting) (earlier : List Step) (section : ℕ) → counter (bare_setting s) (map bare_step earlier) section ≡ counter s earlier section
unfolding counter
counter-bare s [] section = refl
counter-bare s (counter_step site other t ∷ earlier) section = λ i. cond (other == section)
    (value-at-bare s site (counter (bare_setting s) (map bare_step earlier) section) (counter s earlier section) t (counter-bare s earlier section) i)
    (counter-bare s earlier section i)
counter-bare s (item_step site other item ∷ earlier) section = λ i. cond (other == section)
    (option_map (λ pc. (pc + byte_count item) % s.modulus) (counter-bare s earlier section i)) (counter-bare s earlier section i)

-- the value of an expression at the counter of a section
valued-there : (s : Setting) (earlier : List Step) (site : Sited) (section : ℕ) (t : Tree)
    → value (bare_setting s) (bare_site site) (counter (bare_setting s) (map bare_step earlier) section) t ≡ value s site (counter s earlier section) t
valued-there s earlier site section t = value-at-bare s site _ _ t (counter-bare s earlier section)

reading-bare : (s : Setting) (earlier : List Step) (step : Step) → step_reading (bare_setting s) (map bare_step earlier) (bare_step step)
    ≡ step_reading s earlier step
reading-bare s earlier (counter_step site section t) = ap (counter_reading section) (valued-there s earlier site section t)
reading-bare s earlier (item_step site section (Literal bytes)) = λ i. literal_reading section (counter-bare s earlier section i) bytes
reading-bare s earlier (item_step site section (Field kind size t)) =
    λ i. field_reading section (counter-bare s earlier section i) kind size (valued-there s earlier site section t i)

pub readings-after-bare : (s : Setting) (earlier more : List Step) → readings_after (bare_setting s) (map bare_step earlier) (map bare_step more)
    ≡ readings_after s earlier more
readings-after-bare s earlier [] = refl
readings-after-bare s earlier (step ∷ more) = λ i. reading-bare s earlier step i ∷ readings-after-bare s (step ∷ earlier) more i

-- ---- facts

zero-bare : (s : Setting) (site : Sited) (pc : Option ℕ) (t : Tree) (place : Site) → zero_divisor_at (bare_setting s) (bare_site site) pc t place
    ≡ zero_divisor_at s site pc t place
zero-bare s site pc t place = λ i. cond (divisor-bare s site pc t i) (Some (zero_divisor place)) None

loaded-bare : (s : Setting) (earlier : List Step) → loaded_addresses (bare_setting s) (map bare_step earlier) ≡ loaded_addresses s earlier
loaded-bare s [] = refl
loaded-bare s (counter_step site section t ∷ earlier) = loaded-bare s earlier
loaded-bare s (item_step site section item ∷ earlier) = λ i. addresses_at s.modulus (counter-bare s earlier section i) item ++ loaded-bare s earlier i

field-bare : (s : Setting) (site : Sited) (section at : ℕ) (item : Item) → field_fact (bare_setting s) (bare_site site) section at item
    ≡ field_fact s site section at item
field-bare s site section at (Literal bytes) = refl
field-bare s site section at (Field kind size t) =
    λ i. zero-bare s site (Some at) t (sites.Field section at) i or_else overflow_at s.modulus section at kind size (value-bare s site (Some at) t i)

item-fact-bare : (s : Setting) (earlier : List Step) (site : Sited) (section : ℕ) (pc : Option ℕ) (item : Item)
    → item_fact (bare_setting s) (map bare_step earlier) (bare_site site) section pc item ≡ item_fact s earlier site section pc item
item-fact-bare s earlier site section None item = refl
item-fact-bare s earlier site section (Some at) item =
    λ i. first_some (outside_at s.modulus section (base_number s section) (size_at s section)) (counted_from (byte_count item) at)
    or_else (first_twice (loaded-bare s earlier i) (addresses_at s.modulus (Some at) item) or_else field-bare s site section at item i)

step-fact-bare : (s : Setting) (earlier : List Step) (step : Step) → step_fact (bare_setting s) (map bare_step earlier) (bare_step step)
    ≡ step_fact s earlier step
step-fact-bare s earlier (counter_step site section t) =
    ap (λ pc. zero_divisor_at (bare_setting s) (bare_site site) pc t (sites.Counter section)) (counter-bare s earlier section)
    ∙ zero-bare s site (counter s earlier section) t (sites.Counter section)
step-fact-bare s earlier (item_step site section item) =
    ap (λ pc. item_fact (bare_setting s) (map bare_step earlier) (bare_site site) section pc item) (counter-bare s earlier section)
    ∙ item-fact-bare s earlier site section (counter s earlier section) item

pub steps-fact-bare : (s : Setting) (earlier more : List Step) → steps_fact (bare_setting s) (map bare_step earlier) (map bare_step more)
    ≡ steps_fact s earlier more
steps-fact-bare s earlier [] = refl
steps-fact-bare s earlier (step ∷ more) = λ i. step-fact-bare s earlier step i or_else steps-fact-bare s (step ∷ earlier) more i

pub public-facts-bare : (s : Setting) (qs : List SitedPublic) → first_some (public_fact (bare_setting s)) (map bare_public qs) ≡ first_some (public_fact s) qs
public-facts-bare s [] = refl
public-facts-bare s (q ∷ qs) = λ i. zero-bare s q.site None q.entry.value (sites.Public q.entry.name) i or_else public-facts-bare s qs i

-- an expression at the place of its module in a list without debug items
abbrev pub bare_tree : SitedTree → SitedTree
bare_tree e = (bare_site e.0, e.1)

-- an expression of the module at a place
abbrev at_place : Sited → Tree → SitedTree
at_place site t = (site, t)

start-of : (site : Sited) (start : Option Tree) → map (at_place (bare_site site)) (option_to_list start)
    ≡ map bare_tree (map (at_place site) (option_to_list start))
start-of site None = refl
start-of site (Some t) = refl

pub start-trees-bare : (ms : List Parts) → start_trees (all_without_debug ms) ≡ map bare_tree (start_trees ms)
start-trees-bare ms = ap (λ places. flat_map (λ site. map (at_place site) (option_to_list site.parts.start)) places) (sited-bare ms)
    ∙ mapped bare_tree (λ site. map (at_place site) (option_to_list site.parts.start)) (λ site. map (at_place site) (option_to_list site.parts.start))
    (λ site. start-of site site.parts.start) (sited ms)

pub start-facts-bare : (s : Setting) (trees : List SitedTree) → first_some (start_fact (bare_setting s)) (map bare_tree trees)
    ≡ first_some (start_fact s) trees
start-facts-bare s [] = refl
start-facts-bare s (e ∷ trees) = λ i. zero-bare s e.0 None e.1 sites.Start i or_else start-facts-bare s trees i

pub no-debug-trees : (ms : List Parts) → debug_trees (all_without_debug ms) ≡ []
no-debug-trees ms = ap (λ places. flat_map (λ site. map (at_place site) (expressions_of (marks_of site.parts.debug))) places) (sited-bare ms)
    ∙ no-entries (λ site. map (at_place site) (expressions_of (marks_of site.parts.debug))) (λ site. refl) (sited ms)
