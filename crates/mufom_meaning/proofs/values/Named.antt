-- A list of modules without a defect has all that its expressions name, if no fact of names holds.
use Rattle.std.proofs.Common.{◌≡◌, ℕ, zero, suc, ◌+◌, ◌<◌, ◌≤◌, ◌⊎◌, inl, inr, List, [], ◌∷◌, ◌++◌, map, length, Option, Some, None, Bool, true}
use Rattle.std.proofs.Common.{false, not, ◌||◌, refl, sym, ◌∙◌, ap, subst, arith, rules, length-append}
use Rattle.std.specs.Prelude.{slice_get, filter, option_to_list, is_none, nat_lt, nat_le, ◌==◌, if◌then◌else◌}
use Rattle.std.specs.List.{list_any}
use Rattle.std.specs.Str.{bytes_eq}
use Rattle.std.proofs.lemmas.List.{length-map}
use Rattle.std.proofs.lemmas.Slice.Eq.{bytes_eq-Decides}
use Rattle.mufom_expr.specs.declared.token.Letter.{Letter}
use Rattle.mufom_expr.specs.declared.token.Letter.TheVariants as letters
use Rattle.mufom_expr.specs.Tree.{Tree}
use Rattle.mufom_expr.specs.Value.{variables_of}
use Rattle.mufom_names.specs.declared.name.Weak.{Weak}
use Rattle.mufom_names.specs.declared.name.Public.{Public}
use Rattle.mufom_names.specs.declared.name.Reference.{Reference}
use Rattle.mufom_loads.specs.declared.load.Item.{Item}
use Rattle.mufom_loads.specs.declared.load.Item.TheVariants.{Literal, Field}
use Rattle.mufom_loads.specs.declared.load.Load.{Load}
use Rattle.mufom_loads.specs.declared.load.Load.TheVariants.{SetSection, SetPc, One, Repeat}
use Rattle.mufom_loads.specs.Lengths.{repeated}
use Rattle.mufom_debug.specs.Marks.{marks_of, mark_expressions, expressions_of}
use Rattle.mufom_module.specs.declared.module.Parts.{Parts}
use Rattle.mufom_module.specs.Contents.{item_any}
use Rattle.mufom_module.specs.Defects.{IsValid, counts_of, names_outside, has_bad_place}
use Rattle.mufom_plan.specs.Names.{has_name}
use Rattle.mufom_meaning.specs.Bases.{Bases, no_bases}
use Rattle.mufom_meaning.specs.Flat.{Sited, sited_from, sited, SitedPublic, sited_publics, flat_sections, flat_publics, flat_references, public_names}
use Rattle.mufom_meaning.specs.Flat.{first_named, name_count, is_strong, is_common, common_size, same_common, unresolved_references, needs, commons}
use Rattle.mufom_meaning.specs.Flat.{common_names}
use Rattle.mufom_meaning.specs.Values.{Setting, setting, default_of, unresolved_value}
use Rattle.mufom_meaning.specs.Cycles.{mentioned, mentioned_reference, is_or_leads, leads_within, leads_from, IsOnCycle}
use Rattle.mufom_meaning.specs.Steps.{Step, counter_step, item_step, item_steps, steps_of, steps}
use Rattle.mufom_meaning.specs.Walk.{SitedTree, start_trees, debug_trees}
use Rattle.mufom_meaning.specs.Facts.{duplicate}
use Rattle.mufom_meaning.specs.Stands.{StandsIn, LinkFactStands}
use Rattle.mufom_meaning.specs.Staging.{AreValid}
use Rattle.mufom_meaning.proofs.facts.Answers.{find_at, both}
use Rattle.mufom_meaning.proofs.Names.{names_of-sited_publics}
use Rattle.mufom_meaning.proofs.facts.Cycles.{list_any-agrees}
use Rattle.mufom_meaning.proofs.Tests.{either_false}
use Rattle.mufom_numbers.proofs.Choices.{of_lt, of_not_lt}
use Rattle.mufom_meaning.proofs.Members.{In, In-at, at-In, In-map, map-In, In-flat_map, flat_map-In, In-append, In-filter, In-distinct, passes-In}
use Rattle.mufom_meaning.proofs.Members.{none-In, get_some}
use Rattle.mufom_meaning.proofs.WithoutDefect.{IsInside, inside, finds-none, public_inside, public_free, start_inside, start_free, mark_inside}
use Rattle.mufom_meaning.proofs.WithoutDefect.{mark_free, load_inside}
use Rattle.mufom_meaning.proofs.values.Causes.{IsWellNamed}
use Rattle.mufom_meaning.proofs.values.Lacks.{IsPlain, HasBase, IsWellStep, HasAllNamed}

-- ---- the modules of a list, and the places of their entries

pub site_module : (a b d : ℕ) (ms : List Parts) (site : Sited) → In site (sited_from a b d ms) → In site.parts ms
site_module a b d [] site h = absurd h
site_module a b d (m ∷ ms) site (inl e) = inl (ap (λ (x : Sited). x.parts) e)
site_module a b d (m ∷ ms) site (inr h) = inr (site_module (a + length m.sections) (b + length m.names.publics) (d + name_count (marks_of m.debug)) ms site h)

pub valid_module : (ms : List Parts) → AreValid ms → (m : Parts) → In m ms → IsValid m
valid_module [] v m h = absurd h
valid_module (x ∷ ms) v m (inl e) = subst IsValid e v.0
valid_module (x ∷ ms) v m (inr h) = valid_module ms v.1 m h

pub sections_end : (a b d : ℕ) (ms : List Parts) (site : Sited) → In site (sited_from a b d ms)
    → site.first_section + length site.parts.sections ≤ a + length (flat_sections ms)
sections_end a b d [] site h = absurd h
sections_end a b d (m ∷ ms) site (inl e) =
    let first : a ≡ site.first_section = ap (λ (x : Sited). x.first_section) e in
    let own : length m.sections ≡ length site.parts.sections = ap (λ (x : Sited). length x.parts.sections) e in
    let all : length (m.sections ++ flat_sections ms) ≡ length m.sections + length (flat_sections ms) = length-append m.sections (flat_sections ms) in
    omega (arith, first, own, all)
sections_end a b d (m ∷ ms) site (inr h) =
    let later = sections_end (a + length m.sections) (b + length m.names.publics) (d + name_count (marks_of m.debug)) ms site h in
    let all : length (m.sections ++ flat_sections ms) ≡ length m.sections + length (flat_sections ms) = length-append m.sections (flat_sections ms) in
    omega (arith, later, all)

-- the publics of a module at its site
abbrev publics_at : Sited → List Public → List SitedPublic
publics_at site publics = map (λ entry. record { site = site; entry = entry }) publics

abbrev first_site : ℕ → ℕ → ℕ → Parts → Sited
first_site a b d m = record { parts = m; first_section = a; first_public = b; first_name = d }

abbrev sites_after : ℕ → ℕ → ℕ → Parts → List Parts → List Sited
sites_after a b d m ms = sited_from (a + length m.sections) (b + length m.names.publics) (d + name_count (marks_of m.debug)) ms

publics_count : (site : Sited) (publics : List Public) (rest : List SitedPublic) → length (publics_at site publics ++ rest) ≡ length publics + length rest
publics_count site publics rest = length-append (publics_at site publics) rest
    ∙ ap (λ n. n + length rest) (length-map publics (λ entry. record { site = site; entry = entry }))

pub publics_end : (a b d : ℕ) (ms : List Parts) (site : Sited) → In site (sited_from a b d ms)
    → site.first_public + length site.parts.names.publics ≤ b + length (sited_publics (sited_from a b d ms))
publics_end a b d [] site h = absurd h
publics_end a b d (m ∷ ms) site (inl e) =
    let first : b ≡ site.first_public = ap (λ (x : Sited). x.first_public) e in
    let own : length m.names.publics ≡ length site.parts.names.publics = ap (λ (x : Sited). length x.parts.names.publics) e in
    let all = publics_count (first_site a b d m) m.names.publics (sited_publics (sites_after a b d m ms)) in
    omega (arith, first, own, all)
publics_end a b d (m ∷ ms) site (inr h) =
    let later = publics_end (a + length m.sections) (b + length m.names.publics) (d + name_count (marks_of m.debug)) ms site h in
    let all = publics_count (first_site a b d m) m.names.publics (sited_publics (sites_after a b d m ms)) in
    omega (arith, later, all)

-- ---- names

named_at : (qs : List SitedPublic) (i : ℕ) (q : SitedPublic) → slice_get qs i ≡ Some q → slice_get (map (λ q. q.entry.name) qs) i ≡ Some q.entry.name
named_at [] i q e = absurd cc
named_at (p ∷ qs) zero q e = let same : p ≡ q = cc in ap (λ (x : SitedPublic). Some x.entry.name) same
named_at (p ∷ qs) (suc i) q e = named_at qs i q e

name_there : (ms : List Parts) (i : ℕ) (q : SitedPublic) → slice_get (flat_publics ms) i ≡ Some q → slice_get (public_names ms) i ≡ Some q.entry.name
name_there ms i q e = ap (λ names. slice_get names i) (sym (names_of-sited_publics 0 0 0 ms)) ∙ named_at (flat_publics ms) i q e

-- if no name occurs twice, a public is the first of its name
pub single_name : (ms : List Parts) → ((name : List ℕ) → ¬ LinkFactStands ms (duplicate name)) → (q : SitedPublic) → StandsIn q (flat_publics ms)
    → first_named (flat_publics ms) q.entry.name ≡ Some q
single_name ms once q a = by_first (first_named (flat_publics ms) q.entry.name) refl where
  twice : (i j : ℕ) (p : SitedPublic) → i < j → slice_get (public_names ms) i ≡ Some p.entry.name → slice_get (public_names ms) j ≡ Some p.entry.name → ⊥
  twice i j p less e f = once p.entry.name (j, f, (i, p.entry.name, less, e, f))

  at_one : (p : SitedPublic) → p.entry.name ≡ q.entry.name → (j : ℕ) → slice_get (flat_publics ms) j ≡ Some p → Some p ≡ Some q
  at_one p named j e = by_order (nat_lt j a.0) refl (nat_lt a.0 j) refl where
    here : slice_get (public_names ms) a.0 ≡ Some q.entry.name
    here = name_there ms a.0 q a.1

    there : slice_get (public_names ms) j ≡ Some q.entry.name
    there = name_there ms j p e ∙ ap Some named

    by_order : (b : Bool) → nat_lt j a.0 ≡ b → (c : Bool) → nat_lt a.0 j ≡ c → Some p ≡ Some q
    by_order true f c g = absurd (twice j a.0 q (of_lt j a.0 f) there here)
    by_order false f true g = absurd (twice a.0 j q (of_lt a.0 j g) here there)
    by_order false f false g =
        let low = of_not_lt j a.0 f in let high = of_not_lt a.0 j g in
        let same : j ≡ a.0 = omega (arith, low, high) in sym e ∙ ap (slice_get (flat_publics ms)) same ∙ a.1

  by_first : (o : Option SitedPublic) → first_named (flat_publics ms) q.entry.name ≡ o → o ≡ Some q
  by_first None e =
      let fails : bytes_eq q.entry.name q.entry.name ≡ false = finds-none (λ p. bytes_eq p.entry.name q.entry.name) (flat_publics ms) e q
      (In-at q (flat_publics ms) a.0 a.1) in
      absurd (let holds : bytes_eq q.entry.name q.entry.name ≡ true = (bytes_eq-Decides q.entry.name q.entry.name).1 refl in cc)
  by_first (Some p) e =
      let found = find_at (λ p. bytes_eq p.entry.name q.entry.name) (flat_publics ms) p e in
      at_one p ((bytes_eq-Decides p.entry.name q.entry.name).0 found.1) found.0.0 found.0.1

-- a name that no public has
unnamed : (ms : List Parts) (name : List ℕ) → first_named (flat_publics ms) name ≡ None → has_name (public_names ms) name ≡ false
unnamed ms name e = none-In (bytes_eq name) (public_names ms) fails where
  turned : (q : SitedPublic) → bytes_eq q.entry.name name ≡ false → (b : Bool) → bytes_eq name q.entry.name ≡ b → b ≡ false
  turned q f true g =
      let same : name ≡ q.entry.name = (bytes_eq-Decides name q.entry.name).0 g in
      absurd (let holds : bytes_eq q.entry.name name ≡ true = (bytes_eq-Decides q.entry.name name).1 (sym same) in cc)
  turned q f false g = refl

  fails : (other : List ℕ) → In other (public_names ms) → bytes_eq name other ≡ false
  fails other h =
      let there = map-In (λ q. q.entry.name) other (flat_publics ms) (subst (In other) (sym (names_of-sited_publics 0 0 0 ms)) h) in
      ap (bytes_eq name) (sym there.2)
      ∙ turned there.0 (finds-none (λ p. bytes_eq p.entry.name name) (flat_publics ms) e there.0 there.1) (bytes_eq name there.0.entry.name) refl

same_common-decides : (c d : List ℕ × ℕ) → same_common c d ≡ true → c ≡ d
same_common-decides c d e =
    let two = both (bytes_eq c.0 d.0) (c.1 == d.1) e in
    let a : c.0 ≡ d.0 = (bytes_eq-Decides c.0 d.0).0 two.0 in let b : c.1 ≡ d.1 = equal c.1 d.1 two.1 in λ i. (a i, b i) where
      equal : (m n : ℕ) → (m == n) ≡ true → m ≡ n
      equal m n e = search rules

-- A reference whose name no public has has the base of its common or a default, if nothing is undefined and each common has a base.
met_or_default : (ms : List Parts) (bs : Bases) → ((name : List ℕ) → ¬ (StandsIn name (needs ms) × (has_name (common_names ms) name ≡ false)))
    → ((name : List ℕ) → has_name (common_names ms) name ≡ true → bs.commons name ≡ None → ⊥)
    → (r : Reference) → In r (flat_references ms) → first_named (flat_publics ms) r.name ≡ None → unresolved_value (setting ms bs) r ≡ None → ⊥
met_or_default ms bs defined placed r h e = by_common (has_name (common_names ms) r.name) refl where
  unresolved : In r (unresolved_references ms)
  unresolved = In-filter (λ reference. not (has_name (public_names ms) reference.name)) r (ap not (unnamed ms r.name e)) (flat_references ms) h

  by_size : has_name (common_names ms) r.name ≡ false → (weak : Weak) → r.weak ≡ Some weak → (b : Bool) → (weak.size == 0) ≡ b
      → (if b then Some weak.default else None) ≡ None → ⊥
  by_size none weak f true g n = cc
  by_size none weak f false g n =
      let common : is_common r ≡ true = ap (λ w. not (common_size w == 0)) f ∙ ap not g in
      let there = In-distinct same_common same_common-decides (r.name, common_size r.weak)
      (map (λ reference. (reference.name, common_size reference.weak)) (filter is_common (unresolved_references ms)))
      (In-map (λ reference. (reference.name, common_size reference.weak)) r (filter is_common (unresolved_references ms))
      (In-filter is_common r common (unresolved_references ms) unresolved)) in
      let named : has_name (common_names ms) r.name ≡ true
      = passes-In (bytes_eq r.name) (common_names ms) r.name (In-map (λ common. common.0) (r.name, common_size r.weak) (commons ms) there)
      ((bytes_eq-Decides r.name r.name).1 refl) in cc

  by_weak : has_name (common_names ms) r.name ≡ false → (o : Option Weak) → r.weak ≡ o → default_of o ≡ None → ⊥
  by_weak none None f n =
      let strong : is_strong r ≡ true = ap (λ (o : Option Weak). is_none o) f in
      let there = In-distinct bytes_eq (λ x y. (bytes_eq-Decides x y).0) r.name
      (map (λ reference. reference.name) (filter is_strong (unresolved_references ms)))
      (In-map (λ reference. reference.name) r (filter is_strong (unresolved_references ms))
      (In-filter is_strong r strong (unresolved_references ms) unresolved)) in
      defined r.name (at-In r.name (needs ms) there, none)
  by_weak none (Some weak) f n = by_size none weak f (weak.size == 0) refl n

  by_common : (b : Bool) → has_name (common_names ms) r.name ≡ b → (if b then bs.commons r.name else default_of r.weak) ≡ None → ⊥
  by_common true named n = placed r.name named n
  by_common false none n = by_weak none r.weak refl n

-- ---- chains do not look at the bases

module _ (ms : List Parts) (bs : Bases) (name : List ℕ) where
  mentioned-bases : (site : Sited) (l : Letter) (n : ℕ) → mentioned (setting ms bs) site l n ≡ mentioned (setting ms no_bases) site l n
  mentioned-bases site letters.R n = refl
  mentioned-bases site letters.L n = refl
  mentioned-bases site letters.S n = refl
  mentioned-bases site letters.P n = refl
  mentioned-bases site letters.I n = refl
  mentioned-bases site letters.X n = by_reference (slice_get site.parts.names.references n) where
    by_reference : (o : Option Reference) → mentioned_reference (setting ms bs) o ≡ mentioned_reference (setting ms no_bases) o
    by_reference None = refl
    by_reference (Some r) = refl

  or_leads-bases : (f g : Sited → Tree → Bool) → ((site : Sited) (t : Tree) → f site t ≡ g site t) → (o u : Option SitedPublic) → o ≡ u
      → is_or_leads f name o ≡ is_or_leads g name u
  or_leads-bases f g same o u e = by_case o ∙ ap (is_or_leads g name) e where
    by_case : (o : Option SitedPublic) → is_or_leads f name o ≡ is_or_leads g name o
    by_case None = refl
    by_case (Some q) = ap (λ b. bytes_eq q.entry.name name || b) (same q.site q.entry.value)

  leads-bases : (k : ℕ) (site : Sited) (t : Tree) → leads_within (setting ms bs) k name site t ≡ leads_within (setting ms no_bases) k name site t
  leads-bases zero site t = refl
  leads-bases (suc k) site t =
      list_any-agrees _ _ (λ v. or_leads-bases (λ x y. leads_within (setting ms bs) k name x y) (λ x y. leads_within (setting ms no_bases) k name x y)
      (leads-bases k) _ _ (mentioned-bases site v.0 v.1)) (variables_of t)

  pub leads_from-bases : (k : ℕ) (o : Option SitedPublic) → leads_from (setting ms bs) k name o ≡ leads_from (setting ms no_bases) k name o
  leads_from-bases k None = refl
  leads_from-bases k (Some q) = leads-bases k q.site q.entry.value

-- ---- the steps

In-repeated : {A : Type 0} (n : ℕ) (x : A) (xs : List A) → In x (repeated n xs) → In x xs
In-repeated zero x xs h = absurd h
In-repeated (suc n) x xs h = by_case (In-append x xs (repeated n xs) h) (In-repeated n x xs) where
  by_case : In x xs ⊎ In x (repeated n xs) → (In x (repeated n xs) → In x xs) → In x xs
  by_case (inl k) later = k
  by_case (inr k) later = later k

module _ (s : Setting) (site : Sited) (named : (t : Tree) → IsInside site.parts t → IsWellNamed s site t)
    (based : (section : ℕ) → section < length site.parts.sections → HasBase s (site.first_section + section)) where
  -- the current section is one of the module's
  abbrev IsCurrent : Option ℕ → Type 0
  IsCurrent current = (section : ℕ) → current ≡ Some section → section < length site.parts.sections

  item_well : (section : ℕ) → section < length site.parts.sections → (item : Item) → item_any (names_outside (counts_of site.parts)) item ≡ false
      → IsWellStep s (item_step site (site.first_section + section) item)
  item_well section less (Literal bytes) e = based section less
  item_well section less (Field kind size t) e = (based section less, named t (inside site.parts t e))

  items_well : (current : Option ℕ) → IsCurrent current → (items : List Item) → list_any (item_any (names_outside (counts_of site.parts))) items ≡ false
      → (step : Step) → In step (item_steps site current items) → IsWellStep s step
  items_well None now items e step h = absurd h
  items_well (Some section) now [] e step h = absurd h
  items_well (Some section) now (item ∷ items) e step h =
      let two = either_false (item_any (names_outside (counts_of site.parts)) item) (list_any (item_any (names_outside (counts_of site.parts))) items) e in
      by_case h (item_well section (now section refl) item two.0) (items_well (Some section) now items two.1 step) where
        by_case : In step (item_steps site (Some section) (item ∷ items)) → IsWellStep s (item_step site (site.first_section + section) item)
            → (In step (item_steps site (Some section) items) → IsWellStep s step) → IsWellStep s step
        by_case (inl same) own later = subst (IsWellStep s) same own
        by_case (inr h) own later = later h

  below : (section : ℕ) → nat_le (length site.parts.sections) section ≡ false → section < length site.parts.sections
  below section e = search rules

  -- a step is of a load's own, or of the loads after it
  either_well : (step : Step) (own rest : List Step) → In step (own ++ rest) → (In step own → IsWellStep s step) → (In step rest → IsWellStep s step)
      → IsWellStep s step
  either_well step own rest h here later = by_case (In-append step own rest h) where
    by_case : In step own ⊎ In step rest → IsWellStep s step
    by_case (inl k) = here k
    by_case (inr k) = later k

  loads_well : (current : Option ℕ) → IsCurrent current → (loads : List Load)
      → ((load : Load) → In load loads → has_bad_place (counts_of site.parts) load ≡ false)
      → (step : Step) → In step (steps_of site current loads) → IsWellStep s step
  loads_well current now [] good step h = absurd h
  loads_well current now (SetSection section ∷ loads) good step h =
      let less = below section (either_false (nat_le (length site.parts.sections) section) _ (good (SetSection section) (inl refl))).0 in
      loads_well (Some section) (λ other e. set section other less e) loads (λ load k. good load (inr k)) step h where
        set : (section other : ℕ) → section < length site.parts.sections → Some section ≡ Some other → other < length site.parts.sections
        set section other less e = let same : section ≡ other = cc in omega (arith, less, same)
  loads_well current now (SetPc section t ∷ loads) good step h =
      let two = either_false (nat_le (length site.parts.sections) section) (names_outside (counts_of site.parts) t) (good (SetPc section t) (inl refl)) in
      let less = below section two.0 in
      either_well step (counter_step site (site.first_section + section) t ∷ []) (steps_of site current loads) h
      (λ k. one_only k (based section less, named t (inside site.parts t two.1)))
      (loads_well current now loads (λ load k. good load (inr k)) step) where
        one_only : In step (counter_step site (site.first_section + section) t ∷ []) → HasBase s (site.first_section + section) × IsWellNamed s site t
            → IsWellStep s step
        one_only (inl same) w = subst (IsWellStep s) same w
        one_only (inr k) w = absurd k
  loads_well current now (One item ∷ loads) good step h =
      let fine : (item_any (names_outside (counts_of site.parts)) item || false) ≡ false =
      or_none (item_any (names_outside (counts_of site.parts)) item) (good (One item) (inl refl)) in
      either_well step (item_steps site current (item ∷ [])) (steps_of site current loads) h
      (items_well current now (item ∷ []) fine step) (loads_well current now loads (λ load k. good load (inr k)) step) where
        or_none : (b : Bool) → b ≡ false → (b || false) ≡ false
        or_none b e = ap (λ c. c || false) e
  loads_well current now (Repeat count items ∷ loads) good step h =
      either_well step (repeated count (item_steps site current items)) (steps_of site current loads) h
      (λ k. items_well current now items (good (Repeat count items) (inl refl)) step (In-repeated count step (item_steps site current items) k))
      (loads_well current now loads (λ load k. good load (inr k)) step)

-- ---- all of it

module _ (ms : List Parts) (bs : Bases) (v : AreValid ms) (count : length bs.sections ≡ length (flat_sections ms))
    (once : (name : List ℕ) → ¬ LinkFactStands ms (duplicate name)) (defined : (name : List ℕ)
    → ¬ (StandsIn name (needs ms) × (has_name (common_names ms) name ≡ false)))
    (placed : (name : List ℕ) → has_name (common_names ms) name ≡ true → bs.commons name ≡ None → ⊥) (acyclic : (name : List ℕ) → ¬ IsOnCycle ms name) where
  abbrev s : Setting
  s = setting ms bs

  based_at : (site : Sited) → In site (sited ms) → (section : ℕ) → section < length site.parts.sections → HasBase s (site.first_section + section)
  based_at site h section less = let end = sections_end 0 0 0 ms site h in get_some bs.sections (site.first_section + section) (omega (arith, less, end, count))

  named_at_site : (site : Sited) → In site (sited ms) → (t : Tree) → IsInside site.parts t → IsWellNamed s site t
  named_at_site site h t within = record {
    based = λ n k. base_there n (either n k);
    sectioned = λ n k. let end = sections_end 0 0 0 ms site h in let less = within (letters.S, n) k in
        get_some (flat_sections ms) (site.first_section + n) (omega (arith, less, end));
    named = λ n k. let end = publics_end 0 0 0 ms site h in let less = within (letters.I, n) k in
        get_some (flat_publics ms) (site.first_public + n) (omega (arith, less, end));
    referred = λ n k. let less = within (letters.X, n) k in get_some site.parts.names.references n less;
    met = λ n r e. met_or_default ms bs defined placed r
        (In-flat_map (λ m. m.names.references) site.parts r ms (site_module 0 0 0 ms site h) (In-at r site.parts.names.references n e));
  }
    where
      base_there : (n : ℕ) → n < length site.parts.sections → slice_get bs.sections (site.first_section + n) ≡ None → ⊥
      base_there n less = based_at site h n less

      either : (n : ℕ) → In (letters.R, n) (variables_of t) ⊎ In (letters.L, n) (variables_of t) → n < length site.parts.sections
      either n (inl k) = within (letters.R, n) k
      either n (inr k) = within (letters.L, n) k

  plain : (site : Sited) → In site (sited ms) → (t : Tree) → IsInside site.parts t → ((n : ℕ) → In (letters.P, n) (variables_of t) → ⊥) → IsPlain s site t
  plain site h t within free = record { well = named_at_site site h t within; free = free }

  valid_at : (site : Sited) → In site (sited ms) → IsValid site.parts
  valid_at site h = valid_module ms v site.parts (site_module 0 0 0 ms site h)

  public_plain : (q : SitedPublic) → In q (flat_publics ms) → IsPlain s q.site q.entry.value
  public_plain q h =
      let there = flat_map-In (λ site. map (λ entry. record { site = site; entry = entry }) site.parts.names.publics) q (sited ms) h in
      let site = there.0 in
      let own = map-In (λ entry. record { site = site; entry = entry }) q site.parts.names.publics there.2 in
      subst (λ (q : SitedPublic). IsPlain s q.site q.entry.value) own.2
      (plain site there.1 own.0.value (public_inside site.parts (valid_at site there.1) own.0 own.1)
      (public_free site.parts (valid_at site there.1) own.0 own.1))

  start_plain : (e : SitedTree) → In e (start_trees ms) → IsPlain s e.0 e.1
  start_plain e h =
      let there = flat_map-In (λ site. map (λ t. (site, t)) (option_to_list site.parts.start)) e (sited ms) h in
      let site = there.0 in
      let own = map-In (λ t. (site, t)) e (option_to_list site.parts.start) there.2 in
      subst (λ (e : SitedTree). IsPlain s e.0 e.1) own.2
      (plain site there.1 own.0 (start_inside site.parts (valid_at site there.1) own.0 own.1) (start_free site.parts (valid_at site there.1) own.0 own.1))

  debug_plain : (e : SitedTree) → In e (debug_trees ms) → IsPlain s e.0 e.1
  debug_plain e h =
      let there = flat_map-In (λ site. map (λ t. (site, t)) (expressions_of (marks_of site.parts.debug))) e (sited ms) h in
      let site = there.0 in
      let own = map-In (λ t. (site, t)) e (expressions_of (marks_of site.parts.debug)) there.2 in
      let mark = flat_map-In mark_expressions own.0 (marks_of site.parts.debug) own.1 in
      subst (λ (e : SitedTree). IsPlain s e.0 e.1) own.2
      (plain site there.1 own.0 (mark_inside site.parts (valid_at site there.1) mark.0 mark.1 own.0 mark.2)
      (mark_free site.parts (valid_at site there.1) mark.0 mark.1 own.0 mark.2))

  step_well : (step : Step) → In step (steps ms) → IsWellStep s step
  step_well step h =
      let there = flat_map-In (λ site. steps_of site None site.parts.loads) step (sited ms) h in
      let site = there.0 in
      loads_well s site (named_at_site site there.1) (based_at site there.1) None (λ section e. absurd cc) site.parts.loads
      (load_inside site.parts (valid_at site there.1)) step there.2

  pub has_all_named : HasAllNamed ms s
  has_all_named = record {
    single = single_name ms once;
    acyclic = λ name k h. acyclic name (k, sym (leads_from-bases ms bs name k (first_named (flat_publics ms) name)) ∙ h);
    publics = λ q a. public_plain q (In-at q (flat_publics ms) a.0 a.1);
    loads = step_well;
    starts = λ e a. start_plain e (In-at e (start_trees ms) a.0 a.1);
    marks = λ e a. debug_plain e (In-at e (debug_trees ms) a.0 a.1);
  }
