-- The entries of a list of modules, without the debug items of the modules.
use Rattle.std.proofs.Common.{◌≡◌, ℕ, ◌+◌, List, [], ◌∷◌, ◌++◌, length, map, filter, flat_map, refl, ap}
use Rattle.std.specs.Prelude.{not, option_to_list}
use Rattle.mufom_debug.specs.Marks.{marks_of}
use Rattle.mufom_module.specs.declared.module.Parts.{Parts}
use Rattle.mufom_plan.specs.Names.{has_name}
use Rattle.mufom_meaning.specs.Flat.{Sited, sited, sited_from, name_count, flat_sections, flat_references, flat_starts, public_names, distinct}
use Rattle.mufom_meaning.specs.Flat.{unresolved_references}
use Rattle.mufom_meaning.specs.Joined.{kept_references, same_reference}
use Rattle.mufom_debug_laws.specs.Without.{without_debug, all_without_debug}

-- a module's place in a list without debug items
abbrev pub bare_site : Sited → Sited
bare_site site = record { parts = without_debug site.parts; first_section = site.first_section; first_public = site.first_public; first_name = 0 }

pub sites-bare : (s p d : ℕ) (ms : List Parts) → sited_from s p 0 (all_without_debug ms) ≡ map bare_site (sited_from s p d ms)
sites-bare s p d [] = refl
sites-bare s p d (m ∷ ms) = ap (λ more. bare_site (record { parts = m; first_section = s; first_public = p; first_name = d }) ∷ more)
    (sites-bare (s + length m.sections) (p + length m.names.publics) (d + name_count (marks_of m.debug)) ms)

-- the modules of the list without debug items, at their places
pub sited-bare : (ms : List Parts) → sited (all_without_debug ms) ≡ map bare_site (sited ms)
sited-bare ms = sites-bare 0 0 0 ms

-- ---- entries of all modules

pub flat-bare : {X : Type 0} (f g : Parts → List X) → ((m : Parts) → f (without_debug m) ≡ g m) → (ms : List Parts)
    → flat_map f (all_without_debug ms) ≡ flat_map g ms
flat-bare f g same [] = refl
flat-bare f g same (m ∷ ms) = λ i. same m i ++ flat-bare f g same ms i

pub flat-sites : {X : Type 0} (f g : Sited → List X) → ((site : Sited) → f (bare_site site) ≡ g site) → (sites : List Sited)
    → flat_map f (map bare_site sites) ≡ flat_map g sites
flat-sites f g same [] = refl
flat-sites f g same (site ∷ sites) = λ i. same site i ++ flat-sites f g same sites i

pub no-entries : {X : Type 0} (f : Sited → List X) → ((site : Sited) → f (bare_site site) ≡ []) → (sites : List Sited) → flat_map f (map bare_site sites) ≡ []
no-entries f none [] = refl
no-entries f none (site ∷ sites) = λ i. none site i ++ no-entries f none sites i

pub sections-bare : (ms : List Parts) → flat_sections (all_without_debug ms) ≡ flat_sections ms
sections-bare ms = flat-bare (λ m. m.sections) (λ m. m.sections) (λ m. refl) ms

pub names-bare : (ms : List Parts) → public_names (all_without_debug ms) ≡ public_names ms
names-bare ms = flat-bare (λ m. map (λ entry. entry.name) m.names.publics) (λ m. map (λ entry. entry.name) m.names.publics) (λ m. refl) ms

pub references-bare : (ms : List Parts) → flat_references (all_without_debug ms) ≡ flat_references ms
references-bare ms = flat-bare (λ m. m.names.references) (λ m. m.names.references) (λ m. refl) ms

pub starts-bare : (ms : List Parts) → flat_starts (all_without_debug ms) ≡ flat_starts ms
starts-bare ms = flat-bare (λ m. option_to_list m.start) (λ m. option_to_list m.start) (λ m. refl) ms

pub unresolved-bare : (ms : List Parts) → unresolved_references (all_without_debug ms) ≡ unresolved_references ms
unresolved-bare ms = λ i. filter (λ reference. not (has_name (names-bare ms i) reference.name)) (references-bare ms i)

pub kept-bare : (ms : List Parts) → kept_references (all_without_debug ms) ≡ kept_references ms
kept-bare ms = λ i. distinct same_reference (unresolved-bare ms i)
