-- The origins of the entries of a list of modules: the module, and the file from which it was read.
use Rattle.std.specs.Prelude.{◌≡◌, ℕ, List, [], ◌∷◌, map, length, take, drop, count_by, Bool, Option, is_some, slice_get}
use Rattle.std.specs.Option.{option_and_then}
use Rattle.mufom_expr.specs.Tree.{Tree}
use Rattle.std.specs.List.{enumerate_from}
use Rattle.mufom_module.specs.declared.module.Parts.{Parts}
use Rattle.mufom_origins.specs.declared.origins.Kind.{Kind}
use Rattle.mufom_origins.specs.declared.origins.Kind.TheVariants.{Sections, Publics, References}
use Rattle.mufom_origins.specs.declared.origins.Origin.{Origin}
use Rattle.mufom_origins.specs.declared.origins.Place.{Place}
use Rattle.mufom_origins.specs.Places.{capped, ends_from, set_marks}

-- a module with its place among all modules that were read
abbrev pub FileModule : Type 0
FileModule = ℕ × Parts

-- the modules of all files, with their places from 0 on
abbrev pub numbered : List Parts → List FileModule
numbered ms = enumerate_from 0 ms

-- the modules, without their places
abbrev pub modules_of : List FileModule → List Parts
modules_of files = map (λ f. f.1) files

-- the origin of a module's entries
abbrev pub origin_of : FileModule → Origin
origin_of f = record {
  place = f.0;
  name = f.1.name;
  sections = length f.1.sections;
  publics = length f.1.names.publics;
  references = length f.1.names.references;
  has_start = is_some f.1.start;
}

abbrev pub origins_of : List FileModule → List Origin
origins_of files = map origin_of files

-- The origins once a link keeps only some of its sections and publics, given a mark for each of them: every module has the number of its own that are
-- left. The numbers of references do not change.
abbrev pub origins_left : (sections publics : List Bool) → List Origin → List Origin
origins_left sections publics [] = []
origins_left sections publics (o ∷ origins) =
    record o { sections = set_marks (take o.sections sections); publics = set_marks (take o.publics publics) }
    ∷ origins_left (drop o.sections sections) (drop o.publics publics) origins

-- the number of a module's entries of a kind
abbrev pub count_of : Kind → Origin → ℕ
count_of Sections o = o.sections
count_of Publics o = o.publics
count_of References o = o.references

abbrev pub counts_of : Kind → List Origin → List ℕ
counts_of kind origins = map (count_of kind) origins

-- the code's ends of the entries of a kind, for each module
abbrev pub AreEnds : Kind → List Origin → List ℕ → Type 0
AreEnds kind origins ends = ends ≡ map capped (ends_from 0 (counts_of kind origins))

-- the ends of each kind are those of these modules
pub record AreIndexed (origins : List Origin) (sections publics references : List ℕ) : Type 0 where
  pub sections_end : AreEnds Sections origins sections
  pub publics_end : AreEnds Publics origins publics
  pub references_end : AreEnds References origins references

-- ---- the entry at a place

-- the entry at a place
abbrev pub entry_of : {X : Type 0} → (Parts → List X) → List FileModule → Place → Option X
entry_of entries files place = option_and_then (λ f. slice_get (entries f.1) place.entry) (slice_get files place.«module»)

-- the start of the module with a position
abbrev pub start_of : List FileModule → ℕ → Option Tree
start_of files position = option_and_then (λ f. f.1.start) (slice_get files position)
