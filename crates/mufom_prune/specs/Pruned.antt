-- A module without the entries that are not kept: the entries that remain, with their positions in the new lists.
use Rattle.std.specs.Prelude.{◌≡◌, ℕ, suc, List, [], ◌∷◌, length, map, filter, take, drop, get_or, Option, Some, None, option_map, Bool, true, false}
use Rattle.std.specs.Prelude.{◌&&◌, ◌||◌}
use Rattle.mufom_expr.specs.declared.token.Letter.{Letter}
use Rattle.mufom_expr.specs.declared.token.Letter.TheVariants as letters
use Rattle.mufom_expr.specs.Tree.{Tree}
use Rattle.mufom_expr.specs.Value.{with_variables}
use Rattle.mufom_names.specs.declared.name.Public.{Public}
use Rattle.mufom_names.specs.declared.name.Reference.{Reference}
use Rattle.mufom_loads.specs.declared.load.Item.{Item}
use Rattle.mufom_loads.specs.declared.load.Item.TheVariants.{Literal, Field}
use Rattle.mufom_loads.specs.declared.load.Load.{Load}
use Rattle.mufom_loads.specs.declared.load.Load.TheVariants.{SetSection, SetPc, One, Repeat}
use Rattle.mufom_module.specs.declared.module.Parts.{Parts}
use Rattle.mufom_module.specs.Contents.{placed_loads}
use Rattle.mufom_plan.specs.Names.{has_name}
use Rattle.mufom_meaning.specs.Flat.{is_common}
use Rattle.mufom_select.specs.Choice.{is_marked}
use Rattle.mufom_prune.specs.declared.positions.NewPositions.{NewPositions}
use Rattle.mufom_prune.specs.Kept.{home, IsKeptFor}

-- ---- the marked elements of lists

-- the marked elements, in order
abbrev pub remaining : {A : Type 0} → List Bool → List A → List A
remaining [] xs = []
remaining (mark ∷ marks) [] = []
remaining (true ∷ marks) (x ∷ xs) = x ∷ remaining marks xs
remaining (false ∷ marks) (x ∷ xs) = remaining marks xs

-- the new position of each element, if the first that remains gets position n; a removed element has the position of the next that remains
abbrev pub new_positions : ℕ → List Bool → List ℕ
new_positions n [] = []
new_positions n (true ∷ marks) = n ∷ new_positions (suc n) marks
new_positions n (false ∷ marks) = n ∷ new_positions n marks

-- ---- the rest of a module

-- a mark for each section, each public and each reference that remains
pub record Remains : Type 0 where
  pub sections : List Bool
  pub publics : List Bool
  pub references : List Bool

-- these marks, as one
abbrev pub marks_of_all : List Bool → List Bool → List Bool → Remains
marks_of_all sections publics references = record { sections = sections; publics = publics; references = references }

-- The references that remain: the marked ones, and the weak ones of a size above 0 that have one of the names.
abbrev pub with_commons : List (List ℕ) → List Bool → List Reference → List Bool
with_commons names [] references = []
with_commons names (mark ∷ marks) [] = []
with_commons names (mark ∷ marks) (r ∷ references) = (mark || (is_common r && has_name names r.name)) ∷ with_commons names marks references

-- the names of the marked references
abbrev pub remaining_names : List Bool → List Reference → List (List ℕ)
remaining_names marks references = map (λ r. r.name) (remaining marks references)

-- What remains of a module if these entries are kept: the kept sections, publics and references, and the weak references of a size
-- above 0 that have the name of a kept reference.
abbrev pub remains : Parts → List Bool → Remains
remains m marks =
    let publics = drop (length m.sections) marks in
    let references = drop (length m.names.publics) publics in
    record {
      sections = take (length m.sections) marks;
      publics = take (length m.names.publics) publics;
      references = with_commons (remaining_names references m.names.references) references m.names.references;
    }

-- the new positions of what remains
abbrev pub positions_of : Remains → NewPositions
positions_of c = record {
  sections = new_positions 0 c.sections;
  publics = new_positions 0 c.publics;
  references = new_positions 0 c.references;
}

-- the variable that names the same entry in the new lists; if its number is past the end of a list, which no variable of a module is, number 0
abbrev pub new_variable : NewPositions → Letter → ℕ → Letter × ℕ
new_variable c letters.R n = (letters.R, get_or c.sections n 0)
new_variable c letters.L n = (letters.L, get_or c.sections n 0)
new_variable c letters.S n = (letters.S, get_or c.sections n 0)
new_variable c letters.P n = (letters.P, get_or c.sections n 0)
new_variable c letters.I n = (letters.I, get_or c.publics n 0)
new_variable c letters.X n = (letters.X, get_or c.references n 0)

-- an expression with the new positions
abbrev pub new_tree : NewPositions → Tree → Tree
new_tree c t = with_variables (new_variable c) t

-- a public with the new positions
abbrev pub new_public : NewPositions → Public → Public
new_public c p = record { name = p.name; value = new_tree c p.value; notes = p.notes }

-- an item with the new positions
abbrev pub new_item : NewPositions → Item → Item
new_item c (Literal bytes) = Literal bytes
new_item c (Field kind size t) = Field kind size (new_tree c t)

-- a load with the new positions
abbrev pub new_load : NewPositions → Load → Load
new_load c (SetSection section) = SetSection (get_or c.sections section 0)
new_load c (SetPc section t) = SetPc (get_or c.sections section 0) (new_tree c t)
new_load c (One item) = One (new_item c item)
new_load c (Repeat count items) = Repeat count (map (new_item c) items)

-- the section remains; false if there is none
abbrev pub is_left : List Bool → Option ℕ → Bool
is_left marks None = false
is_left marks (Some section) = is_marked marks section

-- the load remains because the section to which it belongs does; the load is paired with the section that is current before it
abbrev pub stays : List Bool → Option ℕ × Load → Bool
stays sections p = is_left sections (home p.0 p.1)

-- the loads that remain, with the new positions
abbrev pub remaining_loads : List Bool → NewPositions → List (Option ℕ × Load) → List Load
remaining_loads sections c placed = map (λ p. new_load c p.1) (filter (stays sections) placed)

-- The module without the entries that do not remain, and without debug items. Everything else is unchanged and in the same order.
abbrev pub without_others : Parts → Remains → Parts
without_others m c = let new = positions_of c in record {
  processor = m.processor;
  name = m.name;
  maus = m.maus;
  order = m.order;
  ext = m.ext;
  env = m.env;
  sections = remaining c.sections m.sections;
  names = record {
    publics = map (new_public new) (remaining c.publics m.names.publics);
    references = remaining c.references m.names.references;
  };
  debug = [];
  loads = remaining_loads c.sections new (placed_loads m);
  start = option_map (new_tree new) m.start;
}

-- M is what remains of the module for the publics of these names, if the sections of these other names always stay.
pub record IsPrunedFor (M m : Parts) (names stays : List (List ℕ)) : Type 0 where
  pub marks : List Bool
  pub kept : IsKeptFor m names stays marks
  pub is : M ≡ without_others m (remains m marks)

-- the same for the name of one public
abbrev pub IsPruned : Parts → Parts → List ℕ → Type 0
IsPruned M m keep = IsPrunedFor M m (keep ∷ []) []
