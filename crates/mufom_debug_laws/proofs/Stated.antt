-- The records outside the debug part state the same, whether or not the indexes of debug names are known.
use Rattle.std.proofs.Common.{◌≡◌, ℕ, List, [], ◌∷◌, ◌++◌, Some, unwrap_or, refl, filter_map}
use Rattle.std.specs.Prelude.{slice_get}
use Rattle.mufom_expr.specs.declared.token.Letter.{Letter}
use Rattle.mufom_expr.specs.declared.token.Letter.TheVariants.{I, L, P, R, S, X}
use Rattle.mufom_expr.specs.Tree.{Tree, number}
use Rattle.mufom_expr.specs.Value.{with_variables}
use Rattle.mufom_expr.specs.Spelled.{Indexes}
use Rattle.mufom_records.specs.declared.record.Record.{Record}
use Rattle.mufom_records.specs.declared.record.Record.TheVariants as r
use Rattle.mufom_loads.specs.declared.load.Item.{Item}
use Rattle.mufom_loads.specs.declared.load.Item.TheVariants.{Field}
use Rattle.mufom_loads.specs.declared.load.Load.TheVariants.{SetPc}
use Rattle.mufom_module.specs.SpelledRecords.{SpelledRecord, text_in, tree_in, position_in, positioned, positioned_variable}
use Rattle.mufom_module.specs.Gathered.{answers, public_note_for, value_for, public_by, publics_of, item_by, items_at_prefix, loads_by, loads_of}
use Rattle.mufom_module.specs.Gathered.{start_by, starts_of}

-- no indexes of debug names
abbrev pub bare : Indexes → Indexes
bare ix = record ix { debug_names = [] }

variable-same : (ix : Indexes) (letter : Letter) (i : ℕ) → positioned_variable (bare ix) letter i ≡ positioned_variable ix letter i
variable-same ix I i = refl
variable-same ix L i = refl
variable-same ix P i = refl
variable-same ix R i = refl
variable-same ix S i = refl
variable-same ix X i = refl

tree-same : (ix : Indexes) (t : Tree) → positioned (bare ix) t ≡ positioned ix t
tree-same ix t = λ i. with_variables (λ letter n. variable-same ix letter n i) t

public-same : (ix : Indexes) (part : List SpelledRecord) (p : SpelledRecord) (row : Record) → public_by (bare ix) part p row ≡ public_by ix part p row
public-same ix part p (r.PublicName k name) =
    let stated = unwrap_or (slice_get (filter_map (λ q. value_for k q q.row) part) 0) (number 0) in
    λ i. Some (record { name = text_in p name; value = tree-same ix stated i; notes = answers (public_note_for k) part })
public-same ix part p row = refl

pub publics-same : (ix : Indexes) (part : List SpelledRecord) → publics_of (bare ix) part ≡ publics_of ix part
publics-same ix part = λ i. filter_map (λ p. public-same ix part p p.row i) part

item-same : (ix : Indexes) (maus : ℕ) (p : SpelledRecord) (row : Record) → item_by (bare ix) maus p row ≡ item_by ix maus p row
item-same ix maus p (r.FieldItem kind value n) = λ i. Some (Field kind (unwrap_or n maus) (tree-same ix (tree_in p value) i))
item-same ix maus p row = refl

items-same : (ix : Indexes) (maus : ℕ) (records : List SpelledRecord) → items_at_prefix (bare ix) maus records ≡ items_at_prefix ix maus records
items-same ix maus [] = refl
items-same ix maus (p ∷ records) = rw (item-same ix maus p p.row) (rw (items-same ix maus records) refl)

load-same : (ix : Indexes) (p : SpelledRecord) (items : List Item) (row : Record) → loads_by (bare ix) p items row ≡ loads_by ix p items row
load-same ix p items (r.SetPc k value) = λ i. SetPc (position_in ix.sections k) (tree-same ix (tree_in p value) i) ∷ []
load-same ix p items row = refl

pub loads-same : (ix : Indexes) (maus : ℕ) (records : List SpelledRecord) → loads_of (bare ix) maus records ≡ loads_of ix maus records
loads-same ix maus [] = refl
loads-same ix maus (p ∷ records) = rw (items-same ix maus records)
    (λ i. load-same ix p (items_at_prefix ix maus records) p.row i ++ loads-same ix maus records i)

start-same : (ix : Indexes) (p : SpelledRecord) (row : Record) → start_by (bare ix) p row ≡ start_by ix p row
start-same ix p (r.Start value) = λ i. Some (tree-same ix (tree_in p value) i)
start-same ix p row = refl

pub starts-same : (ix : Indexes) (part : List SpelledRecord) → starts_of (bare ix) part ≡ starts_of ix part
starts-same ix part = λ i. filter_map (λ p. start-same ix p p.row i) part
