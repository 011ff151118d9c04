-- The loads of a whole prefix: those that the records of its data part state, by the indexes of the file.
use Rattle.std.proofs.Common.{◌≡◌, ℕ, ◌==◌, Bool, true, false, cond, true≢false, not, List, [], ◌∷◌, ◌++◌, map, Option, Some, is_none, unwrap_or}
use Rattle.std.proofs.Common.{refl, sym, ap, ◌∙◌, append-nil, append_assoc}
use Rattle.std.specs.List.{list_all, AllByRecursion}
use Rattle.std.proofs.lemmas.Bool.{and_parts}
use Rattle.std.proofs.lemmas.List.Elements.{filter_map-append}
use Rattle.mufom_expr.specs.declared.token.Letter.{Letter}
use Rattle.mufom_expr.specs.declared.token.Letter.TheVariants.{I, L, P, R, S, X}
use Rattle.mufom_expr.specs.Tree.{Tree}
use Rattle.mufom_expr.specs.Value.{variables_of}
use Rattle.mufom_expr.specs.Spelled.{Indexes}
use Rattle.mufom_expr.proofs.TermsLemmas.{with_variables-agrees_on}
use Rattle.mufom_records.specs.declared.record.Record.{Record}
use Rattle.mufom_records.specs.declared.record.Record.TheVariants as r
use Rattle.mufom_loads.specs.declared.load.Item.TheVariants.{Field}
use Rattle.mufom_loads.specs.declared.load.Load.TheVariants.{SetSection, SetPc}
use Rattle.mufom_module.specs.SpelledRecords.{SpelledRecord, Kind, section, public, reference, of_kind, declared_by, declared, is_declared}
use Rattle.mufom_module.specs.SpelledRecords.{index_of_variable, tree_in, position_in, positioned_variable, positioned}
use Rattle.mufom_module.specs.RecordParts.{Part, number_of, data_part, part_of, stands_in}
use Rattle.mufom_module.specs.Grammar.{names_unknown}
use Rattle.mufom_module.specs.Gathered.{loads_of}
use Rattle.mufom_read.specs.declared.loads.Loads.{Loads}
use Rattle.mufom_read.specs.declared.loads.OpenLoad.TheVariants as open_load
use Rattle.mufom_judging.specs.Stated.{indexes_in}
use Rattle.mufom_read.specs.Kept.{tables_of, indexes_by, as_record}
use Rattle.mufom_read.specs.LoadsSoFar.{loads_and, no_loads, closed, with_item, with_load, units_in, units_or, loads_after, loads_from, loads_so_far}
use Rattle.mufom_judging.proofs.ended.Parts.{KeptFrom}
use Rattle.mufom_judging.proofs.ended.Names.{IsSilent}
use Rattle.mufom_judging.proofs.ended.Gathered.{other_part, unplaced}
use Rattle.mufom_judging.proofs.ended.Trees.{IsKnown, named_known, tree_known}
use Rattle.mufom_read.proofs.so_far.LoadLaws.{units-stay}
use Rattle.mufom_read.proofs.so_far.LoadsFold.{loads_by_all, loads-closed}
use Rattle.mufom_judging.proofs.Stable.{position-stays}

-- ---- records of other parts

-- a record of another part than the data part
abbrev pub is_other : Record → Bool
is_other row = not (stands_in data_part row)

-- none of the records is one of the data part
abbrev pub AreOther : List SpelledRecord → Type 0
AreOther records = AllByRecursion (λ p. is_other p.row ≡ true) records

-- records of another part are not of the data part
pub others-other : (part : Part) → (number_of data_part == number_of part) ≡ false → (records : List SpelledRecord)
    → list_all (λ p. stands_in part p.row) records ≡ true → AreOther records
others-other part differ [] h = tt
others-other part differ (p ∷ records) h =
    let both = and_parts (stands_in part p.row) _ h in
    (ap not (other_part data_part part (part_of p.row) differ both.0), others-other part differ records both.1)

-- the same for records of the header
pub silent-other : (records : List SpelledRecord) → IsSilent records → AreOther records
silent-other [] h = tt
silent-other (p ∷ records) h = let both = and_parts (is_none (part_of p.row)) _ h in
    (ap not (unplaced data_part (part_of p.row) both.0), silent-other records both.1)

pub other-append : (a b : List SpelledRecord) → AreOther a → AreOther b → AreOther (a ++ b)
other-append [] b x y = y
other-append (p ∷ a) b x y = (x.0, other-append a b x.1 y)

-- a record of another part changes nothing
pub quiet-at : (before : List SpelledRecord) (s : Loads) (p : SpelledRecord) → is_other p.row ≡ true → loads_after before s p ≡ s
quiet-at before s p h = by_test (stands_in data_part p.row) h where
  by_test : (test : Bool) → not test ≡ true → cond test (with_load (indexes_by (tables_of before)) (units_or (units_in before)) s p) s ≡ s
  by_test true e = absurd (true≢false (sym e))
  by_test false e = refl

quiet_all : (before : List SpelledRecord) (s : Loads) (records : List SpelledRecord) → AreOther records → loads_from before s records ≡ s
quiet_all before s [] all = refl
quiet_all before s (p ∷ records) all = ap (λ (x : Loads). loads_from (before ++ p ∷ []) x records) (quiet-at before s p all.0)
    ∙ quiet_all (before ++ p ∷ []) s records all.1

from_append : (before : List SpelledRecord) (s : Loads) (a b : List SpelledRecord) → loads_from before s (a ++ b)
    ≡ loads_from (before ++ a) (loads_from before s a) b
from_append before s [] b = ap (λ (l : List SpelledRecord). loads_from l s b) (sym (append-nil before))
from_append before s (p ∷ a) b =
    from_append (before ++ p ∷ []) (loads_after before s p) a b
    ∙ ap (λ (l : List SpelledRecord). loads_from l (loads_from (before ++ p ∷ []) (loads_after before s p) a) b) (append_assoc before (p ∷ []) a)

-- ---- indexes that are declared before

pub kind_stays : (kind : Kind) (before more : List SpelledRecord) (i : ℕ) → is_declared before (kind, i) ≡ true → position_in (declared kind before) i
    ≡ position_in (declared kind (before ++ more)) i
kind_stays kind before more i h =
    sym (ap (λ (l : List ℕ). position_in l i) (filter_map-append (λ (q : SpelledRecord). of_kind kind (declared_by q.row)) before more)
    ∙ position-stays (declared kind before) (declared kind more) i h)

-- the renaming of variables by the records before, and by all of them
variable_stays : (before more : List SpelledRecord) (letter : Letter) (i : ℕ) → is_declared before (index_of_variable (letter, i)) ≡ true
    → positioned_variable (indexes_by (tables_of before)) letter i ≡ positioned_variable (indexes_in (before ++ more)) letter i
variable_stays before more I i h = (λ k. (I, kind_stays public before more i h k))
variable_stays before more X i h = (λ k. (X, kind_stays reference before more i h k))
variable_stays before more L i h = (λ k. (L, kind_stays section before more i h k))
variable_stays before more P i h = (λ k. (P, kind_stays section before more i h k))
variable_stays before more R i h = (λ k. (R, kind_stays section before more i h k))
variable_stays before more S i h = (λ k. (S, kind_stays section before more i h k))

variables_stay : (before more : List SpelledRecord) (vs : List (Letter × ℕ)) → list_all (is_declared before) (map index_of_variable vs) ≡ true
    → AllByRecursion (λ v. positioned_variable (indexes_by (tables_of before)) v.0 v.1 ≡ positioned_variable (indexes_in (before ++ more)) v.0 v.1) vs
variables_stay before more [] h = tt
variables_stay before more (v ∷ vs) h =
    let both = and_parts (is_declared before (index_of_variable v)) _ h in
    (variable_stays before more v.0 v.1 both.0, variables_stay before more vs both.1)

pub tree_stays : (before more : List SpelledRecord) (tree : Tree) → IsKnown before tree → positioned (indexes_by (tables_of before)) tree
    ≡ positioned (indexes_in (before ++ more)) tree
tree_stays before more tree known =
    with_variables-agrees_on (positioned_variable (indexes_by (tables_of before))) (positioned_variable (indexes_in (before ++ more))) tree
    (variables_stay before more (variables_of tree) known)

-- ---- the records of the data part

row_stays : (before more : List SpelledRecord) (maus : ℕ) (s : Loads) (row : Record) (bytes : List ℕ) → names_unknown before (as_record row bytes) ≡ false
    → with_load (indexes_by (tables_of before)) maus s (as_record row bytes) ≡ with_load (indexes_in (before ++ more)) maus s (as_record row bytes)
row_stays before more maus s (r.SetSection i) bytes known =
    ap (λ (n : ℕ). loads_and (closed s ++ SetSection n ∷ []) open_load.Nothing)
    (kind_stays section before more i (named_known before (as_record (r.SetSection i) bytes) (section, i) refl known))
row_stays before more maus s (r.SetPc i value) bytes known =
    let p = as_record (r.SetPc i value) bytes in
    let at = kind_stays section before more i (named_known before p (section, i) refl known) in
    let tree = tree_stays before more (tree_in p value) (tree_known before p value refl refl known) in
    (λ k. loads_and (closed s ++ SetPc (at k) (tree k) ∷ []) open_load.Nothing)
row_stays before more maus s (r.FieldItem kind value size) bytes known =
    let p = as_record (r.FieldItem kind value size) bytes in
    let tree = tree_stays before more (tree_in p value) (tree_known before p value refl refl known) in
    (λ k. with_item s.loads s.awaiting (Field kind (unwrap_or size maus) (tree k)))
row_stays before more maus s row bytes known = refl

data_loads : (maus : ℕ) (ix : Indexes) (before records after : List SpelledRecord) (s : Loads) → indexes_in (before ++ (records ++ after)) ≡ ix
    → units_in before ≡ Some maus → KeptFrom data_part before records
    → loads_from before s records ≡ loads_by_all ix maus s records
data_loads maus ix before [] after s same given kept = refl
data_loads maus ix before (p ∷ records) after s same given kept =
    let here : loads_after before s p ≡ with_load ix maus s p =
    ap (λ (b : Bool). cond b (with_load (indexes_by (tables_of before)) (units_or (units_in before)) s p) s) kept.0
    ∙ ap (λ (o : Option ℕ). with_load (indexes_by (tables_of before)) (units_or o) s p) given
    ∙ row_stays before (p ∷ records ++ after) maus s p.row p.bytes kept.1.known ∙ ap (λ (x : Indexes). with_load x maus s p) same in
    let units = units-stay before p maus given in
    ap (λ (x : Loads). loads_from (before ++ p ∷ []) x records) here
    ∙ data_loads maus ix (before ++ p ∷ []) records after (with_load ix maus s p) (ap indexes_in (append_assoc before (p ∷ []) (records ++ after))
    ∙ same) units kept.2

-- ---- the whole

-- The loads that all records of a file state. `before`, `loads` and `after` are the records before, in and after the data part,
-- and `end` is the end of the module.
pub loads-whole : (maus : ℕ) (ix : Indexes) (before loads after : List SpelledRecord) (end : SpelledRecord) → AreOther before → AreOther after
    → is_other end.row ≡ true
    → indexes_in (((before ++ loads) ++ after) ++ end ∷ []) ≡ ix → units_in before ≡ Some maus → KeptFrom data_part before loads
    → closed (loads_so_far (((before ++ loads) ++ after) ++ end ∷ [])) ≡ loads_of ix maus loads
loads-whole maus ix before loads after end quiet late last same given kept =
    let prefix = (before ++ loads) ++ after in
    let nested : before ++ (loads ++ (after ++ end ∷ [])) ≡ prefix ++ end ∷ [] =
    sym (append_assoc before loads (after ++ end ∷ [])) ∙ sym (append_assoc (before ++ loads) after (end ∷ [])) in
    let first : loads_from [] no_loads (before ++ loads) ≡ loads_from before no_loads loads =
    from_append [] no_loads before loads ∙ ap (λ (s : Loads). loads_from before s loads) (quiet_all [] no_loads before quiet) in
    let later : loads_from [] no_loads prefix ≡ loads_from before no_loads loads =
    from_append [] no_loads (before ++ loads) after ∙ quiet_all (before ++ loads) (loads_from [] no_loads (before ++ loads)) after late ∙ first in
    ap closed (from_append [] no_loads prefix (end ∷ []) ∙ quiet-at prefix (loads_from [] no_loads prefix) end last
    ∙ later ∙ data_loads maus ix before loads (after ++ end ∷ []) no_loads (ap indexes_in nested ∙ same) given kept)
    ∙ loads-closed ix maus loads
