-- What a record of an ended prefix brings to a module without a defect.
use Rattle.std.proofs.Common.{◌≡◌, ℕ, ◌+◌, ◌-◌, ◌<◌, Bool, true, false, cond, ◌==◌, ◌&&◌, nat_lt, List, [], ◌∷◌, ◌++◌, length, drop, slice_get}
use Rattle.std.proofs.Common.{Option, Some, None, IfSome, unwrap_or, refl, sym, ap, subst, ◌∙◌, arith, append_assoc, length-take, filter_map}
use Rattle.std.specs.List.{list_all, list_any, cons_option, AllByRecursion}
use Rattle.std.proofs.lemmas.Bool.{and_parts, or_from}
use Rattle.mufom_numbers.specs.declared.taken.Span.{Span}
use Rattle.mufom_expr.specs.Tree.{Tree}
use Rattle.mufom_expr.specs.Spelled.{Indexes}
use Rattle.mufom_records.specs.declared.record.Mode.TheVariants as mode
use Rattle.mufom_records.specs.Fields.{first_of}
use Rattle.mufom_records.specs.Layouts.{IsWholeRecord}
use Rattle.mufom_module.specs.declared.module.Parts.{Parts}
use Rattle.mufom_module.specs.Contents.{any_of}
use Rattle.mufom_module.specs.Defects.{is_long, counts_of, names_outside, has_other_counter}
use Rattle.mufom_module.specs.SpelledRecords.{SpelledRecord, bytes_of, text_in, section, named_by, tree_in, is_public_value}
use Rattle.mufom_module.specs.SpelledRecords.{position_in, positioned}
use Rattle.mufom_module.specs.RecordParts.{Part, number_of, stands_in, opens_items, begins_item, items_mode}
use Rattle.mufom_module.specs.Gathered.{for_index}
use Rattle.mufom_module.specs.Grammar.{AreWhole, has_no_section, names_unknown}
use Rattle.mufom_judging.specs.Prefixes.{is_module_end}
use Rattle.mufom_judging.specs.Faults.{counter_allowed}
use Rattle.mufom_judging.specs.Stated.{indexes_in}
use Rattle.mufom_judging.proofs.ended.Rows.{IsShort, body_short, items_short}
use Rattle.mufom_judging.proofs.ended.Parts.{IsKept, KeptFrom, own_of, not_end}
use Rattle.mufom_judging.proofs.ended.Trees.{IsKnown, AreCounts, inside, placed_section, own_counter, known-append, named_known, tree_known}
use Rattle.mufom_judging.proofs.ended.Trees.{tree_counter, declared_below}
use Rattle.mufom_records.specs.declared.options.ReadOptions.{ReadOptions}
use Rattle.mufom_records.specs.Parts.{expression_of}

-- ---- trees

-- with positions in place of its indexes, the tree has only positions of entries, and no counter except of the section that it may use
pub record IsGoodTree (m : Parts) (ix : Indexes) (allowed : Option ℕ) (tree : Tree) : Type 0 where
  pub inside : names_outside (counts_of m) (positioned ix tree) ≡ false
  pub counter : has_other_counter (placed_section ix allowed) (positioned ix tree) ≡ false

pub good_tree : (m : Parts) (all : List SpelledRecord) (ix : Indexes) → indexes_in all ≡ ix → AreCounts m (indexes_in all)
    → (allowed : Option ℕ) (tree : Tree) → IsKnown all tree → has_other_counter allowed tree ≡ false → IsGoodTree m ix allowed tree
good_tree m all ix same are allowed tree known counter = subst (λ (it : Indexes). IsGoodTree m it allowed tree) same
    (record { inside = inside all m tree are known; counter = own_counter (indexes_in all) allowed tree counter })

-- ---- records

-- what holds of a record after those before it
pub record IsGood (m : Parts) (ix : Indexes) (before : List SpelledRecord) (p : SpelledRecord) : Type 0 where
  pub short : IsShort p.row
  pub named : (i : ℕ) → named_by p.row ≡ Some (section, i) → position_in ix.sections i < length m.sections
  pub tree : (span : Span) → expression_of p.row ≡ Some span → is_public_value p.row ≡ false → IsGoodTree m ix (counter_allowed before p.row) (tree_in p span)
  pub placed : has_no_section before p.row ≡ false

abbrev pub GoodFrom : Parts → Indexes → List SpelledRecord → List SpelledRecord → Type 0
GoodFrom m ix before [] = Unit {0}
GoodFrom m ix before (p ∷ records) = IsGood m ix before p × GoodFrom m ix (before ++ p ∷ []) records

short_here : (options : ReadOptions) (test : Bool) (p : SpelledRecord) (after : List ℕ) → is_module_end p.row ≡ false
    → IsWholeRecord (cond test (items_mode options) mode.Body) p.row p.bytes (first_of after None) → IsShort p.row
short_here options false p after other is = body_short p.row p.bytes (first_of after None) other is
short_here options true p after other is = items_short options.gnu p.row p.bytes (first_of after None) is

-- whole records of a part are short
pub part_short : (options : ReadOptions) (part : Part) (items : Bool) (records : List SpelledRecord) (after : List ℕ) → (number_of part == 7) ≡ false
    → list_all (λ p. stands_in part p.row) records ≡ true → AreWhole options items records after → AllByRecursion (λ p. IsShort p.row) records
part_short options part items [] after other own are = tt
part_short options part items (p ∷ records) after other own are =
    let both = and_parts (stands_in part p.row) _ own in (
      short_here options (items && begins_item p.bytes) p (bytes_of records ++ after) (not_end part p.row other both.0) are.0,
      part_short options part (opens_items p.row) records after other both.1 are.1,
    )

-- the records of a part are short
pub all_short : (options : ReadOptions) (part : Part) (before : List SpelledRecord) (items : Bool) (records : List SpelledRecord) (after : List ℕ)
    → (number_of part == 7)
    ≡ false → KeptFrom part before records → AreWhole options items records after → AllByRecursion (λ p. IsShort p.row) records
all_short options part before items records after other own are = part_short options part items records after other (own_of part before records own) are

good : (m : Parts) (all : List SpelledRecord) (ix : Indexes) → indexes_in all ≡ ix → AreCounts m (indexes_in all)
    → (before after : List SpelledRecord) (p : SpelledRecord) → before ++ p ∷ after ≡ all → IsShort p.row → IsKept before p → IsGood m ix before p
good m all ix same are before after p whole short keeps =
    let known : names_unknown all p ≡ false = subst (λ (l : List SpelledRecord). names_unknown l p
    ≡ false) whole (known-append before (p ∷ after) p keeps.known) in
    record {
      short = short;
      named = λ i e. subst (λ (it : Indexes). position_in it.sections i < length m.sections) same
          (let below = declared_below all section i (named_known all p (section, i) e known) in omega (arith, are.sections));
      tree = λ span e other. good_tree m all ix same are (counter_allowed before p.row) (tree_in p span) (tree_known all p span e other known)
          (tree_counter before p span e keeps.counter);
      placed = keeps.placed;
    }

pub good_from : (m : Parts) (all : List SpelledRecord) (ix : Indexes) → indexes_in all ≡ ix → AreCounts m (indexes_in all)
    → (part : Part) (before records after : List SpelledRecord) → (before ++ records) ++ after ≡ all
    → AllByRecursion (λ p. IsShort p.row) records → KeptFrom part before records → GoodFrom m ix before records
good_from m all ix same are part before [] after whole short own = tt
good_from m all ix same are part before (p ∷ records) after whole short own = (
  good m all ix same are before (records ++ after) p (sym (append_assoc before (p ∷ records) after) ∙ whole) short.0 own.1,
  good_from m all ix same are part (before ++ p ∷ []) records after (ap (λ l. l ++ after) (append_assoc before (p ∷ []) records) ∙ whole) short.1 own.2,
)

-- ---- texts

pub text_short : (p : SpelledRecord) (span : Span) → span.len < 65536 → is_long (text_in p span) ≡ false
text_short p span h = small (length (text_in p span)) (omega (arith, length-take (span.start + span.len - span.start) (drop span.start p.bytes))) where
  small : (n : ℕ) → n < 65536 → nat_lt 65535 n ≡ false
  small n h = grind arith

-- ---- what is gathered

passes_next : {X : Type 0} (test : X → Bool) (o : Option X) (rest : List X) → any_of test o ≡ false → list_any test rest ≡ false
    → list_any test (cons_option o rest) ≡ false
passes_next test None rest e h = h
passes_next test (Some x) rest e h = or_from (test x) _ e h

-- none of the gathered entries passes the test, if that of no record does
pub none_passes : {X : Type 0} (test : X → Bool) (ask : SpelledRecord → Option X) (records : List SpelledRecord)
    → AllByRecursion (λ p. any_of test (ask p) ≡ false) records → list_any test (filter_map ask records) ≡ false
none_passes test ask [] h = refl
none_passes test ask (p ∷ records) h = passes_next test (ask p) (filter_map ask records) h.0 (none_passes test ask records h.1)

first_next : {X : Type 0} (Q : X → Type 0) (o : Option X) (rest : List X) (other : X) → IfSome o Q → Q (unwrap_or (slice_get rest 0) other)
    → Q (unwrap_or (slice_get (cons_option o rest) 0) other)
first_next Q None rest other e h = h
first_next Q (Some x) rest other e h = e

-- what holds of every value found, and of the default, holds of the first
pub first_has : {X : Type 0} (Q : X → Type 0) (ask : SpelledRecord → Option X) (other : X) → Q other → (records : List SpelledRecord)
    → AllByRecursion (λ p. IfSome (ask p) Q) records → Q (unwrap_or (slice_get (filter_map ask records) 0) other)
first_has Q ask other h [] all = h
first_has Q ask other h (p ∷ records) all = first_next Q (ask p) (filter_map ask records) other all.0 (first_has Q ask other h records all.1)

pub for_index_has : {X : Type 0} (Q : X → Type 0) (i j : ℕ) (x : X) → Q x → IfSome (for_index i j x) Q
for_index_has {X} Q i j x h = by_test (i == j) where
  by_test : (test : Bool) → IfSome (cond test (Some x) None) Q
  by_test true = h
  by_test false = tt

pub map_all : (P Q : SpelledRecord → Type 0) → ((p : SpelledRecord) → P p → Q p) → (records : List SpelledRecord) → AllByRecursion P records
    → AllByRecursion Q records
map_all P Q f [] h = tt
map_all P Q f (p ∷ records) h = (f p h.0, map_all P Q f records h.1)

pub both_all : (P Q : SpelledRecord → Type 0) (records : List SpelledRecord) → AllByRecursion P records → AllByRecursion Q records
    → AllByRecursion (λ p. P p × Q p) records
both_all P Q [] x y = tt
both_all P Q (p ∷ records) x y = ((x.0, y.0), both_all P Q records x.1 y.1)
