-- The expressions of a written form name no index that is not declared before them.
use Rattle.std.proofs.Common.{◌≡◌, ℕ, ◌+◌, ◌<◌, ◌==◌, Bool, true, false, ◌&&◌, not, nat_le, List, [], ◌∷◌, ◌++◌, length, map, Option, Some, None}
use Rattle.std.proofs.Common.{refl, sym, ap, ◌∙◌, arith}
use Rattle.std.specs.Prelude.{filter_map, option_to_list, option_map}
use Rattle.std.specs.List.{AllByRecursion, cons_option, list_any, list_all}
use Rattle.std.proofs.lemmas.List.{append-nil, map-append}
use Rattle.std.proofs.lemmas.List.Folds.{list_any-append, list_all-append}
use Rattle.std.proofs.lemmas.Bool.{or_parts, leb-false}
use Rattle.mufom_numbers.specs.declared.taken.Span.{Span}
use Rattle.mufom_expr.specs.declared.token.Letter.{Letter}
use Rattle.mufom_expr.specs.declared.token.Letter.TheVariants.{I, L, P, R, S, X}
use Rattle.mufom_expr.specs.Tree.{Tree, number, variable, one, two}
use Rattle.mufom_expr.specs.Value.{variables_of}
use Rattle.mufom_expr.specs.Terms.{the_term}
use Rattle.mufom_expr.specs.TokenAt.{tokens_in}
use Rattle.mufom_records.specs.Parts.{expression_of}
use Rattle.mufom_debug.specs.Marks.{joined}
use Rattle.mufom_module.specs.declared.module.Parts.{Parts}
use Rattle.mufom_module.specs.Contents.{any_of}
use Rattle.mufom_module.specs.SpelledRecords.{SpelledRecord, Kind, FileIndex, section, public, reference, declared, declared_by, of_kind, is_declared}
use Rattle.mufom_module.specs.SpelledRecords.{tree_in, text_in, named_in_expression, named_at_once, index_of_variable, kind_of_letter}
use Rattle.mufom_module.specs.SpelledRecords.{Once, is_same_statement, assigned_by, is_assigned}
use Rattle.mufom_module.specs.Grammar.{Follows, has_no_section}
use Rattle.mufom_module.specs.Written.{shortest, index_of}
use Rattle.mufom_module.specs.Written as w
use Rattle.mufom_module.specs.Defects.{counts_of, count_for, is_outside, names_outside}
use Rattle.mufom_module.proofs.SpelledLaws.{term-spelling}
use Rattle.mufom_write.proofs.Indexed.{IsFittingTree, indexed, expression-spells, counting}
use Rattle.mufom_write.proofs.Naming.{found, declared-append}

-- the records declare the sections and the names of the module, and no others
pub record DeclareEntries (m : Parts) (before : List SpelledRecord) : Type 0 where
  pub sections : declared section before ≡ counting 1 (length m.sections)
  pub publics : declared public before ≡ counting 32 (length m.names.publics)
  pub references : declared reference before ≡ counting 11 (length m.names.references)

-- further records that declare none of them
pub declare-more : (m : Parts) (before xs : List SpelledRecord) → DeclareEntries m before → declared section xs ≡ [] → declared public xs ≡ []
    → declared reference xs ≡ [] → DeclareEntries m (before ++ xs)
declare-more m before xs its s p r = record {
  sections = declared-append section before xs ∙ (λ i. its.sections i ++ s i) ∙ append-nil (counting 1 (length m.sections));
  publics = declared-append public before xs ∙ (λ i. its.publics i ++ p i) ∙ append-nil (counting 32 (length m.names.publics));
  references = declared-append reference before xs ∙ (λ i. its.references i ++ r i) ∙ append-nil (counting 11 (length m.names.references));
}

-- the variables of a record's expression are those of the tree over the indexes of the file
named-in : (p : SpelledRecord) (span : Span) (tree : Tree) → expression_of p.row ≡ Some span → text_in p span ≡ w.expression shortest tree → IsFittingTree tree
    → named_in_expression p ≡ map index_of_variable (variables_of (indexed tree))
named-in p span tree has text fits =
    let back = ap (λ (l : List ℕ). the_term (tokens_in l)) text ∙ term-spelling (indexed tree) (w.expression shortest tree) (expression-spells tree fits) in
    ap (λ (o : Option Span). map index_of_variable (joined (map variables_of (option_to_list (option_map (tree_in p) o))))) has
    ∙ ap (λ (t : Tree). map index_of_variable (joined (variables_of t ∷ []))) back
    ∙ ap (map index_of_variable) (append-nil (variables_of (indexed tree)))

module _ (m : Parts) (before : List SpelledRecord) (its : DeclareEntries m before) where
  pub section-known : (place : ℕ) → place < length m.sections → is_declared before (section, place + 1) ≡ true
  section-known place within = ap (list_any (λ j. j == place + 1)) its.sections ∙ found (place + 1) 1 (length m.sections) (omega arith) (omega (arith, within))

  public-known : (place : ℕ) → place < length m.names.publics → is_declared before (public, place + 32) ≡ true
  public-known place within = ap (list_any (λ j. j == place + 32)) its.publics
      ∙ found (place + 32) 32 (length m.names.publics) (omega arith) (omega (arith, within))

  reference-known : (place : ℕ) → place < length m.names.references → is_declared before (reference, place + 11) ≡ true
  reference-known place within = ap (list_any (λ j. j == place + 11)) its.references
      ∙ found (place + 11) 11 (length m.names.references) (omega arith) (omega (arith, within))

  variable-known : (letter : Letter) (place : ℕ) → place < count_for (counts_of m) letter
      → is_declared before (kind_of_letter letter, index_of letter place) ≡ true
  variable-known I place within = public-known place within
  variable-known L place within = section-known place within
  variable-known P place within = section-known place within
  variable-known R place within = section-known place within
  variable-known S place within = section-known place within
  variable-known X place within = reference-known place within

  -- the variables of a tree that names no entry outside the module
  pub tree-known : (tree : Tree) → names_outside (counts_of m) tree ≡ false
      → list_all (is_declared before) (map index_of_variable (variables_of (indexed tree))) ≡ true
  tree-known (number value) inside = refl
  tree-known (variable letter place) inside =
      let within = leb-false (count_for (counts_of m) letter) place (or_parts (nat_le (count_for (counts_of m) letter) place) false inside).0 in
      ap (λ (b : Bool). b && true) (variable-known letter place within)
  tree-known (one f a) inside = tree-known a inside
  tree-known (two f a b) inside =
      let parts = or_parts (names_outside (counts_of m) a) (names_outside (counts_of m) b)
      (sym (list_any-append (is_outside (counts_of m)) (variables_of a) (variables_of b)) ∙ inside) in
      let left = tree-known a parts.0 in
      let right = tree-known b parts.1 in
      ap (list_all (is_declared before)) (map-append index_of_variable (variables_of (indexed a)) (variables_of (indexed b)))
      ∙ list_all-append (is_declared before) (map index_of_variable (variables_of (indexed a))) (map index_of_variable (variables_of (indexed b)))
      ∙ (λ i. left i && right i)

  -- those of the expression of a record, of which its bytes hold the text
  pub expression-known : (p : SpelledRecord) (span : Span) (tree : Tree) → expression_of p.row ≡ Some span → text_in p span
      ≡ w.expression shortest tree → IsFittingTree tree
      → names_outside (counts_of m) tree ≡ false → list_all (is_declared before) (named_in_expression p) ≡ true
  expression-known p span tree has text fits inside =
      ap (λ (l : List FileIndex). list_all (is_declared before) l) (named-in p span tree has text fits) ∙ tree-known tree inside

-- ---- records that declare nothing and state nothing once

pub record IsPlain (p : SpelledRecord) : Type 0 where
  pub declares : declared_by p.row ≡ None
  pub states : assigned_by p.row ≡ None

-- such a record keeps to what is before it, if the indexes that it names are declared
pub plain-follows : (before : List SpelledRecord) (p : SpelledRecord) → IsPlain p → list_all (is_declared before) (named_at_once p) ≡ true
    → has_no_section before p.row ≡ false → Follows before p
plain-follows before p its known placed = record {
  new = ap (any_of (is_declared before)) its.declares;
  known = ap not known;
  once = ap (any_of (is_assigned before)) its.states;
  placed = placed;
}

pub plain-declare : (kind : Kind) (records : List SpelledRecord) → AllByRecursion IsPlain records → declared kind records ≡ []
plain-declare kind [] all = refl
plain-declare kind (p ∷ records) all =
    let none = all.0.declares in
    let rest = plain-declare kind records all.1 in
    λ i. cons_option (of_kind kind (none i)) (rest i)

pub plain-unstated : (records : List SpelledRecord) (once : Once) → AllByRecursion IsPlain records → is_assigned records once ≡ false
plain-unstated [] once all = refl
plain-unstated (p ∷ records) once all =
    let none = all.0.states in
    (λ i. list_any (is_same_statement once) (cons_option (none i) (filter_map (λ p. assigned_by p.row) records))) ∙ plain-unstated records once all.1

-- after them the same entries are declared
pub declare-after : (m : Parts) (before xs : List SpelledRecord) → DeclareEntries m before → AllByRecursion IsPlain xs → DeclareEntries m (before ++ xs)
declare-after m before xs its all = declare-more m before xs its (plain-declare section xs all) (plain-declare public xs all) (plain-declare reference xs all)
