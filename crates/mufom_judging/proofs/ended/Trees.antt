-- Trees with positions in place of indexes: each position is that of an entry, and a program counter stays that of its section.
use Rattle.std.proofs.Common.{◌≡◌, ℕ, ◌<◌, ◌≤◌, Bool, true, false, cond, not, ◌==◌, nat_lt, nat_le, List, [], ◌∷◌, ◌++◌, length, map, position}
use Rattle.std.proofs.Common.{Option, Some, None, option_map, option_to_list, unwrap_or, refl, sym, ap, subst, ◌∙◌, arith, append-nil, eqb-true}
use Rattle.std.proofs.Common.{eq-eqb, ltb-true}
use Rattle.std.specs.List.{list_all, list_any, position_or_len}
use Rattle.std.proofs.lemmas.Bool.{and_parts, or_parts, and_from, or_from, or_left, not-false, not_from_true}
use Rattle.std.proofs.lemmas.List.{map-append}
use Rattle.std.proofs.lemmas.List.Elements.{filter_map-append}
use Rattle.std.proofs.lemmas.List.Folds.{list_any-append, list_all-append}
use Rattle.mufom_numbers.specs.declared.taken.Span.{Span}
use Rattle.mufom_expr.specs.declared.token.Letter.{Letter}
use Rattle.mufom_expr.specs.declared.token.Letter.TheVariants.{I, L, P, R, S, X}
use Rattle.mufom_expr.specs.Tree.{Tree, number, variable, one, two}
use Rattle.mufom_expr.specs.Value.{variables_of, with_variables}
use Rattle.mufom_expr.specs.Spelled.{Indexes}
use Rattle.mufom_records.specs.Parts.{expression_of}
use Rattle.mufom_debug.specs.Marks.{joined}
use Rattle.mufom_module.specs.declared.module.Parts.{Parts}
use Rattle.mufom_module.specs.Contents.{any_of}
use Rattle.mufom_module.specs.Defects.{counts_of, is_outside, names_outside, is_this, is_other_counter, has_other_counter}
use Rattle.mufom_module.specs.SpelledRecords.{SpelledRecord, Kind, section, public, reference, FileIndex, kind_of_letter, of_kind, declared_by}
use Rattle.mufom_module.specs.SpelledRecords.{declared, is_declared, tree_in, named_by, index_of_variable, named_in_expression}
use Rattle.mufom_module.specs.SpelledRecords.{is_public_value, named_at_once, position_in, positioned_variable, positioned}
use Rattle.mufom_module.specs.Grammar.{names_unknown}
use Rattle.mufom_judging.specs.Faults.{counter_allowed, misplaces_counter}
use Rattle.mufom_judging.specs.Stated.{indexes_in}

-- ---- positions

below_or_first : (k n : ℕ) → 1 ≤ n → (test : Bool) → nat_lt k n ≡ test → unwrap_or (cond test (Some k) None) 0 < n
below_or_first k n some true e = ltb-true k n e
below_or_first k n some false e = omega arith

position_below : (indexes : List ℕ) (i : ℕ) → 1 ≤ length indexes → position_in indexes i < length indexes
position_below indexes i some = below_or_first (position_or_len (λ j. j == i) indexes) (length indexes) some
    (nat_lt (position_or_len (λ j. j == i) indexes) (length indexes)) refl

found_in : (test : ℕ → Bool) (indexes : List ℕ) → list_any test indexes ≡ true → 1 ≤ length indexes
found_in test [] h = cc
found_in test (i ∷ indexes) h = omega arith

-- an index that is declared has a position
pub declared_below : (all : List SpelledRecord) (kind : Kind) (i : ℕ) → is_declared all (kind, i) ≡ true
    → position_in (declared kind all) i < length (declared kind all)
declared_below all kind i h = position_below (declared kind all) i (found_in (λ j. j == i) (declared kind all) h)

-- ---- the variables of a tree with positions

pub renamed : (rename : Letter → ℕ → Letter × ℕ) (tree : Tree) → variables_of (with_variables rename tree) ≡ map (λ v. rename v.0 v.1) (variables_of tree)
renamed rename (number n) = refl
renamed rename (variable letter n) = refl
renamed rename (one f a) = renamed rename a
renamed rename (two f a b) = (λ i. renamed rename a i ++ renamed rename b i)
    ∙ sym (map-append (λ (v : Letter × ℕ). rename v.0 v.1) (variables_of a) (variables_of b))

-- the variables of a tree are declared
abbrev pub IsKnown : List SpelledRecord → Tree → Type 0
IsKnown all tree = list_all (is_declared all) (map index_of_variable (variables_of tree)) ≡ true

-- the module has as many entries as the index lists
pub record AreCounts (m : Parts) (ix : Indexes) : Type 0 where
  pub sections : length m.sections ≡ length ix.sections
  pub publics : length m.names.publics ≡ length ix.publics
  pub references : length m.names.references ≡ length ix.references

none_outside : (n : ℕ) (position : ℕ) → position < n → nat_le n position ≡ false
none_outside n position h = grind arith

inside_variable : (all : List SpelledRecord) (m : Parts) → AreCounts m (indexes_in all) → (letter : Letter) (i : ℕ)
    → is_declared all (kind_of_letter letter, i) ≡ true → is_outside (counts_of m) (positioned_variable (indexes_in all) letter i) ≡ false
inside_variable all m are I i h = let below = declared_below all public i h in
    none_outside (length m.names.publics) (position_in (declared public all) i) (omega (arith, are.publics))
inside_variable all m are X i h = let below = declared_below all reference i h in
    none_outside (length m.names.references) (position_in (declared reference all) i) (omega (arith, are.references))
inside_variable all m are L i h = let below = declared_below all section i h in
    none_outside (length m.sections) (position_in (declared section all) i) (omega (arith, are.sections))
inside_variable all m are P i h = let below = declared_below all section i h in
    none_outside (length m.sections) (position_in (declared section all) i) (omega (arith, are.sections))
inside_variable all m are R i h = let below = declared_below all section i h in
    none_outside (length m.sections) (position_in (declared section all) i) (omega (arith, are.sections))
inside_variable all m are S i h = let below = declared_below all section i h in
    none_outside (length m.sections) (position_in (declared section all) i) (omega (arith, are.sections))

inside_variables : (all : List SpelledRecord) (m : Parts) → AreCounts m (indexes_in all) → (variables : List (Letter × ℕ))
    → list_all (is_declared all) (map index_of_variable variables) ≡ true
    → list_any (is_outside (counts_of m)) (map (λ v. positioned_variable (indexes_in all) v.0 v.1) variables) ≡ false
inside_variables all m are [] h = refl
inside_variables all m are (v ∷ variables) h =
    let both = and_parts (is_declared all (index_of_variable v)) _ h in
    or_from _ _ (inside_variable all m are v.0 v.1 both.0) (inside_variables all m are variables both.1)

-- no variable of the tree with positions lies outside
pub inside : (all : List SpelledRecord) (m : Parts) (tree : Tree) → AreCounts m (indexes_in all) → IsKnown all tree
    → names_outside (counts_of m) (positioned (indexes_in all) tree) ≡ false
inside all m tree are h = ap (list_any (is_outside (counts_of m))) (renamed (positioned_variable (indexes_in all)) tree)
    ∙ inside_variables all m are (variables_of tree) h

-- ---- program counters

-- the position of the section
abbrev pub placed_section : Indexes → Option ℕ → Option ℕ
placed_section ix o = option_map (λ i. position_in ix.sections i) o

same_counter : (ix : Indexes) (allowed : Option ℕ) (i : ℕ) → not (is_this allowed i) ≡ false
    → not (is_this (placed_section ix allowed) (position_in ix.sections i)) ≡ false
same_counter ix None i h = h
same_counter ix (Some s) i h =
    let same : s ≡ i = eqb-true s i (not-false (s == i) h) in
    not_from_true (position_in ix.sections s == position_in ix.sections i)
    (eq-eqb (position_in ix.sections s) (position_in ix.sections i) (ap (position_in ix.sections) same))

no_other : (ix : Indexes) (allowed : Option ℕ) (letter : Letter) (i : ℕ) → is_other_counter allowed (letter, i) ≡ false
    → is_other_counter (placed_section ix allowed) (positioned_variable ix letter i) ≡ false
no_other ix allowed I i h = refl
no_other ix allowed L i h = refl
no_other ix allowed P i h = same_counter ix allowed i h
no_other ix allowed R i h = refl
no_other ix allowed S i h = refl
no_other ix allowed X i h = refl

no_others : (ix : Indexes) (allowed : Option ℕ) (variables : List (Letter × ℕ)) → list_any (is_other_counter allowed) variables ≡ false
    → list_any (is_other_counter (placed_section ix allowed)) (map (λ v. positioned_variable ix v.0 v.1) variables) ≡ false
no_others ix allowed [] h = refl
no_others ix allowed (v ∷ variables) h =
    let both = or_parts (is_other_counter allowed v) _ h in
    or_from _ _ (no_other ix allowed v.0 v.1 both.0) (no_others ix allowed variables both.1)

pub own_counter : (ix : Indexes) (allowed : Option ℕ) (tree : Tree) → has_other_counter allowed tree ≡ false
    → has_other_counter (placed_section ix allowed) (positioned ix tree) ≡ false
own_counter ix allowed tree h = ap (list_any (is_other_counter (placed_section ix allowed))) (renamed (positioned_variable ix) tree)
    ∙ no_others ix allowed (variables_of tree) h

-- ---- the tree of a record

pub declared-append : (a b : List SpelledRecord) (index : FileIndex) → is_declared a index ≡ true → is_declared (a ++ b) index ≡ true
declared-append a b index h =
    ap (list_any (λ i. i == index.1)) (filter_map-append (λ p. of_kind index.0 (declared_by p.row)) a b)
    ∙ list_any-append (λ i. i == index.1) (declared index.0 a) (declared index.0 b)
    ∙ or_left (is_declared a index) (is_declared b index) h

pub all_declared-append : (a b : List SpelledRecord) (indexes : List FileIndex) → list_all (is_declared a) indexes ≡ true
    → list_all (is_declared (a ++ b)) indexes ≡ true
all_declared-append a b [] h = refl
all_declared-append a b (index ∷ indexes) h =
    let both = and_parts (is_declared a index) _ h in and_from _ _ (declared-append a b index both.0) (all_declared-append a b indexes both.1)

-- what is known of the indexes of a record stays known
pub known-append : (a b : List SpelledRecord) (p : SpelledRecord) → names_unknown a p ≡ false → names_unknown (a ++ b) p ≡ false
known-append a b p h = not_from_true _ (all_declared-append a b (named_at_once p) (not-false (list_all (is_declared a) (named_at_once p)) h))

-- the index that it refers to is declared
pub named_known : (all : List SpelledRecord) (p : SpelledRecord) (index : FileIndex) → named_by p.row ≡ Some index → names_unknown all p ≡ false
    → is_declared all index ≡ true
named_known all p index e h =
    let rest = cond (is_public_value p.row) [] (named_in_expression p) in
    let whole : list_all (is_declared all) (option_to_list (named_by p.row) ++ rest) ≡ true = not-false _ h in
    let split : list_all (is_declared all) (index ∷ rest) ≡ true =
    subst (λ (o : Option FileIndex). list_all (is_declared all) (option_to_list o ++ rest) ≡ true) e whole in
    (and_parts (is_declared all index) _ split).0

and_second : (test : FileIndex → Bool) (a b : List FileIndex) → list_all test (a ++ b) ≡ true → list_all test b ≡ true
and_second test a b h = (and_parts (list_all test a) (list_all test b) (sym (list_all-append test a b) ∙ h)).1

pub known_named : (all : List SpelledRecord) (p : SpelledRecord) (span : Span) → expression_of p.row ≡ Some span
    → list_all (is_declared all) (named_in_expression p) ≡ true → IsKnown all (tree_in p span)
known_named all p span e h =
    let its : named_in_expression p ≡ map index_of_variable (variables_of (tree_in p span) ++ []) =
    ap (λ (o : Option Span). map index_of_variable (joined (map variables_of (option_to_list (option_map (tree_in p) o))))) e in
    ap (λ vs. list_all (is_declared all) (map index_of_variable vs)) (sym (append-nil (variables_of (tree_in p span))))
    ∙ ap (list_all (is_declared all)) (sym its) ∙ h

-- the variables of its expression are declared, unless it is the value of a public
pub tree_known : (all : List SpelledRecord) (p : SpelledRecord) (span : Span) → expression_of p.row ≡ Some span → is_public_value p.row ≡ false
    → names_unknown all p ≡ false → IsKnown all (tree_in p span)
tree_known all p span e other h =
    let whole : list_all (is_declared all) (option_to_list (named_by p.row) ++ cond (is_public_value p.row) [] (named_in_expression p)) ≡ true =
    not-false _ h in
    let there : list_all (is_declared all) (option_to_list (named_by p.row) ++ named_in_expression p) ≡ true =
    subst (λ (b : Bool). list_all (is_declared all) (option_to_list (named_by p.row) ++ cond b [] (named_in_expression p)) ≡ true) other whole in
    known_named all p span e (and_second (is_declared all) (option_to_list (named_by p.row)) (named_in_expression p) there)

-- its program counter is that of the section whose counter it may use
pub tree_counter : (before : List SpelledRecord) (p : SpelledRecord) (span : Span) → expression_of p.row ≡ Some span → misplaces_counter before p
    ≡ false → has_other_counter (counter_allowed before p.row) (tree_in p span) ≡ false
tree_counter before p span e h = subst (λ (o : Option Span). any_of (has_other_counter (counter_allowed before p.row)) (option_map (tree_in p) o) ≡ false) e h
