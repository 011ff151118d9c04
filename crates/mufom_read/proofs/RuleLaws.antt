-- The rules for a record, read off the tables, are the rules after a prefix.
use Rattle.std.proofs.Common.{◌≡◌, ℕ, ◌&&◌, ◌||◌, Bool, true, false, not, List, [], ◌∷◌, Option, Some, None, is_none, filter_map, map, option_to_list}
use Rattle.std.proofs.Common.{cond, refl, sym, ap, ◌∙◌, append-nil}
use Rattle.std.specs.List.{list_any, list_all, last_or}
use Rattle.std.proofs.lemmas.List.Folds.{list_all-append}
use Rattle.mufom_numbers.specs.declared.reason.Reason.{Reason}
use Rattle.mufom_numbers.specs.declared.reason.Reason.TheVariants as why
use Rattle.mufom_expr.specs.declared.token.Letter.{Letter}
use Rattle.mufom_expr.specs.declared.token.Letter.TheVariants.{I, L, P, R, S, X}
use Rattle.mufom_expr.specs.Tree.{Tree}
use Rattle.mufom_expr.specs.Value.{variables_of}
use Rattle.mufom_records.specs.declared.record.BlockTail.TheVariants as tail
use Rattle.mufom_records.specs.declared.record.Record.{Record}
use Rattle.mufom_records.specs.declared.record.Record.TheVariants as r
use Rattle.std.specs.List.{cons_option}
use Rattle.mufom_debug.specs.Marks.{joined}
use Rattle.mufom_module.specs.Contents.{any_of}
use Rattle.mufom_module.specs.Defects.{has_other_counter}
use Rattle.mufom_module.specs.SpelledRecords.{SpelledRecord, FileIndex, is_declared, named_by, named_in_expression, is_public_value}
use Rattle.mufom_module.specs.SpelledRecords.{index_of_variable, tree_of_record}
use Rattle.mufom_module.specs.RecordParts.{is_loading, is_set_section}
use Rattle.mufom_module.specs.Grammar.{declares_again, states_again, names_unknown, has_no_section}
use Rattle.mufom_judging.specs.Prefixes.{Step, records_of, offset_records_of}
use Rattle.mufom_judging.specs.Faults.{set_by, counter_allowed, misplaces_counter, open_blocks, ends_badly, is_too_deep, has_bad_alignment, rule_broken}
use Rattle.mufom_read.specs.Kept.{tables_of, statements, declares_again_in, states_again_in, is_declared_in, is_unknown, names_unknown_in}
use Rattle.mufom_read.specs.Kept.{has_no_section_in, counter_allowed_in, misplaces_counter_in, rule_broken_in}
use Rattle.mufom_read.proofs.TableLaws.{alignment-has, size-has, base-has, value-has, weakness-has}

pub declares : (ps : List SpelledRecord) (row : Record) → declares_again_in (tables_of ps) row ≡ declares_again ps row
declares ps (r.ModuleBegin a b) = refl
declares ps (r.Descriptor a b c) = refl
declares ps (r.Offset a b) = refl
declares ps r.ModuleEnd = refl
declares ps (r.SectionType a b c d e f g) = refl
declares ps (r.Alignment a b c) = refl
declares ps (r.SectionSize a b) = refl
declares ps (r.SectionBase a b) = refl
declares ps (r.PublicName a b) = refl
declares ps (r.PublicValue a b) = refl
declares ps (r.PublicNote a b c d) = refl
declares ps (r.ReferenceName a b) = refl
declares ps (r.WeakReference a b c) = refl
declares ps (r.ReferenceNote a b c d) = refl
declares ps (r.BlockBegin a b c d) = refl
declares ps (r.BlockEnd a) = refl
declares ps (r.DebugName a b) = refl
declares ps (r.DebugValue a b) = refl
declares ps (r.DebugNote a b c d) = refl
declares ps (r.SetSection a) = refl
declares ps (r.SetPc a b) = refl
declares ps (r.Constant a) = refl
declares ps r.Relocate = refl
declares ps (r.ConstantItem a) = refl
declares ps (r.FieldItem a b c) = refl
declares ps (r.RepeatConstant a b) = refl
declares ps (r.RepeatRelocate a) = refl
declares ps (r.Start a) = refl

pub states : (ps : List SpelledRecord) (row : Record) → states_again_in (tables_of ps) row ≡ states_again ps row
states ps (r.ModuleBegin a b) = refl
states ps (r.Descriptor a b c) = refl
states ps (r.Offset a b) = refl
states ps r.ModuleEnd = refl
states ps (r.SectionType a b c d e f g) = refl
states ps (r.Alignment a b c) = alignment-has a (statements ps)
states ps (r.SectionSize a b) = size-has a (statements ps)
states ps (r.SectionBase a b) = base-has a (statements ps)
states ps (r.PublicName a b) = refl
states ps (r.PublicValue a b) = value-has a (statements ps)
states ps (r.PublicNote a b c d) = refl
states ps (r.ReferenceName a b) = refl
states ps (r.WeakReference a b c) = weakness-has a (statements ps)
states ps (r.ReferenceNote a b c d) = refl
states ps (r.BlockBegin a b c d) = refl
states ps (r.BlockEnd a) = refl
states ps (r.DebugName a b) = refl
states ps (r.DebugValue a b) = refl
states ps (r.DebugNote a b c d) = refl
states ps (r.SetSection a) = refl
states ps (r.SetPc a b) = refl
states ps (r.Constant a) = refl
states ps r.Relocate = refl
states ps (r.ConstantItem a) = refl
states ps (r.FieldItem a b c) = refl
states ps (r.RepeatConstant a b) = refl
states ps (r.RepeatRelocate a) = refl
states ps (r.Start a) = refl

-- ---- indexes that are referred to

named-entry : (ps : List SpelledRecord) (row : Record) → list_all (is_declared_in (tables_of ps)) (option_to_list (named_by row))
    ≡ list_all (is_declared ps) (option_to_list (named_by row))
named-entry ps (r.ModuleBegin a b) = refl
named-entry ps (r.Descriptor a b c) = refl
named-entry ps (r.Offset a b) = refl
named-entry ps r.ModuleEnd = refl
named-entry ps (r.SectionType a b c d e f g) = refl
named-entry ps (r.Alignment a b c) = refl
named-entry ps (r.SectionSize a b) = refl
named-entry ps (r.SectionBase a b) = refl
named-entry ps (r.PublicName a b) = refl
named-entry ps (r.PublicValue a b) = refl
named-entry ps (r.PublicNote a b c d) = refl
named-entry ps (r.ReferenceName a b) = refl
named-entry ps (r.WeakReference a b c) = refl
named-entry ps (r.ReferenceNote a b c d) = refl
named-entry ps (r.BlockBegin a b c tail.Module) = refl
named-entry ps (r.BlockBegin a b c (tail.Scope d e f)) = refl
named-entry ps (r.BlockBegin a b c (tail.Source d)) = refl
named-entry ps (r.BlockBegin a b c (tail.Section d e f)) = refl
named-entry ps (r.BlockEnd a) = refl
named-entry ps (r.DebugName a b) = refl
named-entry ps (r.DebugValue a b) = refl
named-entry ps (r.DebugNote a b c d) = refl
named-entry ps (r.SetSection a) = refl
named-entry ps (r.SetPc a b) = refl
named-entry ps (r.Constant a) = refl
named-entry ps r.Relocate = refl
named-entry ps (r.ConstantItem a) = refl
named-entry ps (r.FieldItem a b c) = refl
named-entry ps (r.RepeatConstant a b) = refl
named-entry ps (r.RepeatRelocate a) = refl
named-entry ps (r.Start a) = refl

declared-variable : (ps : List SpelledRecord) (v : Letter × ℕ) → is_declared_in (tables_of ps) (index_of_variable v) ≡ is_declared ps (index_of_variable v)
declared-variable ps (I, i) = refl
declared-variable ps (L, i) = refl
declared-variable ps (P, i) = refl
declared-variable ps (R, i) = refl
declared-variable ps (S, i) = refl
declared-variable ps (X, i) = refl

known-variables : (ps : List SpelledRecord) (vs : List (Letter × ℕ)) → list_any (is_unknown (tables_of ps)) vs
    ≡ not (list_all (is_declared ps) (map index_of_variable vs))
known-variables ps [] = refl
known-variables ps (v ∷ vs) =
    ap (λ b. not b || list_any (is_unknown (tables_of ps)) vs) (declared-variable ps v)
    ∙ ap (λ b. not (is_declared ps (index_of_variable v)) || b) (known-variables ps vs)
    ∙ or-not (is_declared ps (index_of_variable v)) (list_all (is_declared ps) (map index_of_variable vs)) where
      or-not : (a b : Bool) → (not a || not b) ≡ not (a && b)
      or-not true b = refl
      or-not false b = refl

-- the variables of an expression, if there is one
pub known-tree : (ps : List SpelledRecord) (tree : Option Tree) → any_of (λ t. list_any (is_unknown (tables_of ps)) (variables_of t)) tree
    ≡ not (list_all (is_declared ps) (map index_of_variable (joined (map variables_of (option_to_list tree)))))
known-tree ps None = refl
known-tree ps (Some t) = known-variables ps (variables_of t)
    ∙ ap (λ vs. not (list_all (is_declared ps) (map index_of_variable vs))) (sym (append-nil (variables_of t)))

unknown : (ps : List SpelledRecord) (p : SpelledRecord) → names_unknown_in (tables_of ps) p.row (tree_of_record p) ≡ names_unknown ps p
unknown ps p =
    ap (λ b. not b || (not (is_public_value p.row) && any_of (λ t. list_any (is_unknown (tables_of ps)) (variables_of t)) (tree_of_record p)))
    (named-entry ps p.row)
    ∙ ap (λ b. not (entry) || (not (is_public_value p.row) && b)) (known-tree ps (tree_of_record p))
    ∙ by_case entry (is_public_value p.row)
    ∙ ap not (sym (list_all-append (is_declared ps) (option_to_list (named_by p.row)) (if_waits (is_public_value p.row)))) where
      entry : Bool
      entry = list_all (is_declared ps) (option_to_list (named_by p.row))

      if_waits : Bool → List FileIndex
      if_waits b = cond b [] (named_in_expression p)

      by_case : (a b : Bool) → (not a || (not b && not (list_all (is_declared ps) (named_in_expression p))))
          ≡ not (a && list_all (is_declared ps) (cond b [] (named_in_expression p)))
      by_case true true = refl
      by_case true false = refl
      by_case false b = refl

-- ---- the current section

current-from : (o : Option ℕ) (ps : List SpelledRecord) → is_none (last_or o (filter_map (λ p. set_by p.row) ps))
    ≡ (is_none o && not (list_any (λ q. is_set_section q.row) ps))
current-from None [] = refl
current-from (Some i) [] = refl
current-from o (p ∷ ps) = by_row p.row (λ o. current-from o ps) where
  nothing : (o : Option ℕ) → (is_none o && false) ≡ false
  nothing None = refl
  nothing (Some i) = refl

  by_row : (row : Record) → ((o : Option ℕ) → is_none (last_or o (filter_map (λ q. set_by q.row) ps))
      ≡ (is_none o && not (list_any (λ q. is_set_section q.row) ps)))
      → is_none (last_or o (cons_option (set_by row) (filter_map (λ q. set_by q.row) ps)))
      ≡ (is_none o && not (is_set_section row || list_any (λ q. is_set_section q.row) ps))
  by_row (r.ModuleBegin a b) rest = rest o
  by_row (r.Descriptor a b c) rest = rest o
  by_row (r.Offset a b) rest = rest o
  by_row r.ModuleEnd rest = rest o
  by_row (r.SectionType a b c d e f g) rest = rest o
  by_row (r.Alignment a b c) rest = rest o
  by_row (r.SectionSize a b) rest = rest o
  by_row (r.SectionBase a b) rest = rest o
  by_row (r.PublicName a b) rest = rest o
  by_row (r.PublicValue a b) rest = rest o
  by_row (r.PublicNote a b c d) rest = rest o
  by_row (r.ReferenceName a b) rest = rest o
  by_row (r.WeakReference a b c) rest = rest o
  by_row (r.ReferenceNote a b c d) rest = rest o
  by_row (r.BlockBegin a b c d) rest = rest o
  by_row (r.BlockEnd a) rest = rest o
  by_row (r.DebugName a b) rest = rest o
  by_row (r.DebugValue a b) rest = rest o
  by_row (r.DebugNote a b c d) rest = rest o
  by_row (r.SetSection a) rest = rest (Some a) ∙ sym (nothing o)
  by_row (r.SetPc a b) rest = rest o
  by_row (r.Constant a) rest = rest o
  by_row r.Relocate rest = rest o
  by_row (r.ConstantItem a) rest = rest o
  by_row (r.FieldItem a b c) rest = rest o
  by_row (r.RepeatConstant a b) rest = rest o
  by_row (r.RepeatRelocate a) rest = rest o
  by_row (r.Start a) rest = rest o

no-section : (ps : List SpelledRecord) (row : Record) → has_no_section_in (tables_of ps) row ≡ has_no_section ps row
no-section ps row = ap (λ b. is_loading row && b) (current-from None ps)

allowed : (ps : List SpelledRecord) (row : Record) → counter_allowed_in (tables_of ps) row ≡ counter_allowed ps row
allowed ps (r.ModuleBegin a b) = refl
allowed ps (r.Descriptor a b c) = refl
allowed ps (r.Offset a b) = refl
allowed ps r.ModuleEnd = refl
allowed ps (r.SectionType a b c d e f g) = refl
allowed ps (r.Alignment a b c) = refl
allowed ps (r.SectionSize a b) = refl
allowed ps (r.SectionBase a b) = refl
allowed ps (r.PublicName a b) = refl
allowed ps (r.PublicValue a b) = refl
allowed ps (r.PublicNote a b c d) = refl
allowed ps (r.ReferenceName a b) = refl
allowed ps (r.WeakReference a b c) = refl
allowed ps (r.ReferenceNote a b c d) = refl
allowed ps (r.BlockBegin a b c d) = refl
allowed ps (r.BlockEnd a) = refl
allowed ps (r.DebugName a b) = refl
allowed ps (r.DebugValue a b) = refl
allowed ps (r.DebugNote a b c d) = refl
allowed ps (r.SetSection a) = refl
allowed ps (r.SetPc a b) = refl
allowed ps (r.Constant a) = refl
allowed ps r.Relocate = refl
allowed ps (r.ConstantItem a) = refl
allowed ps (r.FieldItem a b c) = refl
allowed ps (r.RepeatConstant a b) = refl
allowed ps (r.RepeatRelocate a) = refl
allowed ps (r.Start a) = refl

misplaced : (ps : List SpelledRecord) (p : SpelledRecord) → misplaces_counter_in (tables_of ps) p.row (tree_of_record p) ≡ misplaces_counter ps p
misplaced ps p = ap (λ o. any_of (has_other_counter o) (tree_of_record p)) (allowed ps p.row)

-- ---- all of them

-- the first of eight rules that is broken
abbrev first_broken : (a b c d e f g h : Bool) → Option Reason
first_broken a b c d e f g h = cond a (Some why.DuplicateIndex)
    (cond b (Some why.UnknownIndex) (cond c (Some why.DuplicateValue) (cond d (Some why.BadAlignment)
    (cond e (Some why.NoSection) (cond f (Some why.BadP) (cond g (Some why.BlockNesting) (cond h (Some why.Depth) None)))))))

-- The rule that the tables show to be broken is the first that the record breaks.
pub rule_broken-tables : (prefix : List Step) (p : SpelledRecord)
    → rule_broken_in (tables_of (records_of prefix)) (open_blocks (offset_records_of prefix)) p.row (tree_of_record p) ≡ rule_broken prefix p
rule_broken-tables prefix p =
    let ps = records_of prefix in
    let t = tables_of ps in
    let row = p.row in
    let g = ends_badly (open_blocks (offset_records_of prefix)) row in
    let h = is_too_deep (open_blocks (offset_records_of prefix)) row in
    ap (λ x. first_broken x (names_unknown_in t row (tree_of_record p)) (states_again_in t row) (has_bad_alignment row) (has_no_section_in t row)
    (misplaces_counter_in t row (tree_of_record p)) g h) (declares ps row)
    ∙ ap (λ x. first_broken (declares_again ps row) x (states_again_in t row) (has_bad_alignment row) (has_no_section_in t row)
    (misplaces_counter_in t row (tree_of_record p)) g h) (unknown ps p)
    ∙ ap (λ x. first_broken (declares_again ps row) (names_unknown ps p) x (has_bad_alignment row) (has_no_section_in t row)
    (misplaces_counter_in t row (tree_of_record p)) g h) (states ps row)
    ∙ ap (λ x. first_broken (declares_again ps row) (names_unknown ps p) (states_again ps row) (has_bad_alignment row) x
    (misplaces_counter_in t row (tree_of_record p)) g h) (no-section ps row)
    ∙ ap (λ x. first_broken (declares_again ps row) (names_unknown ps p) (states_again ps row) (has_bad_alignment row) (has_no_section ps row) x g h)
    (misplaced ps p)
