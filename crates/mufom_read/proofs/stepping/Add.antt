-- A record without an error may be added after a prefix.
use Rattle.std.proofs.Common.{◌≡◌, ℕ, suc, ◌+◌, ◌≤◌, ◌==◌, ◌&&◌, Bool, true, false, not, true≢false, nat_lt, List, [], ◌∷◌, ◌++◌, length, filter_map}
use Rattle.std.proofs.Common.{Option, Some, None, is_some, cond, refl, sym, ap, subst, ◌∙◌, arith, append-nil, le-ltb, ne_eqb, ltb-false, ◌⊎◌, inl}
use Rattle.std.proofs.Common.{inr}
use Rattle.std.specs.List.{list_any, cons_option}
use Rattle.std.specs.Option.{option_or}
use Rattle.std.proofs.lemmas.Bool.{or_parts, cases_eq}
use Rattle.mufom_numbers.specs.declared.reason.Reason.{Reason}
use Rattle.mufom_numbers.specs.declared.reason.Reason.TheVariants as why
use Rattle.mufom_records.specs.declared.record.Record.{Record}
use Rattle.mufom_records.specs.declared.record.Record.TheVariants as r
use Rattle.mufom_module.specs.SpelledRecords.{SpelledRecord, section, public, reference, debug_name, of_kind, declared_by, assigned_by}
use Rattle.mufom_module.specs.RecordParts.{Part, end_part, stands_in}
use Rattle.mufom_module.specs.Grammar.{offset_in, declares_again, states_again, names_unknown, has_no_section, Follows, file_limit}
use Rattle.mufom_read.specs.declared.prefix.Prefix.{Prefix}
use Rattle.mufom_read.specs.declared.prefix.Location as code
use Rattle.mufom_read.specs.declared.prefix.Location.TheVariants as offset
use Rattle.mufom_judging.specs.Prefixes.{Step, Extent, records_of, offset_records_of, offsets_of, record_of}
use Rattle.mufom_judging.specs.Faults.{Fault, fault_if, fault_for, OpenBlock, open_blocks, ends_badly, is_too_deep, misplaces_counter, record_fault}
use Rattle.mufom_judging.specs.Faults.{part_record_fault, rule_broken, has_bad_alignment, is_out_of_order}
use Rattle.mufom_read.specs.PartsOfCode.{as_extent}
use Rattle.mufom_read.specs.Kept.{as_record, tables_of, is_new, statements, alignment_stated, size_stated, base_stated, value_stated, weakness_stated, HasRoom}
use Rattle.mufom_judging.specs.RecordFields.{HasKind}
use Rattle.mufom_read.specs.PrefixOfCode.{AreFrom, AreOrdered, IsPrefixOf, IsAddable, IsHeaderRow, IsPlacedWell, as_location}
use Rattle.mufom_read.proofs.RuleLaws.{declares, states}

-- ---- what holds if there is no error

nothing : {A : Type 0} {x : A} → Some x ≡ None → ⊥
nothing e = true≢false (ap is_some e)

none_of : {A : Type 0} (a b : Option A) → option_or a b ≡ None → (a ≡ None) × (b ≡ None)
none_of None b e = (refl, e)
none_of (Some x) b e = absurd (nothing e)

no_fault : (test : Bool) (start : ℕ) (reason : Reason) → fault_if test start reason ≡ None → test ≡ false
no_fault true start reason e = absurd (nothing e)
no_fault false start reason e = refl

no_reason : (start : ℕ) (o : Option Reason) → fault_for start o ≡ None → o ≡ None
no_reason start None e = refl
no_reason start (Some reason) e = absurd (nothing e)

no_first : {A : Type 0} (test : Bool) (x : A) (o : Option A) → cond test (Some x) o ≡ None → (test ≡ false) × (o ≡ None)
no_first true x o e = absurd (nothing e)
no_first false x o e = (refl, e)

-- ---- the error of a record in a part

-- if the record ends within the part and belongs to it, its error is that of the rules
pub part-clean : (prefix : List Step) (e : Extent) (start : ℕ) (p : SpelledRecord) (o : Option Fault) → start + length p.bytes ≤ e.to
    → stands_in e.part p.row ≡ true
    → o ≡ fault_for start (rule_broken prefix p) → o ≡ part_record_fault prefix e start p
part-clean prefix e start p o within stands same =
    let after = fault_for start (rule_broken prefix p) in
    same ∙ sym (ap (λ b. option_or (fault_if b start why.PartGap) (option_or (fault_if (not (stands_in e.part p.row)) start why.WrongPart) after))
    (le-ltb _ _ within)
    ∙ ap (λ b. option_or (fault_if (not b) start why.WrongPart) after) stands)

-- ---- a record of a part has no offset

no_offset : (part : Part) (row : Record) → stands_in part row ≡ true → offset_in row ≡ None
no_offset part (r.ModuleBegin a b) stands = absurd (true≢false (sym stands))
no_offset part (r.Descriptor a b c) stands = absurd (true≢false (sym stands))
no_offset part (r.Offset a b) stands = absurd (true≢false (sym stands))
no_offset part r.ModuleEnd stands = refl
no_offset part (r.SectionType a b c d e f g) stands = refl
no_offset part (r.Alignment a b c) stands = refl
no_offset part (r.SectionSize a b) stands = refl
no_offset part (r.SectionBase a b) stands = refl
no_offset part (r.PublicName a b) stands = refl
no_offset part (r.PublicValue a b) stands = refl
no_offset part (r.PublicNote a b c d) stands = refl
no_offset part (r.ReferenceName a b) stands = refl
no_offset part (r.WeakReference a b c) stands = refl
no_offset part (r.ReferenceNote a b c d) stands = refl
no_offset part (r.BlockBegin a b c d) stands = refl
no_offset part (r.BlockEnd a) stands = refl
no_offset part (r.DebugName a b) stands = refl
no_offset part (r.DebugValue a b) stands = refl
no_offset part (r.DebugNote a b c d) stands = refl
no_offset part (r.SetSection a) stands = refl
no_offset part (r.SetPc a b) stands = refl
no_offset part (r.Constant a) stands = refl
no_offset part r.Relocate stands = refl
no_offset part (r.ConstantItem a) stands = refl
no_offset part (r.FieldItem a b c) stands = refl
no_offset part (r.RepeatConstant a b) stands = refl
no_offset part (r.RepeatRelocate a) stands = refl
no_offset part (r.Start a) stands = refl

-- ---- the order of offsets

same_order : (os : List ℕ) (o : Option ℕ) → o ≡ None → AreOrdered os → AreOrdered (os ++ cons_option o [])
same_order os o none is = subst (λ x. AreOrdered (os ++ cons_option x [])) (sym none) (subst AreOrdered (sym (append-nil os)) is)

in_order : (w : ℕ) (os : List ℕ) → (not (w == 0) && list_any (λ e. nat_lt w e) os) ≡ false → (w ≡ 0) ⊎ (list_any (λ e. nat_lt w e) os ≡ false)
in_order w os test = by_case (cases_eq w 0) where
  by_case : ((w ≡ 0) ⊎ (w ≡ 0 → ⊥)) → (w ≡ 0) ⊎ (list_any (λ e. nat_lt w e) os ≡ false)
  by_case (inl e) = inl e
  by_case (inr d) = inr (subst (λ b. (not b && list_any (λ e. nat_lt w e) os) ≡ false) (ne_eqb w 0 d) test)

from_next : (v w : ℕ) (os : List ℕ) → AreFrom v os → ((w ≡ 0) ⊎ (v ≤ w)) → AreFrom v (os ++ w ∷ [])
from_next v w [] is here = (here, tt)
from_next v w (u ∷ os) is here = (is.0, from_next v w os is.1 here)

ordered_next : (os : List ℕ) (w : ℕ) → ((w ≡ 0) ⊎ (list_any (λ e. nat_lt w e) os ≡ false)) → AreOrdered os → AreOrdered (os ++ w ∷ [])
ordered_next [] w test is = (tt, tt)
ordered_next (v ∷ os) w (inl e) is = (from_next v w os is.0 (inl e), ordered_next os w (inl e) is.1)
ordered_next (v ∷ os) w (inr test) is = let both = or_parts _ _ test in
    (from_next v w os is.0 (inr (ltb-false w v both.0)), ordered_next os w (inr both.1) is.1)

-- ---- records that may be added

no_end : (blocks : List OpenBlock) (row : Record) → IsHeaderRow row → ends_badly blocks row ≡ false
no_end [] (r.ModuleBegin a b) is = refl
no_end [] (r.Descriptor a b c) is = refl
no_end [] (r.Offset a b) is = refl
no_end [] row is = absurd is
no_end (x ∷ blocks) (r.ModuleBegin a b) is = refl
no_end (x ∷ blocks) (r.Descriptor a b c) is = refl
no_end (x ∷ blocks) (r.Offset a b) is = refl
no_end (x ∷ blocks) row is = absurd is

no_blocks : (blocks : List OpenBlock) (row : Record) → stands_in end_part row ≡ true → ends_badly blocks row ≡ false
no_blocks [] r.ModuleEnd stands = refl
no_blocks [] row stands = cc
no_blocks (x ∷ blocks) r.ModuleEnd stands = refl
no_blocks (x ∷ blocks) row stands = cc

header_row : (prefix : List Step) (k start : ℕ) (bytes : List ℕ) (row : Record) → IsHeaderRow row
    → record_fault prefix (as_location (offset.Header k)) start (record { row = row; bytes = bytes }) ≡ None → IsAddable prefix row
header_row prefix k start bytes (r.ModuleBegin a b) is clean =
    record {
      new = refl;
      kind = tt;
      nested = no_end (open_blocks (offset_records_of prefix)) (r.ModuleBegin a b) is;
      ordered =
          same_order (offsets_of prefix) None refl;
    }
header_row prefix k start bytes (r.Descriptor a b c) is clean =
    record {
      new = refl;
      kind = tt;
      nested = no_end (open_blocks (offset_records_of prefix)) (r.Descriptor a b c) is;
      ordered =
          same_order (offsets_of prefix) None refl;
    }
header_row prefix k start bytes (r.Offset n w) is clean = record {
  new = refl;
  kind = tt;
  nested = no_end (open_blocks (offset_records_of prefix)) (r.Offset n w) is;
  ordered = ordered_next (offsets_of prefix) w (in_order w (offsets_of prefix)
      (or_parts _ _ (no_fault (is_out_of_order (offsets_of prefix) w) start why.OffsetOrder (none_of _ _ clean).0)).0);
}
header_row prefix k start bytes row is clean = absurd is

end_new : (prefix : List Step) (row : Record) → stands_in end_part row ≡ true → is_new (tables_of (records_of prefix)) row ≡ true
end_new prefix r.ModuleEnd stands = refl
end_new prefix row stands = cc

end_kind : (row : Record) → stands_in end_part row ≡ true → HasKind row
end_kind r.ModuleEnd stands = tt
end_kind row stands = cc

end_row : (prefix : List Step) (row : Record) → stands_in end_part row ≡ true → IsAddable prefix row
end_row prefix row stands = record {
  new = end_new prefix row stands;
  kind = end_kind row stands;
  nested = no_blocks (open_blocks (offset_records_of prefix)) row stands;
  ordered = same_order (offsets_of prefix) _ (no_offset end_part row stands);
}

not_not : (b : Bool) → not b ≡ false → b ≡ true
not_not true e = refl
not_not false e = absurd (true≢false e)

both_new : (a b : Bool) → a ≡ false → b ≡ false → (not a && not b) ≡ true
both_new false false e h = refl
both_new false true e h = absurd (true≢false h)
both_new true b e h = absurd (true≢false e)

part_row : (prefix : List Step) (e : Extent) (start : ℕ) (p : SpelledRecord) → HasKind p.row → part_record_fault prefix e start p ≡ None
    → IsAddable prefix p.row
part_row prefix e start p kind clean =
    let after = none_of _ _ clean in
    let more = none_of _ _ after.1 in
    let stands : stands_in e.part p.row ≡ true = not_not _ (no_fault _ _ _ more.0) in
    let unbroken = no_reason start _ more.1 in
    let first = no_first (declares_again (records_of prefix) p.row) _ _ unbroken in
    let second = no_first (names_unknown (records_of prefix) p) _ _ first.1 in
    let third = no_first (states_again (records_of prefix) p.row) _ _ second.1 in
    let fourth = no_first (has_bad_alignment p.row) _ _ third.1 in
    let fifth = no_first (has_no_section (records_of prefix) p.row) _ _ fourth.1 in
    let sixth = no_first (misplaces_counter (records_of prefix) p) _ _ fifth.1 in
    let seventh = no_first (ends_badly (open_blocks (offset_records_of prefix)) p.row) why.BlockNesting
    (cond (is_too_deep (open_blocks (offset_records_of prefix)) p.row) (Some why.Depth) None) sixth.1 in
    record {
      new = both_new _ _ (declares (records_of prefix) p.row ∙ first.0) (states (records_of prefix) p.row ∙ third.0);
      kind = kind;
      nested = seventh.0;
      ordered = same_order (offsets_of prefix) _ (no_offset e.part p.row stands);
    }

header_follows : (before : List SpelledRecord) (row : Record) (bytes : List ℕ) → IsHeaderRow row → Follows before (as_record row bytes)
header_follows before (r.ModuleBegin a b) bytes is = record { new = refl; known = refl; once = refl; placed = refl }
header_follows before (r.Descriptor a b c) bytes is = record { new = refl; known = refl; once = refl; placed = refl }
header_follows before (r.Offset a b) bytes is = record { new = refl; known = refl; once = refl; placed = refl }
header_follows before row bytes is = absurd is

end_follows : (before : List SpelledRecord) (row : Record) (bytes : List ℕ) → stands_in end_part row ≡ true → Follows before (as_record row bytes)
end_follows before r.ModuleEnd bytes h = record { new = refl; known = refl; once = refl; placed = refl }
end_follows before (r.ModuleBegin a b) bytes h = absurd (true≢false (sym h))
end_follows before (r.Descriptor a b c) bytes h = absurd (true≢false (sym h))
end_follows before (r.Offset a b) bytes h = absurd (true≢false (sym h))
end_follows before row bytes h = absurd (true≢false (sym h))

part_follows : (prefix : List Step) (e : Extent) (start : ℕ) (p : SpelledRecord) → part_record_fault prefix e start p ≡ None → Follows (records_of prefix) p
part_follows prefix e start p clean =
    let unbroken = no_reason start _ (none_of _ _ (none_of _ _ clean).1).1 in
    let first = no_first (declares_again (records_of prefix) p.row) _ _ unbroken in
    let second = no_first (names_unknown (records_of prefix) p) _ _ first.1 in
    let third = no_first (states_again (records_of prefix) p.row) _ _ second.1 in
    let fourth = no_first (has_bad_alignment p.row) _ _ third.1 in
    let fifth = no_first (has_no_section (records_of prefix) p.row) _ _ fourth.1 in
    record { new = first.0; known = second.0; once = third.0; placed = fifth.0 }

-- a record without an error at its location keeps the rules after those before it
pub follows-at : (prefix : List Step) (at : code.Location) (start : ℕ) (p : SpelledRecord) → IsPlacedWell at p.row
    → record_fault prefix (as_location at) start p ≡ None → Follows (records_of prefix) p
follows-at prefix (offset.Header k) start p well clean = header_follows (records_of prefix) p.row p.bytes well.0
follows-at prefix (offset.Part e) start p well clean = part_follows prefix (as_extent e) start p clean
follows-at prefix offset.End start p well clean = end_follows (records_of prefix) p.row p.bytes (not_not _ (no_fault _ _ _ clean))

-- a record without an error at its location may be added
pub addable : (prefix : List Step) (at : code.Location) (start : ℕ) (p : SpelledRecord) → IsPlacedWell at p.row
    → record_fault prefix (as_location at) start p ≡ None → IsAddable prefix p.row
addable prefix (offset.Header k) start p well clean = header_row prefix k start p.bytes p.row well.0 clean
addable prefix (offset.Part e) start p well clean = part_row prefix (as_extent e) start p well clean
addable prefix offset.End start p well clean = end_row prefix p.row (not_not _ (no_fault _ _ _ clean))

-- ---- room

fewer : {A B : Type 0} (f : A → Option B) (xs : List A) → length (filter_map f xs) ≤ length xs
fewer f [] = omega arith
fewer {B = B} f (x ∷ xs) = by_case (f x) (fewer f xs) where
  by_case : (o : Option B) → length (filter_map f xs) ≤ length xs → length (cons_option o (filter_map f xs)) ≤ suc (length xs)
  by_case None le = omega (arith, le)
  by_case (Some y) le = omega (arith, le)

-- no table is full while the prefix is within the limit
pub room : (f : Prefix) (prefix : List Step) → IsPrefixOf f prefix → f.size ≤ file_limit → HasRoom f.tables
room f prefix is within =
    let ps = records_of prefix in
    let few : length ps ≤ file_limit = omega (arith, fewer record_of prefix, is.few, is.size, within) in
    subst HasRoom (sym is.tables) (record {
      sections = omega (arith, few, fewer (λ p. of_kind section (declared_by p.row)) ps);
      publics = omega (arith, few, fewer (λ p. of_kind public (declared_by p.row)) ps);
      references = omega (arith, few, fewer (λ p. of_kind reference (declared_by p.row)) ps);
      debug_names = omega (arith, few, fewer (λ p. of_kind debug_name (declared_by p.row)) ps);
      alignments = omega (arith, few, fewer (λ p. assigned_by p.row) ps, fewer alignment_stated (statements ps));
      sizes = omega (arith, few, fewer (λ p. assigned_by p.row) ps, fewer size_stated (statements ps));
      bases = omega (arith, few, fewer (λ p. assigned_by p.row) ps, fewer base_stated (statements ps));
      values = omega (arith, few, fewer (λ p. assigned_by p.row) ps, fewer value_stated (statements ps));
      weaknesses = omega (arith, few, fewer (λ p. assigned_by p.row) ps, fewer weakness_stated (statements ps));
    })
