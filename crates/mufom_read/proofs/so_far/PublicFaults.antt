-- The first error of the external part, found among those of its publics.
use Rattle.std.proofs.Common.{◌≡◌, ◌⊎◌, inl, inr, ℕ, suc, ◌+◌, ◌≤◌, ◌<◌, ◌==◌, ◌||◌, Bool, true, false, not, true≢false, cond, List, [], ◌∷◌, ◌++◌}
use Rattle.std.proofs.Common.{filter_map, slice_get, Option, Some, None, is_some, refl, sym, ap, subst, ◌∙◌, arith, append_assoc, eq-eqb, length}
use Rattle.std.proofs.Common.{drop, get_or}
use Rattle.std.proofs.Math.Seq.{drop-cons}
use Rattle.std.proofs.lemmas.List.{drop_all}
use Rattle.std.specs.Prelude.{unwrap_or}
use Rattle.std.specs.Option.{option_or}
use Rattle.std.specs.List.{cons_option, list_any}
use Rattle.std.proofs.lemmas.List.Elements.{filter_map-append}
use Rattle.mufom_numbers.specs.declared.reason.Reason.{Reason}
use Rattle.mufom_numbers.specs.declared.reason.Reason.TheVariants as why
use Rattle.mufom_expr.specs.Tree.{Tree, number}
use Rattle.mufom_expr.specs.Value.{variables_of}
use Rattle.mufom_records.specs.declared.record.Record.{Record}
use Rattle.mufom_records.specs.declared.record.Record.TheVariants as r
use Rattle.mufom_names.specs.declared.name.Public.{Public}
use Rattle.mufom_module.specs.SpelledRecords.{SpelledRecord, public, of_kind, declared_by, is_declared, tree_in}
use Rattle.mufom_module.specs.Gathered.{value_for}
use Rattle.mufom_module.specs.Grammar.{Follows, FollowFrom}
use Rattle.mufom_read.specs.declared.tables.Tables.{Tables}
use Rattle.mufom_read.specs.declared.publics.PublicMark.{PublicMark}
use Rattle.mufom_judging.specs.Prefixes.{OffsetRecord}
use Rattle.mufom_judging.specs.Faults.{Fault, fault_if, first_fault, external_fault}
use Rattle.mufom_read.specs.Kept.{tables_of, statements, has, is_unknown, external_fault_in}
use Rattle.mufom_read.specs.NamesSoFar.{unplaced_value, unplaced_by, unplaced_publics, value_start_for, public_mark_by, public_marks, value_fault}
use Rattle.mufom_read.specs.NamesSoFar.{mark_of, public_faults, earlier, least_from, AreRising, records_in}
use Rattle.mufom_read.proofs.TableLaws.{value-has}
use Rattle.mufom_read.proofs.WholeLaws.{external_fault-tables}
use Rattle.mufom_judging.proofs.ended.Trees.{named_known}
use Rattle.mufom_read.proofs.so_far.FollowLaws.{value-unstated}
use Rattle.mufom_read.proofs.so_far.ReferenceSteps.{same_index}
use Rattle.mufom_read.proofs.so_far.MarkSteps.{no-start, value-started}
use Rattle.mufom_read.proofs.stepping.PartEnd.{IsAmong, HasFault, part-fault}

-- ---- the error of each public

abbrev key_of : Record → Option ℕ
key_of row = of_kind public (declared_by row)

abbrev starts : ℕ → List OffsetRecord → List ℕ
starts i placed = filter_map (λ p. value_start_for i p p.1.row) placed

abbrev values : ℕ → List OffsetRecord → List Tree
values i placed = filter_map (λ p. value_for i p p.row) (records_in placed)

module _ (t : Tables) (all : List OffsetRecord) where
  -- the error of the public that a record declares
  abbrev entry_fault : OffsetRecord → Record → Option (Option Fault)
  entry_fault p (r.PublicName i name) = Some (value_fault t (unplaced_value i (records_in all)) (mark_of p.0 (slice_get (starts i all) 0)))
  entry_fault p _ = None

  listed_row : (p : OffsetRecord) (row : Record) (marks : List PublicMark) (publics : List Public) (faults : List (Option Fault))
      → public_faults t marks publics ≡ faults
      → public_faults t (cons_option (public_mark_by all p row) marks) (cons_option (unplaced_by (records_in all) p.1 row) publics)
      ≡ cons_option (entry_fault p row) faults
  listed_row p (r.PublicName i name) marks publics faults h =
      ap (λ l. value_fault t (unplaced_value i (records_in all)) (mark_of p.0 (slice_get (starts i all) 0)) ∷ l) h
  listed_row p row marks publics faults h = h

  listed : (placed : List OffsetRecord) → public_faults t (filter_map (λ p. public_mark_by all p p.1.row) placed)
      (filter_map (λ p. unplaced_by (records_in all) p p.row) (records_in placed)) ≡ filter_map (λ p. entry_fault p p.1.row) placed
  listed [] = refl
  listed (p ∷ placed) = listed_row p p.1.row _ _ _ (listed placed)

-- ---- of a part

module _ (all : List OffsetRecord) where
  abbrev ts : Tables
  ts = tables_of (records_in all)

  abbrev fault : OffsetRecord → Option Fault
  fault p = external_fault_in ts p

  has_start : (i : ℕ) → has ts.values i ≡ is_some (slice_get (starts i all) 0)
  has_start i = value-has i (statements (records_in all)) ∙ value-started i all

  no_test : (b : Bool) (n : ℕ) (why_ : Reason) (f : Fault) → fault_if b n why_ ≡ Some f → b ≡ true
  no_test true n why_ f e = refl
  no_test false n why_ f e = absurd cc

  -- a value with an error is that of a record with an error
  giver_row : (i valued : ℕ) (f : Fault) (start : ℕ) (row : Record) (bytes : List ℕ) (more : List OffsetRecord) → let p : OffsetRecord =
      (start, record { row = row; bytes = bytes }) in
      slice_get (cons_option (value_start_for i p row) (starts i more)) 0 ≡ Some valued
      → fault_if (list_any (is_unknown ts) (variables_of (unwrap_or (slice_get (cons_option (value_for i p.1 row) (values i more)) 0)
      (number 0)))) valued why.UnknownIndex ≡ Some f
      → (slice_get (starts i more) 0 ≡ Some valued → fault_if (list_any (is_unknown ts)
      (variables_of (unwrap_or (slice_get (values i more) 0) (number 0)))) valued why.UnknownIndex ≡ Some f → HasFault fault f more)
      → (fault p ≡ Some f) ⊎ HasFault fault f more
  giver_row i valued f start (r.PublicValue j value) bytes more = by_test (i == j) where
    p : OffsetRecord
    p = (start, record { row = r.PublicValue j value; bytes = bytes })

    by_test : (test : Bool) → slice_get (cons_option (cond test (Some start) None) (starts i more)) 0 ≡ Some valued
        → fault_if (list_any (is_unknown ts) (variables_of (unwrap_or
        (slice_get (cons_option (cond test (Some (tree_in (record { row = r.PublicValue j value; bytes = bytes }) value)) None) (values i more)) 0)
        (number 0)))) valued why.UnknownIndex ≡ Some f
        → (slice_get (starts i more) 0 ≡ Some valued → fault_if (list_any (is_unknown ts)
        (variables_of (unwrap_or (slice_get (values i more) 0) (number 0)))) valued why.UnknownIndex ≡ Some f → HasFault fault f more)
        → (fault (start, record { row = r.PublicValue j value; bytes = bytes }) ≡ Some f) ⊎ HasFault fault f more
    by_test true here e rest =
        let at : start ≡ valued = ap (λ o. unwrap_or o start) here in
        inl (ap (λ o. option_or o None) (ap (λ n. fault_if (list_any (is_unknown ts)
        (variables_of (tree_in (record { row = r.PublicValue j value; bytes = bytes }) value))) n why.UnknownIndex) at ∙ e))
    by_test false here e rest = inr (rest here e)
  giver_row i valued f start row bytes more = λ here e rest. inr (rest here e)

  giver : (i valued : ℕ) (f : Fault) (sub : List OffsetRecord) → slice_get (starts i sub) 0 ≡ Some valued
      → fault_if (list_any (is_unknown ts) (variables_of (unwrap_or (slice_get (values i sub) 0) (number 0)))) valued why.UnknownIndex ≡ Some f
      → HasFault fault f sub
  giver i valued f [] here e = absurd cc
  giver i valued f (p ∷ sub) here e = giver_row i valued f p.0 p.1.row p.1.bytes sub here e (giver i valued f sub)

  -- the error of a public is that of a record
  sound_row : (f : Fault) (start : ℕ) (row : Record) (bytes : List ℕ) (more : List (Option Fault)) → let p : OffsetRecord =
      (start, record { row = row; bytes = bytes }) in
      IsAmong f (cons_option (entry_fault ts all p row) more) → (fault p ≡ Some f) ⊎ (HasFault fault f all ⊎ IsAmong f more)
  sound_row f start (r.PublicName i name) bytes more (inl e) = by_valued (slice_get (starts i all) 0) refl e where
    by_valued : (o : Option ℕ) → slice_get (starts i all) 0 ≡ o → value_fault ts (unplaced_value i (records_in all)) (mark_of start o) ≡ Some f
        → (fault (start, record { row = r.PublicName i name; bytes = bytes }) ≡ Some f) ⊎ (HasFault fault f all ⊎ IsAmong f more)
    by_valued None none h = inl (ap (λ b. fault_if (not b) start why.MissingValue) (has_start i ∙ ap is_some none) ∙ h)
    by_valued (Some valued) some h = inr (inl (giver i valued f all some h))
  sound_row f start (r.PublicName i name) bytes more (inr e) = inr (inr e)
  sound_row f start row bytes more e = inr (inr e)

  sound : (f : Fault) (sub : List OffsetRecord) → (HasFault fault f sub → HasFault fault f all)
      → IsAmong f (filter_map (λ p. entry_fault ts all p p.1.row) sub) → HasFault fault f all
  sound f [] up e = absurd e
  sound f (p ∷ sub) up e = by_case (λ h. sound f sub (λ k. up (inr k)) h) (sound_row f p.0 p.1.row p.1.bytes _ e) where
    by_case : (IsAmong f (filter_map (λ q. entry_fault ts all q q.1.row) sub) → HasFault fault f all)
        → ((fault p ≡ Some f) ⊎ (HasFault fault f all ⊎ IsAmong f (filter_map (λ q. entry_fault ts all q q.1.row) sub))) → HasFault fault f all
    by_case rest (inl h) = up (inl h)
    by_case rest (inr (inl h)) = h
    by_case rest (inr (inr h)) = rest h

  -- ---- and the other way

  among_there : (f : Fault) (before : List OffsetRecord) (p : OffsetRecord) (after : List OffsetRecord) → entry_fault ts all p p.1.row ≡ Some (Some f)
      → IsAmong f (filter_map (λ q. entry_fault ts all q q.1.row) (before ++ p ∷ after))
  among_there f [] p after e = subst (λ (o : Option (Option Fault)). IsAmong f (cons_option o (filter_map (λ q. entry_fault ts all q q.1.row) after)))
      (sym e) (inl refl)
  among_there f (q ∷ before) p after e = later (entry_fault ts all q q.1.row) (among_there f before p after e) where
    later : (o : Option (Option Fault)) → IsAmong f (filter_map (λ x. entry_fault ts all x x.1.row) (before ++ p ∷ after))
        → IsAmong f (cons_option o (filter_map (λ x. entry_fault ts all x x.1.row) (before ++ p ∷ after)))
    later None h = h
    later (Some x) h = inr h

  declared_row : (f : Fault) (i valued : ℕ) (p : OffsetRecord) (row : Record) (indexes : List ℕ) (more : List (Option Fault))
      → slice_get (starts i all) 0 ≡ Some valued
      → fault_if (list_any (is_unknown ts) (variables_of (unplaced_value i (records_in all)))) valued why.UnknownIndex ≡ Some f
      → list_any (λ n. n == i) (cons_option (key_of row) indexes) ≡ true → (list_any (λ n. n == i) indexes ≡ true → IsAmong f more)
      → IsAmong f (cons_option (entry_fault ts all p row) more)
  declared_row f i valued p (r.PublicName j name) indexes more here e there rest = by_test (j == i) refl there where
    by_test : (test : Bool) → (j == i) ≡ test → (test || list_any (λ n. n == i) indexes) ≡ true
        → IsAmong f (value_fault ts (unplaced_value j (records_in all)) (mark_of p.0 (slice_get (starts j all) 0)) ∷ more)
    by_test true is h =
        let same : j ≡ i = same_index j i is in
        inl (ap (λ n. value_fault ts (unplaced_value n (records_in all)) (mark_of p.0 (slice_get (starts n all) 0))) same
        ∙ ap (λ o. value_fault ts (unplaced_value i (records_in all)) (mark_of p.0 o)) here ∙ e)
    by_test false is h = inr (rest h)
  declared_row f i valued p (r.SectionType a b c d x y z) indexes more here e there rest = rest there
  declared_row f i valued p (r.ReferenceName j name) indexes more here e there rest = rest there
  declared_row f i valued p (r.DebugName j name) indexes more here e there rest = rest there
  declared_row f i valued p row indexes more here e there rest = rest there

  among_declared : (f : Fault) (i valued : ℕ) (sub : List OffsetRecord) → slice_get (starts i all) 0 ≡ Some valued
      → fault_if (list_any (is_unknown ts) (variables_of (unplaced_value i (records_in all)))) valued why.UnknownIndex ≡ Some f
      → is_declared (records_in sub) (public, i) ≡ true → IsAmong f (filter_map (λ q. entry_fault ts all q q.1.row) sub)
  among_declared f i valued [] here e there = absurd (true≢false (sym there))
  among_declared f i valued (p ∷ sub) here e there = declared_row f i valued p p.1.row _ _ here e there (among_declared f i valued sub here e)

  -- the values stated before and after the first one of an index
  first_there : (i start : ℕ) (span : _) (bytes : List ℕ) (before after : List OffsetRecord) → before
      ++ (start, record { row = r.PublicValue i span; bytes = bytes }) ∷ after ≡ all → values i before ≡ []
      → (slice_get (starts i all) 0 ≡ Some start) × (unplaced_value i (records_in all) ≡ tree_in (record { row = r.PublicValue i span; bytes = bytes }) span)
  first_there i start span bytes before after whole none =
      let p : OffsetRecord = (start, record { row = r.PublicValue i span; bytes = bytes }) in
      let here = eq-eqb i i refl in (
        ap (λ l. slice_get (starts i l) 0) (sym whole)
            ∙ ap (λ l. slice_get l 0) (filter_map-append (λ q. value_start_for i q q.1.row) before (p ∷ after)
            ∙ ap (λ l. l ++ starts i (p ∷ after)) (no-start i before none))
            ∙ ap (λ b. slice_get (cons_option (cond b (Some start) None) (starts i after)) 0) here,
        ap (λ l. unplaced_value i (records_in l)) (sym whole)
            ∙ ap (λ l. unwrap_or (slice_get l 0) (number 0)) (records_values before p after ∙ ap (λ l. l ++ values i (p ∷ after)) none)
            ∙ ap (λ b. unwrap_or (slice_get (cons_option (cond b (Some (tree_in p.1 span)) None) (values i after)) 0) (number 0)) here,
      )
    where
      records_values : (a : List OffsetRecord) (q : OffsetRecord) (b : List OffsetRecord) → values i (a ++ q ∷ b) ≡ values i a ++ values i (q ∷ b)
      records_values [] q b = refl
      records_values (x ∷ a) q b = ap (cons_option (value_for i x.1 x.1.row)) (records_values a q b)
          ∙ joined_option (value_for i x.1 x.1.row) (values i a) (values i (q ∷ b)) where
            joined_option : (o : Option Tree) (xs ys : List Tree) → cons_option o (xs ++ ys) ≡ cons_option o xs ++ ys
            joined_option None xs ys = refl
            joined_option (Some v) xs ys = refl

  whole_row : (f : Fault) (start : ℕ) (row : Record) (bytes : List ℕ) (before after : List OffsetRecord) → let p : OffsetRecord =
      (start, record { row = row; bytes = bytes }) in
      before ++ p ∷ after ≡ all → Follows (records_in before) p.1 → fault p ≡ Some f → IsAmong f (filter_map (λ q. entry_fault ts all q q.1.row) all)
  whole_row f start (r.PublicName i name) bytes before after whole follows e =
      let p : OffsetRecord = (start, record { row = r.PublicName i name; bytes = bytes }) in
      let lacks : has ts.values i ≡ false = not_true (has ts.values i) (no_test (not (has ts.values i)) start why.MissingValue f e) in
      let none : slice_get (starts i all) 0 ≡ None = no_some (slice_get (starts i all) 0) (sym (has_start i) ∙ lacks) in
      let same : value_fault ts (unplaced_value i (records_in all)) (mark_of start (slice_get (starts i all) 0)) ≡ Some f =
      ap (λ o. value_fault ts (unplaced_value i (records_in all)) (mark_of start o)) none ∙ sym (ap (λ b. fault_if (not b) start why.MissingValue) lacks) ∙ e in
      subst (λ (l : List OffsetRecord). IsAmong f (filter_map (λ q. entry_fault ts all q q.1.row) l)) whole
      (among_there f before p after (ap (λ o. Some o) same))
    where
      not_true : (b : Bool) → not b ≡ true → b ≡ false
      not_true false h = refl
      not_true true h = absurd (true≢false (sym h))

      no_some : (o : Option ℕ) → is_some o ≡ false → o ≡ None
      no_some None h = refl
      no_some (Some n) h = absurd (true≢false h)
  whole_row f start (r.PublicValue i span) bytes before after whole follows e =
      let p : OffsetRecord = (start, record { row = r.PublicValue i span; bytes = bytes }) in
      let unsaid : values i before ≡ [] = value-unstated i (records_in before) follows.once in
      let first = first_there i start span bytes before after whole unsaid in
      let known : is_declared (records_in before) (public, i) ≡ true = named_known (records_in before) p.1 (public, i) refl follows.known in
      let its : fault_if (list_any (is_unknown ts) (variables_of (unplaced_value i (records_in all)))) start why.UnknownIndex ≡ Some f =
      ap (λ v. fault_if (list_any (is_unknown ts) (variables_of v)) start why.UnknownIndex) first.1
      ∙ only_first (fault_if (list_any (is_unknown ts) (variables_of (tree_in p.1 span))) start why.UnknownIndex) e in
      subst (λ (l : List OffsetRecord). IsAmong f (filter_map (λ q. entry_fault ts all q q.1.row) l)) whole
      (among_more f before (p ∷ after) (among_declared f i start before first.0 its known))
    where
      only_first : (o : Option Fault) → option_or o None ≡ Some f → o ≡ Some f
      only_first None h = h
      only_first (Some x) h = h

      among_more : (g : Fault) (a b : List OffsetRecord) → IsAmong g (filter_map (λ q. entry_fault ts all q q.1.row) a)
          → IsAmong g (filter_map (λ q. entry_fault ts all q q.1.row) (a ++ b))
      among_more g [] b h = absurd h
      among_more g (x ∷ a) b h = by_entry (entry_fault ts all x x.1.row) h (among_more g a b) where
        by_entry : (o : Option (Option Fault)) → IsAmong g (cons_option o (filter_map (λ q. entry_fault ts all q q.1.row) a))
            → (IsAmong g (filter_map (λ q. entry_fault ts all q q.1.row) a) → IsAmong g (filter_map (λ q. entry_fault ts all q q.1.row) (a ++ b)))
            → IsAmong g (cons_option o (filter_map (λ q. entry_fault ts all q q.1.row) (a ++ b)))
        by_entry None k more = more k
        by_entry (Some y) (inl k) more = inl k
        by_entry (Some y) (inr k) more = inr (more k)
  whole_row f start row bytes before after whole follows e = absurd cc

  whole_at : (f : Fault) (before sub : List OffsetRecord) → before ++ sub ≡ all → FollowFrom (records_in before) (records_in sub)
      → HasFault fault f sub → IsAmong f (filter_map (λ q. entry_fault ts all q q.1.row) all)
  whole_at f before [] whole follows h = absurd h
  whole_at f before (p ∷ sub) whole follows (inl e) = whole_row f p.0 p.1.row p.1.bytes before sub whole follows.0 e
  whole_at f before (p ∷ sub) whole follows (inr h) =
      whole_at f (before ++ p ∷ []) sub (append_assoc before (p ∷ []) sub
      ∙ whole) (subst (λ (l : List SpelledRecord). FollowFrom l (records_in sub)) (sym (records_more before p)) follows.1) h
    where
      records_more : (a : List OffsetRecord) (q : OffsetRecord) → records_in (a ++ q ∷ []) ≡ records_in a ++ q.1 ∷ []
      records_more [] q = refl
      records_more (x ∷ a) q = ap (λ l. x.1 ∷ l) (records_more a q)

  -- The error of the publics with the smallest offset is the first of the part.
  pub external-least : (to : ℕ) → AreRising 0 all to → FollowFrom [] (records_in all)
      → least_from None (public_faults ts (public_marks all) (unplaced_publics (records_in all))) ≡ first_fault (external_fault (records_in all)) all
  external-least to rising follows =
      ap (least_from None) (listed ts all all)
      ∙ part-fault fault own 0 to all (filter_map (λ p. entry_fault ts all p p.1.row) all) rising (λ f h. sound f all (λ k. k) h)
      (λ f h. whole_at f [] all refl follows h)
      ∙ external_fault-tables (records_in all) all
    where
      own : (p : OffsetRecord) (f : Fault) → fault p ≡ Some f → f.0 ≡ p.0
      own p f e = by_first _ _ e where
        by_first : (a b : Bool) → option_or (fault_if a p.0 why.UnknownIndex) (fault_if b p.0 why.MissingValue) ≡ Some f → f.0 ≡ p.0
        by_first true b h = sym (ap (λ (o : Option Fault). (unwrap_or o f).0) h)
        by_first false true h = sym (ap (λ (o : Option Fault). (unwrap_or o f).0) h)
        by_first false false h = absurd cc

-- ---- one public after another

-- the least with one more public is the least of all from that one on
pub faults-step : (t : Tables) (marks : List PublicMark) (publics : List Public) (i : ℕ) (m : PublicMark) (p : Public) (a : Option Fault)
    → i < length marks → i < length publics → m ≡ get_or marks i m → p ≡ get_or publics i p
    → least_from (earlier a (value_fault t p.value m)) (public_faults t (drop (i + 1) marks) (drop (i + 1) publics))
    ≡ least_from a (public_faults t (drop i marks) (drop i publics))
faults-step t marks publics i m p a in_marks in_publics is_mark is_public = sym ((λ k. least_from a (public_faults t (from_mark k) (from_public k)))) where
  next : suc i ≡ i + 1
  next = omega arith

  from_mark : drop i marks ≡ m ∷ drop (i + 1) marks
  from_mark = drop-cons marks i m in_marks ∙ (λ j. sym is_mark j ∷ drop (next j) marks)

  from_public : drop i publics ≡ p ∷ drop (i + 1) publics
  from_public = drop-cons publics i p in_publics ∙ (λ j. sym is_public j ∷ drop (next j) publics)

-- no error follows that of the last public
pub faults-end : (t : Tables) (marks : List PublicMark) (publics : List Public) (a : Option Fault) (n : ℕ) → length marks ≤ n → length publics ≤ n
    → least_from a (public_faults t (drop n marks) (drop n publics)) ≡ a
faults-end t marks publics a n few less = (λ k. least_from a (public_faults t (drop_all n marks few k) (drop_all n publics less k)))
