-- A field is read exactly: what is read is there, what is there is read, and an error or an early end is returned exactly if
-- there is one. If all fields are read exactly, so are records.
use Rattle.std.proofs.Common.{◌≡◌, ℕ, zero, suc, ◌+◌, ◌-◌, List, [], ◌∷◌, ◌++◌, length, drop, Option, None, Ok, Err, refl, sym, ap, subst, ◌∙◌, inl}
use Rattle.std.proofs.Common.{inr, arith, append_assoc}
use Rattle.std.proofs.lemmas.List.{drop_at, drop-drop, length-append}
use Rattle.mufom_numbers.specs.declared.reason.Reason.{Reason}
use Rattle.mufom_numbers.specs.Spelling.{AreBytes}
use Rattle.mufom_records.specs.declared.record.Record.{Record}
use Rattle.mufom_records.specs.declared.stop.Stop.{Stop}
use Rattle.mufom_records.specs.declared.stop.Stop.TheVariants.{More, Bad}
use Rattle.mufom_records.specs.Fields.{Field, ValueOf, SpellsField, first_of}
use Rattle.mufom_records.specs.Layouts.{Layout, whole, refused, field, SpellsRecord}
use Rattle.mufom_records.specs.Reading.{Reading, ◌>>=◌, field_at, read}
use Rattle.mufom_records.specs.Faults.{FieldFault, IsCutOffField, HasFault, IsCutOffLayout}

-- ---- results

abbrev pub ok : {X : Type 0} → X → ℕ → Reading X
ok x at = Ok (x, at)

abbrev pub stopped : {X : Type 0} → Stop → Reading X
stopped stop = Err stop

abbrev pub value_or : {X : Type 0} → X → Reading X → X
value_or x (Ok r) = r.0
value_or x (Err stop) = x

abbrev pub place_or : {X : Type 0} → ℕ → Reading X → ℕ
place_or at (Ok r) = r.1
place_or at (Err stop) = at

pub same_value : {X : Type 0} (x y : X) (a b : ℕ) → ok x a ≡ ok y b → x ≡ y
same_value x y a b e = ap (λ r. value_or x r) e

pub same_place : {X : Type 0} (x y : X) (a b : ℕ) → ok x a ≡ ok y b → a ≡ b
same_place x y a b e = ap (λ r. place_or a r) e

abbrev stop_or : {X : Type 0} → Stop → Reading X → Stop
stop_or stop (Ok r) = stop
stop_or stop (Err s) = s

pub same_stop : {X : Type 0} (s t : Stop) → stopped {X = X} s ≡ stopped t → s ≡ t
same_stop s t e = ap (λ r. stop_or s r) e

pub ok_not_err : {X : Type 0} (x : X) (a : ℕ) (s : Stop) → ok x a ≡ stopped s → ⊥
ok_not_err x a s e = cc

-- ---- lists

pub AreBytes-drop : (n : ℕ) (bytes : List ℕ) → AreBytes bytes → AreBytes (drop n bytes)
AreBytes-drop zero bytes fits = fits
AreBytes-drop (suc n) [] fits = tt
AreBytes-drop (suc n) (b ∷ bytes) fits = AreBytes-drop n bytes fits.1

-- what follows a text is at the offset after its length
pub drop-following : (input : List ℕ) (at : ℕ) (text rest : List ℕ) → drop at input ≡ text ++ rest → drop (at + length text) input ≡ rest
drop-following input at text rest e = sym (drop-drop (length text) at input) ∙ ap (drop (length text)) e ∙ drop_at text rest (length text) refl

pub first_of-append : (xs ys : List ℕ) (next : Option ℕ) → first_of (xs ++ ys) next ≡ first_of xs (first_of ys next)
first_of-append [] ys next = refl
first_of-append (x ∷ xs) ys next = refl

-- ---- fields

-- The value was found at the offset: its bytes are there, and end at the offset `after`.
pub record Found (f : Field) (input : List ℕ) (at : ℕ) (x : ValueOf f) (after : ℕ) : Type 0 where
  pub prefix : List ℕ
  pub spells : SpellsField f x at prefix (first_of (drop after input) None)
  pub split : drop at input ≡ prefix ++ drop after input
  pub count : after ≡ at + length prefix

pub found : (f : Field) (input : List ℕ) (at : ℕ) (x : ValueOf f) (after : ℕ) (prefix rest : List ℕ) → SpellsField f x at prefix (first_of rest None)
    → drop at input ≡ prefix ++ rest → after ≡ at + length prefix → Found f input at x after
found f input at x after prefix rest spells split count =
    let following : drop after input ≡ rest = ap (λ (n : ℕ). drop n input) count ∙ drop-following input at prefix rest split in
    record {
      prefix = prefix;
      spells = subst (λ (l : List ℕ). SpellsField f x at prefix (first_of l None)) (sym following) spells;
      split = split ∙ ap (λ (l : List ℕ). prefix ++ l) (sym following);
      count = count;
    }

abbrev pair_or : {X : Type 0} → X × ℕ → Reading X → X × ℕ
pair_or p (Ok r) = r
pair_or p (Err stop) = p

-- what was found is what was returned
pub found-as : (f : Field) (input : List ℕ) (at : ℕ) (y : ValueOf f) (b : ℕ) (x : ValueOf f) (a : ℕ) → Found f input at y b → ok y b ≡ ok x a
    → Found f input at x a
found-as f input at y b x a is e = subst (λ (p : ValueOf f × ℕ). Found f input at p.0 p.1) (ap (λ r. pair_or (y, b) r) e) is

pub record IsExact (f : Field) : Type 0 where
  pub got : (input : List ℕ) (at : ℕ) → AreBytes input → (x : ValueOf f) (after : ℕ) → field_at f input at ≡ Ok (x, after) → Found f input at x after
  pub only : (input : List ℕ) (at : ℕ) (x : ValueOf f) (prefix rest : List ℕ) → SpellsField f x at prefix (first_of rest None) → drop at input
      ≡ prefix ++ rest → field_at f input at ≡ Ok (x, at + length prefix)
  pub bad : (input : List ℕ) (at : ℕ) → AreBytes input → (offset : ℕ) (reason : Reason) → field_at f input at ≡ Err (Bad offset reason)
      → FieldFault f at (drop at input) offset reason
  pub fault : (input : List ℕ) (at offset : ℕ) (reason : Reason) → FieldFault f at (drop at input) offset reason → field_at f input at ≡ Err (Bad offset reason)
  pub more : (input : List ℕ) (at : ℕ) → AreBytes input → field_at f input at ≡ Err More → IsCutOffField f (drop at input)
  pub ends : (input : List ℕ) (at : ℕ) → IsCutOffField f (drop at input) → field_at f input at ≡ Err More
  pub later : (x : ValueOf f) (at : ℕ) (prefix : List ℕ) (next : Option ℕ) → SpellsField f x at prefix None → SpellsField f x at prefix next
  pub grows : (at : ℕ) (bytes more : List ℕ) (offset : ℕ) (reason : Reason) → FieldFault f at bytes offset reason
      → FieldFault f at (bytes ++ more) offset reason

-- ---- records

module _ (exact : (f : Field) → IsExact f) where
  -- a record that is read is there
  pub record FoundRecord (layout : Layout) (input : List ℕ) (at : ℕ) (row : Record) (after : ℕ) : Type 0 where
    pub prefix : List ℕ
    pub spells : SpellsRecord layout row at prefix (first_of (drop after input) None)
    pub split : drop at input ≡ prefix ++ drop after input
    pub count : after ≡ at + length prefix

  pub read-got : (layout : Layout) (input : List ℕ) (at : ℕ) → AreBytes input → (row : Record) (after : ℕ) → read layout input at ≡ Ok (row, after)
      → FoundRecord layout input at row after
  read-got (whole made) input at fits row after gives =
      let offset : after ≡ at = sym (same_place made row at after gives) in
      record {
        prefix = [];
        spells = (sym (same_value made row at after gives), refl);
        split = ap (λ (n : ℕ). drop n input) (sym offset);
        count = omega (arith, offset);
      }
  read-got (refused back reason) input at fits row after gives = absurd (ok_not_err row after (Bad (at - back) reason) (sym gives))
  read-got (field f rest) input at fits row after gives = by_answer (field_at f input at) refl gives (λ x mid. read-got (rest x) input mid fits row after) where
    by_answer : (answer : Reading (ValueOf f)) → field_at f input at ≡ answer → (answer >>= λ x. read (rest x.0) input x.1) ≡ Ok (row, after)
        → ((x : ValueOf f) (mid : ℕ) → read (rest x) input mid ≡ Ok (row, after) → FoundRecord (rest x) input mid row after)
        → FoundRecord (field f rest) input at row after
    by_answer (Err stop) is gives recursive = absurd (ok_not_err row after stop (sym gives))
    by_answer (Ok (x, mid)) is gives recursive =
        let one = (exact f).got input at fits x mid is in
        let two = recursive x mid gives in
        let next : first_of (drop mid input) None ≡ first_of two.prefix (first_of (drop after input) None) =
        ap (λ (l : List ℕ). first_of l None) two.split ∙ first_of-append two.prefix (drop after input) None in
        record {
          prefix = one.prefix ++ two.prefix;
          spells = (
            x,
            one.prefix,
            two.prefix,
            subst (λ (n : Option ℕ). SpellsField f x at one.prefix n) next one.spells,
            subst (λ (n : ℕ). SpellsRecord (rest x) row n two.prefix (first_of (drop after input) None)) one.count two.spells,
            refl,
          );
          split = one.split ∙ ap (λ (l : List ℕ). one.prefix ++ l) two.split ∙ sym (append_assoc one.prefix two.prefix (drop after input));
          count = omega (arith, one.count, two.count, length-append one.prefix two.prefix);
        }

  -- a record that is there is read
  pub read-only : (layout : Layout) (input : List ℕ) (at : ℕ) (row : Record) (prefix rest : List ℕ)
      → SpellsRecord layout row at prefix (first_of rest None) → drop at input ≡ prefix ++ rest → read layout input at ≡ Ok (row, at + length prefix)
  read-only (whole made) input at row prefix rest spells split =
      let count : at + length prefix ≡ at = omega (arith, ap length spells.1) in
      rw (count, spells.0) refl
  read-only (refused back reason) input at row prefix rest spells split = absurd spells
  read-only (field f later) input at row prefix rest (x, one, two, spelled, spells, parts) split =
      let first_split : drop at input ≡ one ++ (two ++ rest) = split ∙ ap (λ (l : List ℕ). l ++ rest) parts ∙ append_assoc one two rest in
      let first_spelled : SpellsField f x at one (first_of (two ++ rest) None) =
      subst (λ (n : Option ℕ). SpellsField f x at one n) (sym (first_of-append two rest None)) spelled in
      let first = (exact f).only input at x one (two ++ rest) first_spelled first_split in
      let second = read-only (later x) input (at + length one) row two rest spells (drop-following input at one (two ++ rest) first_split) in
      let count : at + length one + length two ≡ at + length prefix = omega (arith, ap length parts, length-append one two) in
      rw first (second ∙ ap (λ (n : ℕ). ok row n) count)

  -- an error that is returned is there
  pub read-bad : (layout : Layout) (input : List ℕ) (at : ℕ) → AreBytes input → (offset : ℕ) (reason : Reason) → read layout input at
      ≡ Err (Bad offset reason) → HasFault layout at (drop at input) offset reason
  read-bad (whole made) input at fits offset reason gives = absurd (ok_not_err made at (Bad offset reason) gives)
  read-bad (refused back why) input at fits offset reason gives = let same : Bad (at - back) why ≡ Bad offset reason =
      same_stop {X = Record} (Bad (at - back) why) (Bad offset reason) gives in (cc, cc)
  read-bad (field f rest) input at fits offset reason gives =
      by_answer (field_at f input at) refl gives (λ x mid. read-bad (rest x) input mid fits offset reason) where
        by_answer : (answer : Reading (ValueOf f)) → field_at f input at ≡ answer → (answer >>= λ x. read (rest x.0) input x.1) ≡ Err (Bad offset reason)
            → ((x : ValueOf f) (mid : ℕ) → read (rest x) input mid ≡ Err (Bad offset reason) → HasFault (rest x) mid (drop mid input) offset reason)
            → HasFault (field f rest) at (drop at input) offset reason
        by_answer (Err stop) is gives recursive = inl ((exact f).bad input at fits offset reason (is
            ∙ ap (λ s. stopped s) (same_stop {X = Record} stop (Bad offset reason) gives)))
        by_answer (Ok (x, mid)) is gives recursive =
            let one = (exact f).got input at fits x mid is in
            let two = recursive x mid gives in
            inr (x, one.prefix, drop mid input, one.spells, subst (λ (n : ℕ). HasFault (rest x) n (drop mid input) offset reason) one.count two, one.split)

  -- an error that is there is returned
  pub read-fault : (layout : Layout) (input : List ℕ) (at offset : ℕ) (reason : Reason) → HasFault layout at (drop at input) offset reason
      → read layout input at ≡ Err (Bad offset reason)
  read-fault (whole made) input at offset reason has = absurd has
  read-fault (refused back why) input at offset reason has = rw (has.0, has.1) refl
  read-fault (field f rest) input at offset reason (inl has) = rw ((exact f).fault input at offset reason has) refl
  read-fault (field f rest) input at offset reason (inr (x, prefix, back, spelled, has, split)) =
      let following : drop (at + length prefix) input ≡ back = drop-following input at prefix back split in
      let first = (exact f).only input at x prefix back spelled split in
      rw first (read-fault (rest x) input (at + length prefix) offset reason
      (subst (λ (l : List ℕ). HasFault (rest x) (at + length prefix) l offset reason) (sym following) has))

  -- if more bytes are needed, the bytes end too early
  pub read-more : (layout : Layout) (input : List ℕ) (at : ℕ) → AreBytes input → read layout input at ≡ Err More → IsCutOffLayout layout at (drop at input)
  read-more (whole made) input at fits gives = absurd (ok_not_err made at More gives)
  read-more (refused back why) input at fits gives = let same : Bad (at - back) why ≡ More =
      same_stop {X = Record} (Bad (at - back) why) More gives in absurd cc
  read-more (field f rest) input at fits gives = by_answer (field_at f input at) refl gives (λ x mid. read-more (rest x) input mid fits) where
    by_answer : (answer : Reading (ValueOf f)) → field_at f input at ≡ answer → (answer >>= λ x. read (rest x.0) input x.1) ≡ Err More
        → ((x : ValueOf f) (mid : ℕ) → read (rest x) input mid ≡ Err More → IsCutOffLayout (rest x) mid (drop mid input))
        → IsCutOffLayout (field f rest) at (drop at input)
    by_answer (Err stop) is gives recursive = inl ((exact f).more input at fits (is ∙ ap (λ s. stopped s) (same_stop {X = Record} stop More gives)))
    by_answer (Ok (x, mid)) is gives recursive =
        let one = (exact f).got input at fits x mid is in
        let two = recursive x mid gives in
        inr (x, one.prefix, drop mid input, one.spells, subst (λ (n : ℕ). IsCutOffLayout (rest x) n (drop mid input)) one.count two, one.split)

  -- if the bytes end too early, more bytes are needed
  pub read-ends : (layout : Layout) (input : List ℕ) (at : ℕ) → IsCutOffLayout layout at (drop at input) → read layout input at ≡ Err More
  read-ends (whole made) input at ends = absurd ends
  read-ends (refused back why) input at ends = absurd ends
  read-ends (field f rest) input at (inl ends) = rw ((exact f).ends input at ends) refl
  read-ends (field f rest) input at (inr (x, prefix, back, spelled, ends, split)) =
      let following : drop (at + length prefix) input ≡ back = drop-following input at prefix back split in
      let first = (exact f).only input at x prefix back spelled split in
      rw first (read-ends (rest x) input (at + length prefix) (subst (λ (l : List ℕ). IsCutOffLayout (rest x) (at + length prefix) l) (sym following) ends))

  later_in : (f : Field) (x : ValueOf f) (at : ℕ) (prefix back : List ℕ) (next : Option ℕ) → SpellsField f x at prefix (first_of back None)
      → SpellsField f x at prefix (first_of back next)
  later_in f x at prefix [] next spells = (exact f).later x at prefix next spells
  later_in f x at prefix (b ∷ back) next spells = spells

  -- a record that ends with the input may be followed by anything
  pub record-later : (layout : Layout) (row : Record) (at : ℕ) (bytes : List ℕ) (next : Option ℕ) → SpellsRecord layout row at bytes None
      → SpellsRecord layout row at bytes next
  record-later (whole made) row at bytes next spells = spells
  record-later (refused back why) row at bytes next spells = spells
  record-later (field f rest) row at bytes next (x, prefix, back, spelled, spells, parts) =
      (x, prefix, back, later_in f x at prefix back next spelled, record-later (rest x) row (at + length prefix) back next spells, parts)

  grown : (f : Field) (x : ValueOf f) (at : ℕ) (prefix back more : List ℕ) → SpellsField f x at prefix (first_of back None)
      → SpellsField f x at prefix (first_of (back ++ more) None)
  grown f x at prefix back more spells = subst (λ (n : Option ℕ). SpellsField f x at prefix n) (sym (first_of-append back more None))
      (later_in f x at prefix back (first_of more None) spells)

  -- an error stays the same in every longer input
  pub fault-grows : (layout : Layout) (at : ℕ) (bytes more : List ℕ) (offset : ℕ) (reason : Reason) → HasFault layout at bytes offset reason
      → HasFault layout at (bytes ++ more) offset reason
  fault-grows (whole made) at bytes more offset reason has = has
  fault-grows (refused back why) at bytes more offset reason has = has
  fault-grows (field f rest) at bytes more offset reason (inl has) = inl ((exact f).grows at bytes more offset reason has)
  fault-grows (field f rest) at bytes more offset reason (inr (x, prefix, back, spelled, has, split)) =
      inr (
        x,
        prefix,
        back ++ more,
        grown f x at prefix back more spelled,
        fault-grows (rest x) (at + length prefix) back more offset reason has,
        ap (λ (l : List ℕ). l ++ more) split ∙ append_assoc prefix back more,
      )
