-- The header of a module's file as steps: a sound prefix.
use Rattle.std.proofs.Common.{◌≡◌, ℕ, zero, suc, ◌+◌, ◌<◌, ◌≤◌, Bool, true, false, not, ◌==◌, ◌&&◌, List, [], ◌∷◌, ◌++◌, length, None, refl, sym, ap}
use Rattle.std.proofs.Common.{subst, ◌∙◌, arith, append_assoc, append-nil, eq-eqb, ne_eqb, length-append}
use Rattle.std.specs.Option.{option_or}
use Rattle.mufom_numbers.specs.declared.reason.Reason.TheVariants as why
use Rattle.mufom_records.specs.declared.record.Record.{Record}
use Rattle.mufom_records.specs.declared.record.Record.TheVariants as r
use Rattle.mufom_records.specs.Fields.{first_of}
use Rattle.mufom_records.specs.Layouts.{IsWholeRecord}
use Rattle.mufom_module.specs.SpelledRecords.{SpelledRecord, bytes_of}
use Rattle.mufom_module.specs.Grammar.{AreOfModes, offsets_in}
use Rattle.mufom_judging.specs.Prefixes.{Step, read, size_of, offsets_of, Location, in_header, first_present, header_mode, is_module_end, next_step, is_ended}
use Rattle.mufom_judging.specs.Faults.{fault_if, is_out_of_order, leaves_gap, offset_fault, header_fault, record_fault, ended_part_fault, step_fault}
use Rattle.mufom_judging.specs.Judging.{IsSoundFrom}
use Rattle.mufom_judging.proofs.ended.Walk.{size-append, taken}
use Rattle.mufom_judging.proofs.ended.Rows.{offset_row}
use Rattle.mufom_judging.proofs.ended.Header.{ended-read, offsets-append, header_location, modes_from}
use Rattle.mufom_judging.proofs.spelled.Walk.{steps_of, IsStep, sound_step, next_read, Beyond, none_ended}
use Rattle.mufom_records.specs.declared.options.ReadOptions.{ReadOptions}

-- ---- a record of the header

pub header_fault_at : (k : ℕ) (before : List Step) (p : SpelledRecord) → length before ≡ k → k < 10
    → step_fault before (taken (read (size_of before) p) (length p.bytes))
    ≡ header_fault (offsets_of before) (size_of before) (size_of before + length p.bytes) p.row
header_fault_at k before p count few = ap (λ (q : Location). record_fault before q (size_of before) p) (header_location before k count few)

pub header_next : (options : ReadOptions) (k : ℕ) (before : List Step) (p : SpelledRecord) (after : List ℕ) → length before ≡ k → k < 10
    → IsWholeRecord (header_mode k) p.row p.bytes (first_of after None)
    → next_step options before (p.bytes ++ after) ≡ taken (read (size_of before) p) (length p.bytes)
header_next options k before p after count few is = next_read options before (in_header k) (header_mode k) p after
    (header_location before k count few) refl is

pub header_is_step : (options : ReadOptions) (k : ℕ) (before : List Step) (p : SpelledRecord) (after : List ℕ) → length before ≡ k → k < 10
    → is_ended before ≡ false → ended_part_fault before ≡ None
    → IsWholeRecord (header_mode k) p.row p.bytes (first_of after None)
    → header_fault (offsets_of before) (size_of before) (size_of before + length p.bytes) p.row ≡ None
    → IsStep options before (read (size_of before) p) after
header_is_step options k before p after count few open_ whole is fault = record {
  unended = open_;
  whole = whole;
  own = header_fault_at k before p count few ∙ fault;
  next = header_next options k before p after count few is;
}

-- ---- the offsets

-- no offset is out of order after those before it
abbrev pub AreOrdered : List ℕ → List ℕ → Type 0
AreOrdered earlier [] = Unit {0}
AreOrdered earlier (w ∷ offsets) = (is_out_of_order earlier w ≡ false) × AreOrdered (earlier ++ w ∷ []) offsets

-- what holds before this number of offsets
pub record Standing (k n : ℕ) (end : ℕ) (earlier offsets : List ℕ) (before : List Step) (records : List SpelledRecord) : Type 0 where
  pub count : length before ≡ suc (suc k)
  pub eight : k + n ≡ 8
  pub many : length earlier ≡ k
  pub here : offsets_of before ≡ earlier
  pub unended : is_ended before ≡ false
  pub ordered : AreOrdered earlier offsets
  pub passed : Beyond end earlier
  pub beyond : Beyond end offsets
  pub size : size_of before + length (bytes_of records) ≡ end
  pub some : 1 ≤ end
  pub first : first_present (earlier ++ offsets) ≡ end

-- an offset that is in order and leaves no gap has no error
offset_kept : (earlier : List ℕ) (w start end : ℕ) → is_out_of_order earlier w ≡ false → leaves_gap (earlier ++ w ∷ []) end ≡ false
    → offset_fault earlier w start end ≡ None
offset_kept earlier w start end order gap =
    (λ i. option_or (fault_if (order i) start why.OffsetOrder) (fault_if (gap i) end why.PartGap))

no_gap_yet : (offsets : List ℕ) (end : ℕ) → (length offsets ≡ 8 → ⊥) → leaves_gap offsets end ≡ false
no_gap_yet offsets end few = ap (λ b. b && not (first_present offsets == end)) (ne_eqb (length offsets) 8 few)

no_gap_last : (offsets : List ℕ) (end : ℕ) → first_present offsets ≡ end → leaves_gap offsets end ≡ false
no_gap_last offsets end same = ap (λ b. (length offsets == 8) && not b) (eq-eqb (first_present offsets) end same) ∙ off (length offsets == 8) where
  off : (a : Bool) → (a && false) ≡ false
  off true = refl
  off false = refl

one_more : (xs : List ℕ) (x : ℕ) → length (xs ++ x ∷ []) ≡ suc (length xs)
one_more xs x = length-append xs (x ∷ []) ∙ omega arith

no_gap_here : (n k : ℕ) (earlier offsets : List ℕ) (w start end size : ℕ) (records : List SpelledRecord) (after : List ℕ)
    → AreOfModes (modes_from (suc k) n) records after → length earlier ≡ k → k + suc n ≡ 8 → offsets_in records ≡ offsets
    → first_present (earlier ++ w ∷ offsets) ≡ end → size + length (bytes_of records) ≡ end → leaves_gap (earlier ++ w ∷ []) size ≡ false
no_gap_here zero k earlier offsets w start end size [] after modes many eight values first total =
    no_gap_last (earlier ++ w ∷ []) size (ap (λ l. first_present (earlier ++ w ∷ l)) values ∙ first ∙ sym total ∙ omega arith)
no_gap_here zero k earlier offsets w start end size (p ∷ records) after modes many eight values first total = absurd modes
no_gap_here (suc n) k earlier offsets w start end size records after modes many eight values first total =
    no_gap_yet (earlier ++ w ∷ []) size (λ h. omega (arith, one_more earlier w))

beyond-append : (n : ℕ) (a b : List ℕ) → Beyond n a → Beyond n b → Beyond n (a ++ b)
beyond-append n [] b x y = y
beyond-append n (w ∷ a) b x y = (x.0, beyond-append n a b x.1 y)

row_offsets : (p : SpelledRecord) (records : List SpelledRecord) (k w : ℕ) → p.row ≡ r.Offset k w → offsets_in (p ∷ records) ≡ w ∷ offsets_in records
row_offsets p records k w is = ap (λ (s : Record). offsets_in (record { row = s; bytes = p.bytes } ∷ records)) is

cons_parts : (a b : ℕ) (xs ys : List ℕ) → a ∷ xs ≡ b ∷ ys → (a ≡ b) × (xs ≡ ys)
cons_parts a b xs ys h = (cc, cc)

-- the first of these offsets
first_offset : (n k : ℕ) (options : ReadOptions) (end v : ℕ) (earlier offsets : List ℕ) (before : List Step) (p : SpelledRecord)
    (records : List SpelledRecord) (after : List ℕ) → Standing k (suc n) end earlier (v ∷ offsets) before (p ∷ records)
    → AreOfModes (modes_from k (suc n)) (p ∷ records) after → offsets_in records ≡ offsets → p.row ≡ r.Offset k v → ended_part_fault before ≡ None
    → (Standing (suc k) n end (earlier ++ v ∷ []) offsets (before ++ read (size_of before) p ∷ []) records
    → IsSoundFrom options (before ++ read (size_of before) p ∷ []) (steps_of (size_of (before ++ read (size_of before) p ∷ [])) records)
    (bytes_of records ++ after))
    → IsSoundFrom options before (steps_of (size_of before) (p ∷ records)) (bytes_of (p ∷ records) ++ after)
first_offset n k options end v earlier offsets before p records after at modes tail its whole onward =
    let it = read (size_of before) p in
    let rest = bytes_of records ++ after in
    let all_in = length-append p.bytes (bytes_of records) in
    let size : size_of (before ++ it ∷ []) ≡ size_of before + length p.bytes = size-append before (it ∷ [])
    ∙ ap (λ (l : List ℕ). size_of before + length l) (append-nil p.bytes) in
    let gap = no_gap_here n k earlier offsets v (size_of before) end (size_of before + length p.bytes) records after modes.1 at.many at.eight tail
    at.first (omega (arith, at.size, all_in)) in
    let is : IsStep options before it rest = header_is_step options (suc (suc k)) before p rest at.count (omega (arith, at.eight)) at.unended
    whole modes.0
    ((λ i. header_fault (at.here i) (size_of before) (size_of before + length p.bytes) (its i))
    ∙ offset_kept earlier v (size_of before) (size_of before + length p.bytes) at.ordered.0 gap) in
    let prefix = before ++ it ∷ [] in
    let next : Standing (suc k) n end (earlier ++ v ∷ []) offsets prefix records = record {
      count = length-append before (it ∷ []) ∙ omega (arith, at.count);
      eight = omega (arith, at.eight);
      many = one_more earlier v ∙ ap suc at.many;
      here = offsets-append before (it ∷ []) ∙ (λ i. at.here i ++ row_offsets p [] k v its i);
      unended = ended-read before (size_of before) p ∙ ap is_module_end its;
      ordered = at.ordered.1;
      passed = beyond-append end earlier (v ∷ []) at.passed (at.beyond.0, tt);
      beyond = at.beyond.1;
      size = omega (arith, size, at.size, all_in);
      some = at.some;
      first = ap first_present (append_assoc earlier (v ∷ []) offsets) ∙ at.first;
    } in
    subst (λ (l : List ℕ). IsSoundFrom options before (steps_of (size_of before) (p ∷ records)) l) (sym (append_assoc p.bytes (bytes_of records) after))
    (sound_step options before it (steps_of (size_of before + length p.bytes) records) rest is
    (subst (λ (m : ℕ). IsSoundFrom options prefix (steps_of m records) rest) size (onward next)))

pub offset_walk : (n k : ℕ) (options : ReadOptions) (end : ℕ) (earlier offsets : List ℕ) (before : List Step) (records : List SpelledRecord)
    (after : List ℕ) → Standing k n end earlier offsets before records
    → AreOfModes (modes_from k n) records after → offsets_in records ≡ offsets
    → IsSoundFrom options before (steps_of (size_of before) records) (bytes_of records ++ after)
offset_walk zero k options end earlier [] before [] after at modes values = tt
offset_walk zero k options end earlier (w ∷ offsets) before [] after at modes values = absurd cc
offset_walk zero k options end earlier offsets before (p ∷ records) after at modes values = absurd modes
offset_walk (suc n) k options end earlier offsets before [] after at modes values = absurd modes
offset_walk (suc n) k options end earlier [] before (p ∷ records) after at modes values =
    let row = offset_row k p.row p.bytes (first_of (bytes_of records ++ after) None) modes.0 in
    let wrong : row.0 ∷ offsets_in records ≡ [] = sym (row_offsets p records k row.0 row.1) ∙ values in absurd cc
offset_walk (suc n) k options end earlier (v ∷ offsets) before (p ∷ records) after at modes values =
    let row = offset_row k p.row p.bytes (first_of (bytes_of records ++ after) None) modes.0 in
    let heads = cons_parts row.0 v (offsets_in records) offsets (sym (row_offsets p records k row.0 row.1) ∙ values) in
    let its : p.row ≡ r.Offset k v = row.1 ∙ ap (λ (w : ℕ). r.Offset k w) heads.0 in
    let whole : ended_part_fault before ≡ None = none_ended before end (subst (λ (l : List ℕ). Beyond end l) (sym at.here) at.passed)
    (omega (arith, at.size)) at.some in
    first_offset n k options end v earlier offsets before p records after at modes heads.1 its whole
    (λ next. offset_walk n (suc k) options end (earlier ++ v ∷ []) offsets (before ++ read (size_of before) p ∷ []) records after next modes.1 heads.1)
