-- What holds of the offsets of a file, and the header of a module's file as a sound prefix.
use Rattle.std.proofs.Common.{◌≡◌, ◌⊎◌, ℕ, zero, suc, ◌+◌, ◌≤◌, Bool, true, false, not, ◌==◌, ◌&&◌, ◌||◌, nat_lt, List, [], ◌∷◌, ◌++◌, length, Option}
use Rattle.std.proofs.Common.{None, is_none, refl, sym, ap, subst, ◌∙◌, inl, inr, arith, append_assoc, append-nil, ne_eqb, length-append}
use Rattle.std.specs.List.{list_any, cons_option, AllByRecursion}
use Rattle.std.proofs.lemmas.Bool.{and_parts, or_from}
use Rattle.mufom_records.specs.declared.record.Mode.TheVariants as mode
use Rattle.mufom_records.specs.declared.record.Record.{Record}
use Rattle.mufom_records.specs.declared.record.Record.TheVariants as r
use Rattle.mufom_records.specs.Fields.{first_of}
use Rattle.mufom_records.specs.Layouts.{IsWholeRecord}
use Rattle.mufom_module.specs.SpelledRecords.{SpelledRecord, bytes_of}
use Rattle.mufom_module.specs.RecordParts.{part_of}
use Rattle.mufom_module.specs.Grammar.{FileParts, header_of, parts_of, AreOfModes, header_modes, offset_in, offsets_in, StandAt}
use Rattle.mufom_judging.specs.Prefixes.{Step, read, size_of, offsets_of, is_module_end, is_ended}
use Rattle.mufom_judging.specs.Faults.{is_bad_descriptor, is_out_of_order, header_fault, fault_if}
use Rattle.mufom_numbers.specs.declared.reason.Reason.TheVariants as why
use Rattle.mufom_judging.specs.Judging.{IsSoundFrom}
use Rattle.mufom_judging.proofs.ended.Rows.{IsBegin, IsDescriptor, begin_row, descriptor_row, offset_row}
use Rattle.mufom_judging.proofs.ended.Header.{ended-read, offsets-append, modes_from}
use Rattle.mufom_judging.proofs.ended.Names.{IsSilent}
use Rattle.mufom_judging.proofs.ended.Stated.{first_at}
use Rattle.mufom_judging.proofs.spelled.Walk.{steps_of, steps_bytes, steps_records, IsStep, sound_step, Beyond, none_ended}
use Rattle.mufom_judging.proofs.spelled.Header.{header_is_step, AreOrdered, Standing, offset_walk}
use Rattle.mufom_judging.proofs.spelled.Parts.{Joint}
use Rattle.mufom_records.specs.declared.options.ReadOptions.{ReadOptions}

-- ---- offsets

pub stand_beyond : (offsets : List ℕ) (at n : ℕ) (parts : List (List ℕ)) → n ≤ at → StandAt offsets at parts → Beyond n offsets
stand_beyond offsets at n [] low stand = subst (λ (l : List ℕ). Beyond n l) (sym stand) (inr low, tt)
stand_beyond [] at n (x ∷ parts) low stand = absurd stand
stand_beyond (w ∷ offsets) at n (x ∷ parts) low stand = (beyond stand.0, stand_beyond offsets (at + length x) n parts (omega arith) stand.1) where
  beyond : (w ≡ at) ⊎ ((w ≡ 0) × (x ≡ [])) → (w ≡ 0) ⊎ (n ≤ w)
  beyond (inl here) = inr (omega arith)
  beyond (inr none) = inl none.0

pub stand_count : (offsets : List ℕ) (at : ℕ) (parts : List (List ℕ)) → StandAt offsets at parts → length offsets ≡ suc (length parts)
stand_count offsets at [] stand = ap length stand
stand_count [] at (x ∷ parts) stand = absurd stand
stand_count (w ∷ offsets) at (x ∷ parts) stand = ap suc (stand_count offsets (at + length x) parts stand.1)

none_below : (earlier : List ℕ) (w : ℕ) → AllByRecursion (λ e. e ≤ w) earlier → list_any (λ e. nat_lt w e) earlier ≡ false
none_below [] w all = refl
none_below (e ∷ earlier) w all = or_from _ _ (not_above w e all.0) (none_below earlier w all.1) where
  not_above : (a b : ℕ) → b ≤ a → nat_lt a b ≡ false
  not_above a b h = grind arith

rises : (earlier : List ℕ) (at more : ℕ) (w : ℕ) → AllByRecursion (λ e. e ≤ at) earlier → w ≤ at → AllByRecursion (λ e. e ≤ at + more) (earlier ++ w ∷ [])
rises [] at more w all low = (omega arith, tt)
rises (e ∷ earlier) at more w all low = (let h = all.0 in omega arith, rises earlier at more w all.1 low)

in_order_here : (earlier : List ℕ) (w at : ℕ) → w ≡ at → 1 ≤ at → AllByRecursion (λ e. e ≤ at) earlier → is_out_of_order earlier w ≡ false
in_order_here earlier w at here some all =
    let none : list_any (λ e. nat_lt w e) earlier ≡ false = ap (λ (k : ℕ). list_any (λ e. nat_lt k e) earlier) here ∙ none_below earlier at all in
    let present : (w == 0) ≡ false = ne_eqb w 0 (λ h. omega arith) in
    or_from _ _ (ap (λ b. not (w == 0) && b) none ∙ off (not (w == 0))) (ap (λ b. (length earlier == 7) && b) present ∙ off (length earlier == 7))
  where
    off : (a : Bool) → (a && false) ≡ false
    off true = refl
    off false = refl

in_order_none : (earlier : List ℕ) (w : ℕ) → w ≡ 0 → (length earlier ≡ 7 → ⊥) → is_out_of_order earlier w ≡ false
in_order_none earlier w none few =
    ap (λ (k : ℕ). is_out_of_order earlier k) none ∙ ap (λ b. (false && list_any (λ e. nat_lt 0 e) earlier) || (b && true)) (ne_eqb (length earlier) 7 few)

pub stand_ordered : (offsets : List ℕ) (earlier : List ℕ) (at : ℕ) (parts : List (List ℕ)) → 1 ≤ at → AllByRecursion (λ e. e ≤ at) earlier
    → length earlier + length offsets ≡ 8 → StandAt offsets at parts → AreOrdered earlier offsets
stand_ordered offsets earlier at [] some all eight stand = subst (λ (l : List ℕ). AreOrdered earlier l) (sym stand)
    (in_order_here earlier at at refl some all, tt)
stand_ordered [] earlier at (x ∷ parts) some all eight stand = absurd stand
stand_ordered (w ∷ offsets) earlier at (x ∷ parts) some all eight stand =
    let count = stand_count offsets (at + length x) parts stand.1 in (
      first stand.0 count,
      stand_ordered offsets (earlier ++ w ∷ []) (at + length x) parts (omega arith)
          (rises earlier at (length x) w all (low stand.0)) (omega (arith, length-append earlier (w ∷ []), eight)) stand.1,
    )
  where
    first : (w ≡ at) ⊎ ((w ≡ 0) × (x ≡ [])) → length offsets ≡ suc (length parts) → is_out_of_order earlier w ≡ false
    first (inl here) count = in_order_here earlier w at here some all
    first (inr none) count = in_order_none earlier w none.0 (λ h. omega arith)

    low : (w ≡ at) ⊎ ((w ≡ 0) × (x ≡ [])) → w ≤ at
    low (inl here) = omega arith
    low (inr none) = omega (arith, none.0)

-- ---- records of the header

offsets_silent : (n k : ℕ) (records : List SpelledRecord) (after : List ℕ) → AreOfModes (modes_from k n) records after → IsSilent records
offsets_silent zero k [] after are = refl
offsets_silent zero k (p ∷ records) after are = absurd are
offsets_silent (suc n) k [] after are = absurd are
offsets_silent (suc n) k (p ∷ records) after are =
    let row = offset_row k p.row p.bytes (first_of (bytes_of records ++ after) None) are.0 in
    (λ i. is_none (part_of (row.1 i)) && offsets_silent n (suc k) records after are.1 i)

offsets_many : (n k : ℕ) (records : List SpelledRecord) (after : List ℕ) → AreOfModes (modes_from k n) records after → length records ≡ n
offsets_many zero k [] after are = refl
offsets_many zero k (p ∷ records) after are = absurd are
offsets_many (suc n) k [] after are = absurd are
offsets_many (suc n) k (p ∷ records) after are = ap suc (offsets_many n (suc k) records after are.1)

steps_many : (at : ℕ) (records : List SpelledRecord) → length (steps_of at records) ≡ length records
steps_many at [] = refl
steps_many at (p ∷ records) = ap suc (steps_many (at + length p.bytes) records)

silent_unended : (before : List Step) (at : ℕ) (records : List SpelledRecord) → IsSilent records → is_ended before ≡ false
    → is_ended (before ++ steps_of at records) ≡ false
silent_unended before at [] quiet open_ = ap (λ l. is_ended l) (append-nil before) ∙ open_
silent_unended before at (p ∷ records) quiet open_ =
    let both = and_parts (is_none (part_of p.row)) _ quiet in
    ap (λ l. is_ended l) (sym (append_assoc before (read at p ∷ []) (steps_of (at + length p.bytes) records)))
    ∙ silent_unended (before ++ read at p ∷ []) (at + length p.bytes) records both.1 (ended-read before at p ∙ not_end p.row both.0)
  where
    not_end : (row : Record) → is_none (part_of row) ≡ true → is_module_end row ≡ false
    not_end r.ModuleEnd h = cc
    not_end row h = refl

-- what is known of the records of a header
pub record HeaderRows (f : FileParts) : Type 0 where
  pub begins : IsBegin f.begin.row
  pub describes : IsDescriptor f.descriptor.row
  pub silent : IsSilent (header_of f)
  pub many : length (header_of f) ≡ 10
  pub offsets : offsets_in (header_of f) ≡ offsets_in f.offsets

pub header_rows : (f : FileParts) (after : List ℕ) → AreOfModes header_modes (header_of f) after → HeaderRows f
header_rows f after are =
    let begins = begin_row f.begin.row f.begin.bytes (first_of (bytes_of (f.descriptor ∷ f.offsets) ++ after) None) are.0 in
    let describes = descriptor_row f.descriptor.row f.descriptor.bytes (first_of (bytes_of f.offsets ++ after) None) are.1.0 in
    record {
      begins = begins;
      describes = describes;
      silent = (λ i. is_none (part_of (begins.2 i)) && (is_none (part_of (describes.3 i)) && offsets_silent 8 0 f.offsets after are.1.1 i));
      many = ap (λ (n : ℕ). suc (suc n)) (offsets_many 8 0 f.offsets after are.1.1);
      offsets = (λ i. cons_option (offset_in (begins.2 i)) (cons_option (offset_in (describes.3 i)) (offsets_in f.offsets)));
    }

-- ---- the header as a prefix

positive : (row : Record) (bytes : List ℕ) (next : Option ℕ) → IsWholeRecord mode.Begin row bytes next → 1 ≤ length bytes
positive row bytes next is = let e = ap length is.5 ∙ length-append is.1 is.2 in let one = ap length is.3 in omega arith

header_some : (f : FileParts) (after : List ℕ) → AreOfModes header_modes (header_of f) after → 1 ≤ length (bytes_of (header_of f))
header_some f after are = let one = positive f.begin.row f.begin.bytes _ are.0 in
    omega (arith, length-append f.begin.bytes (bytes_of (f.descriptor ∷ f.offsets)))

-- after the descriptor
offsets_standing : (f : FileParts) (after : List ℕ) (before : List Step) → AreOfModes header_modes (header_of f) after → HeaderRows f
    → StandAt (offsets_in f.offsets) (length (bytes_of (header_of f))) (parts_of f) → length before ≡ 2 → offsets_of before ≡ [] → is_ended before ≡ false
    → size_of before ≡ length f.begin.bytes + length f.descriptor.bytes
    → Standing 0 8 (length (bytes_of (header_of f))) [] (offsets_in f.offsets) before f.offsets
offsets_standing f after before are rows stand two none open_ size =
    let end = length (bytes_of (header_of f)) in
    let some = header_some f after are in
    record {
      count = two;
      eight = refl;
      many = refl;
      here = none;
      unended = open_;
      ordered = stand_ordered (offsets_in f.offsets) [] end (parts_of f) some tt
          (omega (arith, stand_count (offsets_in f.offsets) end (parts_of f) stand)) stand;
      passed = tt;
      beyond = stand_beyond (offsets_in f.offsets) end end (parts_of f) (omega arith) stand;
      size = omega (arith, size, length-append f.begin.bytes (bytes_of (f.descriptor ∷ f.offsets)), length-append f.descriptor.bytes (bytes_of f.offsets));
      some = some;
      first = first_at (offsets_in f.offsets) end (parts_of f) some stand;
    }

-- the header is sound
pub header_prefix : (options : ReadOptions) (f : FileParts) (after : List ℕ) → AreOfModes header_modes (header_of f) after → HeaderRows f
    → is_bad_descriptor f.descriptor.row ≡ false → StandAt (offsets_in f.offsets) (length (bytes_of (header_of f))) (parts_of f)
    → IsSoundFrom options [] (steps_of 0 (header_of f)) (bytes_of (header_of f) ++ after)
header_prefix options f after are rows good stand =
    let a = read 0 f.begin in
    let n = length f.begin.bytes in
    let b = read (0 + n) f.descriptor in
    let later = bytes_of f.offsets ++ after in
    let rest = f.descriptor.bytes ++ later in
    let split_rest : bytes_of (f.descriptor ∷ f.offsets) ++ after ≡ rest = append_assoc f.descriptor.bytes (bytes_of f.offsets) after in
    let split : bytes_of (header_of f) ++ after ≡ f.begin.bytes ++ rest = append_assoc f.begin.bytes (bytes_of (f.descriptor ∷ f.offsets)) after
    ∙ ap (λ l. f.begin.bytes ++ l) split_rest in
    let first : IsStep options [] a rest = header_is_step options 0 [] f.begin rest refl (omega arith) refl refl
    (subst (λ (l : List ℕ). IsWholeRecord mode.Begin f.begin.row f.begin.bytes (first_of l None)) split_rest are.0)
    (ap (λ (row : Record). header_fault [] 0 (0 + n) row) rows.begins.2) in
    let none : offsets_of (a ∷ []) ≡ [] = ap (λ (row : Record). offsets_in (record { row = row; bytes = f.begin.bytes } ∷ [])) rows.begins.2 in
    let size : size_of (a ∷ []) ≡ 0 + n = ap length (append-nil f.begin.bytes) ∙ omega arith in
    let second : IsStep options (a ∷ []) b later = subst (λ (k : ℕ). IsStep options (a ∷ []) (read k f.descriptor) later) size
    (header_is_step options 1 (a ∷ []) f.descriptor later refl (omega arith) (ap is_module_end rows.begins.2)
    (none_ended (a ∷ []) (suc n) (subst (λ (l : List ℕ). Beyond (suc n) l) (sym none) tt) (omega (arith, size)) (omega arith)) are.1.0
    ((λ i. header_fault (none i) (size_of (a ∷ [])) (size_of (a ∷ []) + length f.descriptor.bytes) (rows.describes.3 i))
    ∙ ap (λ t. fault_if t (size_of (a ∷ [])) why.BadDescriptor) (sym (ap is_bad_descriptor rows.describes.3) ∙ good))) in
    let prefix = a ∷ b ∷ [] in
    let two_size : size_of prefix ≡ 0 + n + length f.descriptor.bytes =
    ap (λ (l : List ℕ). length (f.begin.bytes ++ l)) (append-nil f.descriptor.bytes) ∙ length-append f.begin.bytes f.descriptor.bytes ∙ omega arith in
    let none_two : offsets_of prefix ≡ [] = offsets-append (a ∷ []) (b ∷ [])
    ∙ (λ i. none i ++ offsets_in (record { row = rows.describes.3 i; bytes = f.descriptor.bytes } ∷ [])) in
    let standing = offsets_standing f after prefix are rows stand refl none_two (ap is_module_end rows.describes.3) (two_size ∙ omega arith) in
    let on = offset_walk 8 0 options (length (bytes_of (header_of f))) [] (offsets_in f.offsets) prefix f.offsets after standing are.1.1 refl in
    subst (λ (l : List ℕ). IsSoundFrom options [] (steps_of 0 (header_of f)) l) (sym split)
    (sound_step options [] a (b ∷ steps_of (0 + n + length f.descriptor.bytes) f.offsets) rest first
    (sound_step options (a ∷ []) b (steps_of (0 + n + length f.descriptor.bytes) f.offsets) later second
    (subst (λ (k : ℕ). IsSoundFrom options prefix (steps_of k f.offsets) later) two_size on)))

-- after the header the parts begin
pub header_joint : (f : FileParts) (after : List ℕ) → AreOfModes header_modes (header_of f) after → HeaderRows f
    → StandAt (offsets_in f.offsets) (length (bytes_of (header_of f))) (parts_of f) → Joint (offsets_in f.offsets) (steps_of 0 (header_of f))
header_joint f after are rows stand =
    let prefix = steps_of 0 (header_of f) in
    let end = length (bytes_of (header_of f)) in
    let offsets : offsets_of prefix ≡ offsets_in f.offsets = ap offsets_in (steps_records 0 (header_of f)) ∙ rows.offsets in
    let size : size_of prefix ≡ end = ap length (steps_bytes 0 (header_of f)) in
    record {
      many = omega (arith, steps_many 0 (header_of f), rows.many);
      offsets = offsets;
      unended = silent_unended [] 0 (header_of f) rows.silent refl;
      whole = none_ended prefix end (subst (λ (l : List ℕ). Beyond end l) (sym offsets)
          (stand_beyond (offsets_in f.offsets) end end (parts_of f) (omega arith) stand)) (omega arith) (header_some f after are);
    }

pub header_size : (f : FileParts) (after : List ℕ) → AreOfModes header_modes (header_of f) after
    → (size_of (steps_of 0 (header_of f)) ≡ length (bytes_of (header_of f))) × (1 ≤ length (bytes_of (header_of f)))
header_size f after are = (ap length (steps_bytes 0 (header_of f)), header_some f after are)
