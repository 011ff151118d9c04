-- Records cut off bytes one after another, by reading each where the one before it ends: they are whole, so that the
-- grammar of a file can be computed.
use Rattle.std.proofs.Common.{◌≡◌, ℕ, zero, suc, ◌<◌, ◌≤◌, Bool, true, false, not, ◌&&◌, nat_lt, nat_le, cond, List, [], ◌∷◌, ◌++◌, length, take}
use Rattle.std.proofs.Common.{drop, Option, Some, None, refl, sym, ap, subst, ◌∙◌, arith}
use Rattle.std.specs.List.{list_all}
use Rattle.std.proofs.lemmas.List.{take-append-le, drop-append-le, take-append-drop}
use Rattle.mufom_numbers.specs.declared.taken.Taken.{Taken}
use Rattle.mufom_numbers.specs.declared.taken.Taken.TheVariants.{Got, More, Bad}
use Rattle.mufom_numbers.specs.Spelling.{AreBytes, IfGot}
use Rattle.mufom_records.specs.declared.options.ReadOptions.{ReadOptions}
use Rattle.mufom_records.specs.declared.record.Mode.{Mode}
use Rattle.mufom_records.specs.declared.record.Record.{Record}
use Rattle.mufom_records.specs.Fields.{first_of}
use Rattle.mufom_records.specs.Layouts.{IsWholeRecord}
use Rattle.mufom_records.specs.Reading.{record_at}
use Rattle.mufom_records.proofs.RecordLaws.{record_at-got}
use Rattle.mufom_module.specs.SpelledRecords.{SpelledRecord, bytes_of}
use Rattle.mufom_module.specs.RecordParts.{Part, stands_in, opens_items, mode_of}
use Rattle.mufom_module.specs.Grammar.{header_modes, AreOfModes, AreWhole, IsPart, file_limit, declares_again, states_again, names_unknown}
use Rattle.mufom_module.specs.Grammar.{has_no_section, Follows, FollowFrom}

-- ---- tests

and-both : (a b : Bool) → (a && b) ≡ true → (a ≡ true) × (b ≡ true)
and-both true b h = (refl, h)
and-both false b h = cc

below : (n : ℕ) → nat_lt n 256 ≡ true → n < 256
below n h = grind arith

pub are_bytes-by_test : (xs : List ℕ) → list_all (λ b. nat_lt b 256) xs ≡ true → AreBytes xs
are_bytes-by_test [] h = tt
are_bytes-by_test (x ∷ xs) h = let both = and-both (nat_lt x 256) (list_all (λ b. nat_lt b 256) xs) h in (below x both.0, are_bytes-by_test xs both.1)

-- ---- cutting

abbrev pub spelled : Record → List ℕ → SpelledRecord
spelled row bytes = record { row = row; bytes = bytes }

abbrev pub with_record : SpelledRecord → Option (List SpelledRecord) → Option (List SpelledRecord)
with_record p None = None
with_record p (Some records) = Some (p ∷ records)

abbrev pub cut_by : List ℕ → Taken Record → (Record → ℕ → Option (List SpelledRecord)) → Option (List SpelledRecord)
cut_by bytes (Got row used) rest = cond (nat_lt 0 used && nat_le used (length bytes)) (with_record (spelled row (take used bytes)) (rest row used)) None
cut_by bytes More rest = None
cut_by bytes (Bad offset reason) rest = None

-- the records and items of these bytes, at most `n`, with other bytes after them
abbrev pub cut : ReadOptions → ℕ → Bool → List ℕ → List ℕ → Option (List SpelledRecord)
cut options zero items bytes after = None
cut options (suc n) items [] after = Some []
cut options (suc n) items (b ∷ bytes) after = cut_by (b ∷ bytes) (record_at (mode_of options items (b ∷ bytes)) ((b ∷ bytes) ++ after))
    (λ row used. cut options n (opens_items row) (drop used (b ∷ bytes)) after)

-- a record of each mode
abbrev pub cut_modes : List Mode → List ℕ → List ℕ → Option (List SpelledRecord)
cut_modes [] [] after = Some []
cut_modes [] (b ∷ bytes) after = None
cut_modes (m ∷ modes) bytes after = cut_by bytes (record_at m (bytes ++ after)) (λ row used. cut_modes modes (drop used bytes) after)

-- ---- what is cut off is whole

-- the first record, and the others, which were cut off the bytes after it
pub record IsCutOff (m : Mode) (bytes after : List ℕ) (rest : Record → ℕ → Option (List SpelledRecord)) (records : List SpelledRecord) : Type 0 where
  pub row : Record
  pub used : ℕ
  pub others : List SpelledRecord
  pub some : 0 < used
  pub is_whole : IsWholeRecord m row (take used bytes) (first_of (drop used bytes ++ after) None)
  pub fits : AreBytes (drop used bytes ++ after)
  pub gives : rest row used ≡ Some others
  pub are : records ≡ spelled row (take used bytes) ∷ others

AreBytes-drop : (n : ℕ) (bytes : List ℕ) → AreBytes bytes → AreBytes (drop n bytes)
AreBytes-drop zero bytes fits = fits
AreBytes-drop (suc n) [] fits = tt
AreBytes-drop (suc n) (b ∷ bytes) fits = AreBytes-drop n bytes fits.1

cond-some : {X : Type 0} (b : Bool) (o : Option X) (x : X) → cond b o None ≡ Some x → (b ≡ true) × (o ≡ Some x)
cond-some true o x h = (refl, h)
cond-some false o x h = cc

with-some : (p : SpelledRecord) (o : Option (List SpelledRecord)) (records : List SpelledRecord) → with_record p o ≡ Some records
    → (others : List SpelledRecord) × (o ≡ Some others) × (records ≡ p ∷ others)
with-some p None records h = cc
with-some p (Some others) records h = let e : p ∷ others ≡ records = cc in (others, refl, sym e)

at_most : (a b : ℕ) → nat_le a b ≡ true → a ≤ b
at_most a b h = grind arith

positive : (a : ℕ) → nat_lt 0 a ≡ true → 0 < a
positive a h = grind arith

cut_off : (m : Mode) (bytes after : List ℕ) (rest : Record → ℕ → Option (List SpelledRecord)) (records : List SpelledRecord) (answer : Taken Record)
    → AreBytes (bytes ++ after)
    → IfGot answer (λ row used. (used ≤ length (bytes ++ after))
    × IsWholeRecord m row (take used (bytes ++ after)) (first_of (drop used (bytes ++ after)) None))
    → cut_by bytes answer rest ≡ Some records → IsCutOff m bytes after rest records
cut_off m bytes after rest records More fits got h = cc
cut_off m bytes after rest records (Bad offset reason) fits got h = cc
cut_off m bytes after rest records (Got row used) fits got h =
    let test = cond-some (nat_lt 0 used && nat_le used (length bytes)) (with_record (spelled row (take used bytes)) (rest row used)) records h in
    let used_is = and-both (nat_lt 0 used) (nat_le used (length bytes)) test.0 in
    let inside = at_most used (length bytes) used_is.1 in
    let made = with-some (spelled row (take used bytes)) (rest row used) records test.1 in
    let prefix = take-append-le used bytes after inside in
    let back = drop-append-le used bytes after inside in
    record {
      row = row;
      used = used;
      others = made.0;
      some = positive used used_is.0;
      is_whole = subst (λ (l : List ℕ). IsWholeRecord m row (take used bytes) (first_of l None)) back
          (subst (λ (l : List ℕ). IsWholeRecord m row l (first_of (drop used (bytes ++ after)) None)) prefix got.1);
      fits = subst (λ (l : List ℕ). AreBytes l) back (AreBytes-drop used (bytes ++ after) fits);
      gives = made.1;
      are = made.2;
    }

-- the first byte shows how a record is read
mode_of-take : (options : ReadOptions) (items : Bool) (used b : ℕ) (bytes : List ℕ) → 0 < used → mode_of options items
    (take used (b ∷ bytes)) ≡ mode_of options items (b ∷ bytes)
mode_of-take options items zero b bytes h = absurd (omega (arith, h))
mode_of-take options items (suc used) b bytes h = refl

-- the records of a part are complete, and have its bytes
pub cut-whole : (options : ReadOptions) (n : ℕ) (items : Bool) (bytes after : List ℕ) (records : List SpelledRecord) → AreBytes (bytes ++ after)
    → cut options n items bytes after
    ≡ Some records
    → AreWhole options items records after × (bytes_of records ≡ bytes)
cut-whole options zero items bytes after records fits h = cc
cut-whole options (suc n) items [] after records fits h = let e : [] ≡ records = cc in
    subst (λ (l : List SpelledRecord). AreWhole options items l after × (bytes_of l ≡ [])) e (tt, refl)
cut-whole options (suc n) items (b ∷ bytes) after records fits h =
    let all = b ∷ bytes in
    let m = mode_of options items all in
    let first = cut_off m all after (λ row used. cut options n (opens_items row) (drop used all) after) records (record_at m (all ++ after)) fits
    (record_at-got m (all ++ after) fits) h in
    let later = cut-whole options n (opens_items first.row) (drop first.used all) after first.others first.fits first.gives in
    let its = subst (λ (l : List ℕ). IsWholeRecord m first.row (take first.used all) (first_of (l ++ after) None)) (sym later.1) first.is_whole in
    let so = subst (λ (mode : Mode). IsWholeRecord mode first.row (take first.used all) (first_of (bytes_of first.others ++ after) None))
    (sym (mode_of-take options items first.used b bytes first.some)) its in
    subst (λ (l : List SpelledRecord). AreWhole options items l after × (bytes_of l ≡ all)) (sym first.are)
    ((so, later.0), ap (λ l. take first.used all ++ l) later.1 ∙ take-append-drop first.used all)

-- and those of a header
pub cut_modes-whole : (modes : List Mode) (bytes after : List ℕ) (records : List SpelledRecord) → AreBytes (bytes ++ after)
    → cut_modes modes bytes after ≡ Some records
    → AreOfModes modes records after × (bytes_of records ≡ bytes)
cut_modes-whole [] [] after records fits h = let e : [] ≡ records = cc in
    subst (λ (l : List SpelledRecord). AreOfModes [] l after × (bytes_of l ≡ [])) e (tt, refl)
cut_modes-whole [] (b ∷ bytes) after records fits h = cc
cut_modes-whole (m ∷ modes) bytes after records fits h =
    let first = cut_off m bytes after (λ row used. cut_modes modes (drop used bytes) after) records (record_at m (bytes ++ after)) fits
    (record_at-got m (bytes ++ after) fits) h in
    let later = cut_modes-whole modes (drop first.used bytes) after first.others first.fits first.gives in
    let its = subst (λ (l : List ℕ). IsWholeRecord m first.row (take first.used bytes) (first_of (l ++ after) None)) (sym later.1) first.is_whole in
    subst (λ (l : List SpelledRecord). AreOfModes (m ∷ modes) l after × (bytes_of l ≡ bytes)) (sym first.are)
    ((its, later.0), ap (λ l. take first.used bytes ++ l) later.1 ∙ take-append-drop first.used bytes)

-- ---- records that follow one another

abbrev pub follows : List SpelledRecord → SpelledRecord → Bool
follows before p = not (declares_again before p.row) && (not (names_unknown before p) && (not (states_again before p.row) && not (has_no_section before p.row)))

abbrev pub follow_from : List SpelledRecord → List SpelledRecord → Bool
follow_from before [] = true
follow_from before (p ∷ records) = follows before p && follow_from (before ++ p ∷ []) records

not-true : (b : Bool) → not b ≡ true → b ≡ false
not-true true h = cc
not-true false h = refl

follows-by_test : (before : List SpelledRecord) (p : SpelledRecord) → follows before p ≡ true → Follows before p
follows-by_test before p h =
    let one = and-both (not (declares_again before p.row)) (not (names_unknown before p)
    && (not (states_again before p.row) && not (has_no_section before p.row))) h in
    let two = and-both (not (names_unknown before p)) (not (states_again before p.row) && not (has_no_section before p.row)) one.1 in
    let three = and-both (not (states_again before p.row)) (not (has_no_section before p.row)) two.1 in
    record {
      new = not-true (declares_again before p.row) one.0;
      known = not-true (names_unknown before p) two.0;
      once = not-true (states_again before p.row) three.0;
      placed = not-true (has_no_section before p.row) three.1;
    }

pub follow-by_test : (before records : List SpelledRecord) → follow_from before records ≡ true → FollowFrom before records
follow-by_test before [] h = tt
follow-by_test before (p ∷ records) h =
    let both = and-both (follows before p) (follow_from (before ++ p ∷ []) records) h in
    (follows-by_test before p both.0, follow-by_test (before ++ p ∷ []) records both.1)

-- ---- the facts of a file, by computing

pub is_part : (options : ReadOptions) (part : Part) (records : List SpelledRecord) (after : List ℕ) → list_all (λ b. nat_lt b 256)
    (bytes_of records ++ after) ≡ true
    → cut options (suc (length records)) false (bytes_of records) after ≡ Some records → list_all (λ p. stands_in part p.row) records ≡ true
    → IsPart options part records after
is_part options part records after small cuts own = record {
  are_whole = (cut-whole options (suc (length records)) false (bytes_of records) after records (are_bytes-by_test (bytes_of records ++ after) small) cuts).0;
  own = own;
}

pub is_header : (records : List SpelledRecord) (after : List ℕ) → list_all (λ b. nat_lt b 256) (bytes_of records ++ after) ≡ true
    → cut_modes header_modes (bytes_of records) after ≡ Some records → AreOfModes header_modes records after
is_header records after small cuts = (cut_modes-whole header_modes (bytes_of records) after records
    (are_bytes-by_test (bytes_of records ++ after) small) cuts).0

pub is_within : (bytes : List ℕ) → nat_le (length bytes) file_limit ≡ true → length bytes ≤ file_limit
is_within bytes h = at_most (length bytes) file_limit h
