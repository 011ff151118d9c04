-- What the records of a part see after them, where the part ends before bytes that are not records.
use Rattle.std.proofs.Common.{◌≡◌, ◌⊎◌, ℕ, ◌+◌, ◌-◌, ◌<◌, ◌≤◌, ◌==◌, ◌&&◌, Bool, true, false, cond, not, nat_lt, List, [], ◌∷◌, ◌++◌, length}
use Rattle.std.proofs.Common.{drop, Option, Some, None, refl, sym, ap, subst, ◌∙◌, inl, inr, arith}
use Rattle.std.specs.List.{AllByRecursion}
use Rattle.std.proofs.lemmas.Bool.{cases_lt, cases_eq, lt-ltb, le-ltb, eq-eqb, ne_eqb}
use Rattle.std.proofs.lemmas.List.{length-append, drop_at}
use Rattle.mufom_records.specs.declared.options.ReadOptions.{ReadOptions}
use Rattle.mufom_records.specs.declared.record.Mode.TheVariants as mode
use Rattle.mufom_records.specs.Fields.{first_of}
use Rattle.mufom_records.specs.Layouts.{IsWholeRecord}
use Rattle.mufom_records.specs.Reading.{next_seen}
use Rattle.mufom_records.proofs.Exact.{first_of-append}
use Rattle.mufom_module.specs.SpelledRecords.{SpelledRecord, bytes_of}
use Rattle.mufom_module.specs.RecordParts.{opens_items, begins_item, items_mode}
use Rattle.mufom_module.specs.Grammar.{AreWhole, module_end, debug_offset, ends_before_debug}
use Rattle.mufom_judging.specs.Prefixes.{Step, size_of, offsets_of, bytes_to_debug}
use Rattle.mufom_judging.proofs.spelled.Begin.{record_some}

-- the bytes after a part that ends at this offset, or the code of the module's end in their place
abbrev pub seen_later : ReadOptions → List ℕ → ℕ → List ℕ → List ℕ
seen_later options all to after = cond (ends_before_debug options all && (to == debug_offset all)) module_end after

-- the debug part does not begin inside of the part
abbrev pub IsOutside : ℕ → ℕ → ℕ → Type 0
IsOutside from to w = (w ≡ 0) ⊎ ((w ≤ from) ⊎ (to ≤ w))

-- what is true of each offset, and of 0, is true of that of the debug part
pub of_debug_offset : (P : ℕ → Type 0) (all : List ℕ) → P 0 → AllByRecursion P all → P (debug_offset all)
of_debug_offset P [] none each = none
of_debug_offset P (a ∷ []) none each = none
of_debug_offset P (a ∷ (b ∷ [])) none each = none
of_debug_offset P (a ∷ (b ∷ (c ∷ []))) none each = none
of_debug_offset P (a ∷ (b ∷ (c ∷ (d ∷ [])))) none each = none
of_debug_offset P (a ∷ (b ∷ (c ∷ (d ∷ (w ∷ more))))) none each = each.1.1.1.1.0

after_text : (text rest : List ℕ) → first_of (drop (length text) (text ++ rest)) None ≡ first_of rest None
after_text text rest = ap (λ (l : List ℕ). first_of l None) (drop_at text rest (length text) refl)

pub first_same : (own a b : List ℕ) → 0 < length own → first_of (own ++ a) None ≡ first_of (own ++ b) None
first_same [] a b some = absurd (omega (arith, some))
first_same (x ∷ own) a b some = refl

pub empty_of : (own : List ℕ) → length own ≡ 0 → own ≡ []
empty_of [] none = refl
empty_of (x ∷ own) none = absurd (omega (arith, none))

-- the byte that a record sees, by what follows it in its part
module _ (size w len to : ℕ) (text own later : List ℕ) (count : length text ≡ len) (some : 0 < len) (total : size + len + length own ≡ to) where
  abbrev Seen : Bool → Type 0
  Seen t = next_seen (cond (t && nat_lt size w) (Some (w - size)) None) (length text) (text ++ (own ++ later))
      ≡ first_of (own ++ cond (t && (to == w)) module_end later) None

  at_end : size < w → to ≡ w → (own : List ℕ) → size + len + length own ≡ to
      → cond (length text == w - size) (Some 0xE1) (first_of (drop (length text) (text ++ (own ++ later))) None) ≡ first_of (own ++ module_end) None
  at_end below same [] all =
      let here : (length text == w - size) ≡ true = eq-eqb (length text) (w - size) (omega (arith, count, same, all)) in
      rw here refl
  at_end below same (x ∷ own) all =
      let away : (length text == w - size) ≡ false = ne_eqb (length text) (w - size) (λ here. omega (arith, count, same, all, here, below)) in
      rw away (after_text text (x ∷ own ++ later))

  inside : size < w → to ≤ w → Seen true
  inside below high =
      let yes : nat_lt size w ≡ true = lt-ltb size w below in
      elim (cases_eq to w) [
        | inl same ↦
            let here : (to == w) ≡ true = eq-eqb to w same in
            rw (yes, here) (at_end below same own total)
        | inr differ ↦
            let away : (to == w) ≡ false = ne_eqb to w differ in
            let apart : (length text == w - size) ≡ false = ne_eqb (length text) (w - size) (λ at. differ (omega (arith, count, at, total, high, below))) in
            rw (yes, away, apart) (after_text text (own ++ later))
      ]

  outside : w ≤ size → Seen true
  outside low =
      let no : nat_lt size w ≡ false = le-ltb size w low in
      let away : (to == w) ≡ false = ne_eqb to w (λ same. omega (arith, same, total, some, low)) in
      rw (no, away) (after_text text (own ++ later))

  pub seen_by : (t : Bool) (from : ℕ) → from ≤ size → IsOutside from to w → Seen t
  seen_by false from begun place = after_text text (own ++ later)
  seen_by true from begun place = elim (cases_lt size w) [
    | inl below ↦ inside below (reach below place)
    | inr low ↦ outside low
  ] where
    reach : size < w → IsOutside from to w → to ≤ w
    reach below (inl none) = absurd (omega (arith, below, none))
    reach below (inr (inl low)) = absurd (omega (arith, below, low, begun))
    reach below (inr (inr high)) = high

-- the byte that a record of a part sees after it
pub seen_as : (options : ReadOptions) (before : List Step) (all : List ℕ) (from to : ℕ) (text own later : List ℕ) → offsets_of before ≡ all
    → IsOutside from to (debug_offset all) → from ≤ size_of before → 0 < length text → size_of before + length text + length own ≡ to
    → next_seen (bytes_to_debug options before) (length text) (text ++ (own ++ later)) ≡ first_of (own ++ seen_later options all to later) None
seen_as options before all from to text own later offsets place begun some total =
    ap (λ (ws : List ℕ). next_seen (cond (ends_before_debug options ws && nat_lt (size_of before) (debug_offset ws))
    (Some (debug_offset ws - size_of before)) None) (length text) (text ++ (own ++ later))) offsets
    ∙ seen_by (size_of before) (debug_offset all) (length text) to text own later refl some total (ends_before_debug options all) from begun place

-- ---- the records of a part, by the first byte that they see

pub no_records : (options : ReadOptions) (items : Bool) (records : List SpelledRecord) (after : List ℕ) → AreWhole options items records after
    → length (bytes_of records) ≡ 0 → records ≡ []
no_records options items [] after are h = refl
no_records options items (p ∷ records) after are h =
    let some = record_some options (items && begins_item p.bytes) p.row p.bytes (first_of (bytes_of records ++ after) None) are.0 in
    absurd (omega (arith, some, h, length-append p.bytes (bytes_of records)))

same_first : (options : ReadOptions) (items : Bool) (records : List SpelledRecord) (a b : List ℕ) → first_of a None ≡ first_of b None
    → AreWhole options items records a → AreWhole options items records b
same_first options items [] a b same are = tt
same_first options items (p ∷ records) a b same are =
    let next : first_of (bytes_of records ++ a) None ≡ first_of (bytes_of records ++ b) None = first_of-append (bytes_of records) a None
    ∙ ap (first_of (bytes_of records)) same ∙ sym (first_of-append (bytes_of records) b None) in (
      subst (λ (n : Option ℕ). IsWholeRecord (cond (items && begins_item p.bytes) (items_mode options) mode.Body) p.row p.bytes n) next are.0,
      same_first options (opens_items p.row) records a b same are.1,
    )

-- whole records before what they see are whole before what the grammar says
pub part_seen : (options : ReadOptions) (records : List SpelledRecord) (all : List ℕ) (here : ℕ) (real target : List ℕ)
    → AreWhole options false records (seen_later options all here real)
    → (ends_before_debug options all ≡ true → here ≡ debug_offset all → (length (bytes_of records) ≡ 0) ⊎ (first_of target None ≡ Some 0xE1))
    → ((ends_before_debug options all ≡ false) ⊎ ((ends_before_debug options all ≡ true) × (here ≡ debug_offset all → ⊥))
    → first_of real None ≡ first_of target None)
    → AreWhole options false records target
part_seen options records all here real target are closed open_ = by_end (ends_before_debug options all) refl are where
  by_end : (t : Bool) → ends_before_debug options all ≡ t → AreWhole options false records (cond (t && (here == debug_offset all)) module_end real)
      → AreWhole options false records target
  by_end false is are = same_first options false records real target (open_ (inl is)) are
  by_end true is are = elim (cases_eq here (debug_offset all)) [
    | inl same ↦
        let yes : (here == debug_offset all) ≡ true = eq-eqb here (debug_offset all) same in
        let there : AreWhole options false records module_end =
        subst (λ (b : Bool). AreWhole options false records (cond b module_end real)) yes are in
        elim (closed is same) [
          | inl empty ↦ subst (λ (l : List SpelledRecord). AreWhole options false l target) (sym (no_records options false records module_end there empty)) tt
          | inr ends ↦ same_first options false records module_end target (sym ends) there
        ]
    | inr differ ↦
        let no : (here == debug_offset all) ≡ false = ne_eqb here (debug_offset all) differ in
        same_first options false records real target (open_ (inr (is, differ)))
        (subst (λ (b : Bool). AreWhole options false records (cond b module_end real)) no are)
  ]

-- the offset of the debug part is not 0 where the parts before end so
pub not_zero_offset : (options : ReadOptions) (all : List ℕ) → ends_before_debug options all ≡ true → debug_offset all ≡ 0 → ⊥
not_zero_offset options all h none = by_parts options.gnu (not options.debug) (not (debug_offset all == 0)) h (ap (λ (n : ℕ). not (n == 0)) none) where
  by_parts : (a b c : Bool) → (a && (b && c)) ≡ true → c ≡ false → ⊥
  by_parts a true true h is = cc
  by_parts true true false h is = cc
  by_parts false b c h is = cc
  by_parts true false c h is = cc

-- it is read so only if the part is skipped
pub skips_debug : (options : ReadOptions) (all : List ℕ) → ends_before_debug options all ≡ true → options.debug ≡ false
skips_debug options all h = by_parts options.gnu options.debug (not (debug_offset all == 0)) h where
  by_parts : (a b c : Bool) → (a && (not b && c)) ≡ true → b ≡ false
  by_parts a false c h = refl
  by_parts true true c h = cc
  by_parts false true c h = cc
