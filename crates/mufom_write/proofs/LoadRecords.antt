-- The data part and the trailer of a written form as records and items.
use Rattle.std.proofs.Common.{◌≡◌, ℕ, ◌+◌, ◌^◌, ◌<◌, ◌≤◌, ◌==◌, Bool, true, false, ◌||◌, ◌&&◌, nat_lt, List, [], ◌∷◌, ◌++◌, length, Option, Some}
use Rattle.std.proofs.Common.{None, refl, sym, subst, ap, ◌∙◌, arith, append_assoc}
use Rattle.std.specs.Prelude.{if◌then◌else◌}
use Rattle.std.specs.List.{AllByRecursion, list_all}
use Rattle.std.proofs.lemmas.List.{append-nil}
use Rattle.std.proofs.lemmas.List.Folds.{list_all-append}
use Rattle.std.proofs.lemmas.Bool.{ltb-false}
use Rattle.mufom_numbers.specs.declared.limits.TheConstants.{MOST_STRING_BYTES as longest}
use Rattle.mufom_numbers.specs.Spelling.{AreBytes, SpellsNumber}
use Rattle.mufom_expr.specs.declared.token.FieldKind.{FieldKind}
use Rattle.mufom_expr.specs.declared.token.FieldKind.TheVariants.{Signed, Unsigned, Either}
use Rattle.mufom_expr.specs.Tree.{Tree}
use Rattle.mufom_expr.specs.TokenAt.{begins_number}
use Rattle.mufom_records.specs.declared.record.Mode.{Mode}
use Rattle.mufom_records.specs.declared.record.Mode.TheVariants as mode
use Rattle.mufom_records.specs.declared.record.Record.TheVariants as r
use Rattle.mufom_records.specs.Fields.{span_at, is_one_of, first_of}
use Rattle.mufom_records.specs.Layouts.{opening_brackets, IsWholeRecord}
use Rattle.mufom_records.proofs.NumberLaws.{number_first}
use Rattle.mufom_loads.specs.declared.load.Item.{Item}
use Rattle.mufom_loads.specs.declared.load.Item.TheVariants.{Literal, Field}
use Rattle.mufom_loads.specs.declared.load.Load.{Load}
use Rattle.mufom_loads.specs.declared.load.Load.TheVariants.{SetSection, SetPc, One, Repeat}
use Rattle.mufom_module.proofs.GnuLaws.{plainly}
use Rattle.mufom_module.specs.SpelledRecords.{SpelledRecord, bytes_of}
use Rattle.mufom_module.specs.RecordParts.{data_part, trailer_part, stands_in, opens_items, mode_of}
use Rattle.mufom_module.specs.Grammar.{AreWhole, IsPart}
use Rattle.mufom_module.specs.Written.{shortest, section_index}
use Rattle.mufom_module.specs.Written as w
use Rattle.mufom_module.specs.Defects.{is_long}
use Rattle.mufom_write.proofs.Rows.{IsCode, IsWhole, value_at, spells, set_pc-whole}
use Rattle.mufom_write.proofs.LoadRows.{run_at, set_section-whole, constant-whole, relocate-whole, repeat_constant-whole, repeat_relocate-whole}
use Rattle.mufom_write.proofs.LoadRows.{constant_item-whole, field-whole, start-whole}
use Rattle.mufom_write.proofs.Indexed.{IsFittingTree, indexed, expression-spells}
use Rattle.mufom_write.proofs.Laying.{spelled as the_record, IsRecord, bytes_of-append, code-first}

-- ---- the records

abbrev pub literal_record : List ℕ → SpelledRecord
literal_record bytes = the_record (r.ConstantItem (run_at 0 bytes)) (w.counted shortest bytes)

abbrev pub field_record : FieldKind → Tree → ℕ → SpelledRecord
field_record kind value size = the_record (r.FieldItem kind (span_at 1 (length (w.expression shortest value))) (Some size)) (w.field shortest kind value size)

abbrev pub item_record : Item → SpelledRecord
item_record (Literal bytes) = literal_record bytes
item_record (Field kind size value) = field_record kind value size

abbrev pub item_records : List Item → List SpelledRecord
item_records [] = []
item_records (item ∷ items) = item_record item ∷ item_records items

abbrev pub relocate_record : SpelledRecord
relocate_record = the_record r.Relocate (0xE4 ∷ [])

abbrev pub single_records : Item → List SpelledRecord
single_records (Literal bytes) = the_record (r.Constant (run_at 1 bytes)) (0xED ∷ w.counted shortest bytes) ∷ []
single_records (Field kind size value) = relocate_record ∷ field_record kind value size ∷ []

abbrev pub repeat_record : ℕ → SpelledRecord
repeat_record count = the_record (r.RepeatRelocate count) (0xF7 ∷ (w.number shortest count ++ 0xE4 ∷ []))

abbrev pub repeat_records : ℕ → List Item → List SpelledRecord
repeat_records count [] = repeat_record count ∷ []
repeat_records count (Literal bytes ∷ []) =
    the_record (r.RepeatConstant count (run_at (1 + length (w.number shortest count) + 1) bytes))
    (0xF7 ∷ (w.number shortest count ++ 0xED ∷ w.counted shortest bytes)) ∷ []
repeat_records count (Field kind size value ∷ []) = repeat_record count ∷ field_record kind value size ∷ []
repeat_records count (first ∷ second ∷ more) = repeat_record count ∷ item_records (first ∷ second ∷ more)

abbrev pub load_records : Load → List SpelledRecord
load_records (SetSection section) = the_record (r.SetSection (section_index section)) (0xE5 ∷ w.number shortest (section_index section)) ∷ []
load_records (SetPc section value) =
    the_record (r.SetPc (section_index section) (value_at (section_index section) (w.expression shortest value)))
    (0xE2 ∷ 0xD0 ∷ (w.number shortest (section_index section) ++ w.expression shortest value)) ∷ []
load_records (One item) = single_records item
load_records (Repeat count items) = repeat_records count items

abbrev pub loads_records : List Load → List SpelledRecord
loads_records [] = []
loads_records (load ∷ loads) = load_records load ++ loads_records loads

abbrev pub start_records : Option Tree → List SpelledRecord
start_records None = []
start_records (Some value) = the_record (r.Start (span_at 3 (length (w.expression shortest value)))) (w.start shortest (Some value)) ∷ []

-- ---- their bytes

one-the_record : (p : SpelledRecord) → bytes_of (p ∷ []) ≡ p.bytes
one-the_record p = append-nil p.bytes

item-bytes : (item : Item) → (item_record item).bytes ≡ w.item shortest item
item-bytes (Literal bytes) = refl
item-bytes (Field kind size value) = refl

items-bytes : (k : ℕ) (items : List Item) → bytes_of (item_records items) ≡ w.each_from k (λ _. w.item shortest) items
items-bytes k [] = refl
items-bytes k (item ∷ items) = let first = item-bytes item in let rest = items-bytes (k + 1) items in λ i. first i ++ rest i

single-bytes : (item : Item) → bytes_of (single_records item) ≡ w.single shortest item
single-bytes (Literal bytes) = one-the_record (the_record (r.Constant (run_at 1 bytes)) (0xED ∷ w.counted shortest bytes))
single-bytes (Field kind size value) = ap (λ (l : List ℕ). 0xE4 ∷ l) (one-the_record (field_record kind value size))

after-repeat : (count : ℕ) (rest : List ℕ) → (0xF7 ∷ (w.number shortest count ++ 0xE4 ∷ [])) ++ rest ≡ 0xF7 ∷ (w.number shortest count ++ 0xE4 ∷ rest)
after-repeat count rest = ap (λ (l : List ℕ). 0xF7 ∷ l) (append_assoc (w.number shortest count) (0xE4 ∷ []) rest)

repeat-bytes : (count : ℕ) (items : List Item) → bytes_of (repeat_records count items) ≡ w.load shortest (Repeat count items)
repeat-bytes count [] = one-the_record (repeat_record count)
repeat-bytes count (Literal bytes ∷ []) =
    one-the_record (the_record (r.RepeatConstant count (run_at (1 + length (w.number shortest count) + 1) bytes))
    (0xF7 ∷ (w.number shortest count ++ 0xED ∷ w.counted shortest bytes)))
repeat-bytes count (Field kind size value ∷ []) =
    after-repeat count (bytes_of (field_record kind value size ∷ []))
    ∙ ap (λ (l : List ℕ). 0xF7 ∷ (w.number shortest count ++ 0xE4 ∷ l)) (one-the_record (field_record kind value size))
repeat-bytes count (first ∷ second ∷ more) =
    after-repeat count (bytes_of (item_records (first ∷ second ∷ more)))
    ∙ ap (λ (l : List ℕ). 0xF7 ∷ (w.number shortest count ++ 0xE4 ∷ l)) (items-bytes 0 (first ∷ second ∷ more))

load-bytes : (load : Load) → bytes_of (load_records load) ≡ w.load shortest load
load-bytes (SetSection section) = one-the_record (the_record (r.SetSection (section_index section)) (0xE5 ∷ w.number shortest (section_index section)))
load-bytes (SetPc section value) =
    one-the_record (the_record (r.SetPc (section_index section) (value_at (section_index section) (w.expression shortest value)))
    (0xE2 ∷ 0xD0 ∷ (w.number shortest (section_index section) ++ w.expression shortest value)))
load-bytes (One item) = single-bytes item
load-bytes (Repeat count items) = repeat-bytes count items

pub loads-bytes : (k : ℕ) (loads : List Load) → bytes_of (loads_records loads) ≡ w.each_from k (λ _. w.load shortest) loads
loads-bytes k [] = refl
loads-bytes k (load ∷ loads) =
    let first = load-bytes load in
    let rest = loads-bytes (k + 1) loads in
    bytes_of-append (load_records load) (loads_records loads) ∙ (λ i. first i ++ rest i)

pub start-bytes : (start : Option Tree) → bytes_of (start_records start) ≡ w.start shortest start
start-bytes None = refl
start-bytes (Some value) = one-the_record (the_record (r.Start (span_at 3 (length (w.expression shortest value)))) (w.start shortest (Some value)))

-- ---- each is whole

abbrev pub IsFittingItem : Item → Type 0
IsFittingItem (Literal bytes) = (is_long bytes ≡ false) × AreBytes bytes
IsFittingItem (Field kind size value) = IsFittingTree value × (size < 2 ^ 64) × (((size == 0) || nat_lt 8 size) ≡ false)

abbrev pub IsFittingLoad : Load → Type 0
IsFittingLoad (SetSection section) = section_index section < 2 ^ 32
IsFittingLoad (SetPc section value) = (section_index section < 2 ^ 32) × IsFittingTree value
IsFittingLoad (One item) = IsFittingItem item
IsFittingLoad (Repeat count items) = (count < 2 ^ 64) × AllByRecursion IsFittingItem items

no_item : (b : ℕ) → 0xE0 ≤ b → (begins_number b || is_one_of opening_brackets b) ≡ false
no_item b h = grind arith

is_item : (b : ℕ) → begins_number b ≡ true → (begins_number b || is_one_of opening_brackets b) ≡ true
is_item b h = ap (λ (t : Bool). t || is_one_of opening_brackets b) h

chosen : (items test : Bool) → test ≡ false → (if items && test then mode.Items else mode.Body) ≡ mode.Body
chosen true test h = ap (λ (t : Bool). if t then mode.Items else mode.Body) h
chosen false test h = refl

mode-plain : (items : Bool) (bytes : List ℕ) → IsCode (first_of bytes None) → mode_of (plainly true) items bytes ≡ mode.Body
mode-plain items [] code = absurd code
mode-plain items (b ∷ bytes) code = chosen items (begins_number b || is_one_of opening_brackets b) (no_item b code)

-- records and items are whole whether or not items may come first, and a record follows
record AreLaid (records : List SpelledRecord) (after : List ℕ) : Type 0 where
  whole : (items : Bool) → AreWhole (plainly true) items records after
  code : IsCode (first_of (bytes_of records ++ after) None)

plain-first : (p : SpelledRecord) (rest : List SpelledRecord) (after : List ℕ) → IsWhole p.row p.bytes → IsCode (first_of p.bytes None)
    → IsCode (first_of (bytes_of rest ++ after) None)
    → AreWhole (plainly true) (opens_items p.row) rest after → AreLaid (p ∷ rest) after
plain-first p rest after whole code next rest_whole = record {
  whole = λ items. (
    subst (λ (m : Mode). IsWholeRecord m p.row p.bytes (first_of (bytes_of rest ++ after) None)) (sym (mode-plain items p.bytes code))
        (whole (first_of (bytes_of rest ++ after) None) next),
    rest_whole,
  );
  code = code-first (p.bytes ++ bytes_of rest) after (code-first p.bytes (bytes_of rest) code);
}

-- a record after which items may come, which need no record after them
open-first : (p : SpelledRecord) (rest : List SpelledRecord) (after : List ℕ) → ((next : Option ℕ) → IsWholeRecord mode.Body p.row p.bytes next)
    → IsCode (first_of p.bytes None)
    → AreWhole (plainly true) (opens_items p.row) rest after → AreLaid (p ∷ rest) after
open-first p rest after whole code rest_whole = record {
  whole = λ items. (
    subst (λ (m : Mode). IsWholeRecord m p.row p.bytes (first_of (bytes_of rest ++ after) None)) (sym (mode-plain items p.bytes code))
        (whole (first_of (bytes_of rest ++ after) None)),
    rest_whole,
  );
  code = code-first (p.bytes ++ bytes_of rest) after (code-first p.bytes (bytes_of rest) code);
}

-- ---- items

mode-number : (n : ℕ) (prefix rest : List ℕ) → SpellsNumber n prefix → mode_of (plainly true) true (prefix ++ rest) ≡ mode.Items
mode-number n [] rest spelled = absurd spelled
mode-number n (b ∷ prefix) rest spelled =
    let first = number_first n (b ∷ prefix) spelled in
    let same : b ≡ first.0 = cc in
    ap (λ (t : Bool). if true && t then mode.Items else mode.Body) (is_item b (ap begins_number same ∙ first.3))

counts : (n : ℕ) → nat_lt longest n ≡ false → n < 2 ^ 64
counts n h = let few = ltb-false longest n h in omega (arith, few)

literal-whole : (bytes : List ℕ) (next : Option ℕ) → is_long bytes ≡ false → AreBytes bytes
    → IsWholeRecord (mode_of (plainly true) true (w.counted shortest bytes)) (r.ConstantItem (run_at 0 bytes)) (w.counted shortest bytes) next
literal-whole bytes next short are =
    let same = mode-number (length bytes) (w.number shortest (length bytes)) bytes (spells (length bytes) (counts (length bytes) short)) in
    subst (λ (m : Mode). IsWholeRecord m (r.ConstantItem (run_at 0 bytes)) (w.counted shortest bytes) next) (sym same)
    (constant_item-whole bytes short are next)

field-first : (kind : FieldKind) (value : Tree) (size : ℕ) (next : Option ℕ) → IsFittingItem (Field kind size value)
    → IsWholeRecord (mode_of (plainly true) true (w.field shortest kind value size))
    (r.FieldItem kind (span_at 1 (length (w.expression shortest value))) (Some size)) (w.field shortest kind value size) next
field-first Signed value size next fits = field-whole Signed (indexed value) value size (expression-spells value fits.0) fits.1 fits.2 next
field-first Unsigned value size next fits = field-whole Unsigned (indexed value) value size (expression-spells value fits.0) fits.1 fits.2 next
field-first Either value size next fits = field-whole Either (indexed value) value size (expression-spells value fits.0) fits.1 fits.2 next

items-laid : (items : List Item) (rest : List SpelledRecord) (after : List ℕ) → AllByRecursion IsFittingItem items → AreLaid rest after
    → AreWhole (plainly true) true (item_records items ++ rest) after
items-laid [] rest after fit laid = laid.whole true
items-laid (Literal bytes ∷ items) rest after fit laid =
    (literal-whole bytes (first_of (bytes_of (item_records items ++ rest) ++ after) None) fit.0.0 fit.0.1, items-laid items rest after fit.1 laid)
items-laid (Field kind size value ∷ items) rest after fit laid =
    (field-first kind value size (first_of (bytes_of (item_records items ++ rest) ++ after) None) fit.0, items-laid items rest after fit.1 laid)

-- ---- loads

single-laid : (item : Item) (rest : List SpelledRecord) (after : List ℕ) → IsFittingItem item → AreLaid rest after → AreLaid (single_records item ++ rest) after
single-laid (Literal bytes) rest after fits laid =
    plain-first (the_record (r.Constant (run_at 1 bytes)) (0xED ∷ w.counted shortest bytes)) rest after (constant-whole bytes fits.0 fits.1)
    (omega arith) laid.code (laid.whole false)
single-laid (Field kind size value) rest after fits laid =
    open-first relocate_record (field_record kind value size ∷ rest) after relocate-whole (omega arith)
    (items-laid (Field kind size value ∷ []) rest after (fits, tt) laid)

repeat-laid : (count : ℕ) (items : List Item) (rest : List SpelledRecord) (after : List ℕ) → count < 2 ^ 64 → AllByRecursion IsFittingItem items
    → AreLaid rest after → AreLaid (repeat_records count items ++ rest) after
repeat-laid count [] rest after hc fit laid = open-first (repeat_record count) rest after (repeat_relocate-whole count hc) (omega arith) (laid.whole true)
repeat-laid count (Literal bytes ∷ []) rest after hc fit laid =
    plain-first (the_record (r.RepeatConstant count (run_at (1 + length (w.number shortest count) + 1) bytes))
    (0xF7 ∷ (w.number shortest count ++ 0xED ∷ w.counted shortest bytes))) rest after
    (repeat_constant-whole count bytes hc fit.0.0 fit.0.1) (omega arith) laid.code (laid.whole false)
repeat-laid count (Field kind size value ∷ []) rest after hc fit laid =
    open-first (repeat_record count) (field_record kind value size ∷ rest) after (repeat_relocate-whole count hc) (omega arith)
    (items-laid (Field kind size value ∷ []) rest after fit laid)
repeat-laid count (first ∷ second ∷ more) rest after hc fit laid =
    open-first (repeat_record count) (item_records (first ∷ second ∷ more)
    ++ rest) after (repeat_relocate-whole count hc) (omega arith) (items-laid (first ∷ second ∷ more) rest after fit laid)

load-laid : (load : Load) (rest : List SpelledRecord) (after : List ℕ) → IsFittingLoad load → AreLaid rest after → AreLaid (load_records load ++ rest) after
load-laid (SetSection section) rest after fits laid =
    plain-first (the_record (r.SetSection (section_index section)) (0xE5 ∷ w.number shortest (section_index section))) rest after
    (set_section-whole (section_index section) fits) (omega arith) laid.code (laid.whole false)
load-laid (SetPc section value) rest after fits laid =
    let i = section_index section in
    let text = w.expression shortest value in
    plain-first (the_record (r.SetPc i (value_at i text)) (0xE2 ∷ 0xD0 ∷ (w.number shortest i ++ text))) rest after
    (set_pc-whole i (indexed value) text fits.0 (expression-spells value fits.1)) (omega arith) laid.code (laid.whole false)
load-laid (One item) rest after fits laid = single-laid item rest after fits laid
load-laid (Repeat count items) rest after fits laid = repeat-laid count items rest after fits.0 fits.1 laid

loads-laid : (loads : List Load) (after : List ℕ) → AllByRecursion IsFittingLoad loads → IsCode (first_of after None) → AreLaid (loads_records loads) after
loads-laid [] after fit code = record { whole = λ items. tt; code = code }
loads-laid (load ∷ loads) after fit code = load-laid load (loads_records loads) after fit.0 (loads-laid loads after fit.1 code)

-- ---- they are in their parts

items-own : (items : List Item) → list_all (λ p. stands_in data_part p.row) (item_records items) ≡ true
items-own [] = refl
items-own (Literal bytes ∷ items) = items-own items
items-own (Field kind size value ∷ items) = items-own items

single-own : (item : Item) → list_all (λ p. stands_in data_part p.row) (single_records item) ≡ true
single-own (Literal bytes) = refl
single-own (Field kind size value) = refl

repeat-own : (count : ℕ) (items : List Item) → list_all (λ p. stands_in data_part p.row) (repeat_records count items) ≡ true
repeat-own count [] = refl
repeat-own count (Literal bytes ∷ []) = refl
repeat-own count (Field kind size value ∷ []) = refl
repeat-own count (first ∷ second ∷ more) = items-own (first ∷ second ∷ more)

load-own : (load : Load) → list_all (λ p. stands_in data_part p.row) (load_records load) ≡ true
load-own (SetSection section) = refl
load-own (SetPc section value) = refl
load-own (One item) = single-own item
load-own (Repeat count items) = repeat-own count items

loads-own : (loads : List Load) → list_all (λ p. stands_in data_part p.row) (loads_records loads) ≡ true
loads-own [] = refl
loads-own (load ∷ loads) =
    let first = load-own load in
    let rest = loads-own loads in
    list_all-append (λ p. stands_in data_part p.row) (load_records load) (loads_records loads) ∙ (λ i. first i && rest i)

pub loads-part : (loads : List Load) (after : List ℕ) → AllByRecursion IsFittingLoad loads → IsCode (first_of after None)
    → IsPart (plainly true) data_part (loads_records loads) after
loads-part loads after fit code = record { are_whole = (loads-laid loads after fit code).whole false; own = loads-own loads }

pub loads-code : (loads : List Load) (after : List ℕ) → AllByRecursion IsFittingLoad loads → IsCode (first_of after None)
    → IsCode (first_of (bytes_of (loads_records loads) ++ after) None)
loads-code loads after fit code = (loads-laid loads after fit code).code

-- ---- the start

abbrev pub IsFittingStart : Option Tree → Type 0
IsFittingStart None = Unit {0}
IsFittingStart (Some value) = IsFittingTree value

pub start-records : (start : Option Tree) → IsFittingStart start → AllByRecursion (IsRecord trailer_part) (start_records start)
start-records None fits = tt
start-records (Some value) fits = (
  record {
    whole = start-whole (indexed value) value (expression-spells value fits);
    code = omega arith;
    plain =
        refl;
    own = refl;
  },
  tt,
)
