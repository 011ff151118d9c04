-- The written form is at most as long as the weight of the module.
use Rattle.std.proofs.Common.{◌≡◌, ℕ, zero, suc, ◌+◌, ◌*◌, ◌^◌, ◌<◌, ◌≤◌, ◌==◌, Bool, true, false, cond, nat_lt, List, [], ◌∷◌, ◌++◌, length, sum_by}
use Rattle.std.proofs.Common.{Option, Some, None, arith, length-append}
use Rattle.std.proofs.lemmas.List.Sums.{sum_by-cons}
use Rattle.std.specs.Int.{w16, w32, w64, to_be_bytes}
use Rattle.mufom_numbers.specs.Spelling.{counted, without_leading_zeros, shortest_number, shortest_lead}
use Rattle.mufom_expr.specs.declared.token.FieldKind.{FieldKind}
use Rattle.mufom_expr.specs.declared.token.Token.{Token}
use Rattle.mufom_expr.specs.declared.token.Token.TheVariants.{Number, Var, Fun}
use Rattle.mufom_expr.specs.Tree.{Tree, tokens_of}
use Rattle.mufom_records.specs.Layouts.{comma, closing}
use Rattle.mufom_sections.specs.declared.section.Purpose.{Purpose}
use Rattle.mufom_sections.specs.declared.section.Purpose.TheVariants as purpose
use Rattle.mufom_sections.specs.declared.section.Section.{Section}
use Rattle.mufom_names.specs.declared.name.Note.{Note}
use Rattle.mufom_names.specs.declared.name.Weak.{Weak}
use Rattle.mufom_names.specs.declared.name.Public.{Public}
use Rattle.mufom_names.specs.declared.name.Reference.{Reference}
use Rattle.mufom_loads.specs.declared.load.Item.{Item}
use Rattle.mufom_loads.specs.declared.load.Item.TheVariants.{Literal, Field}
use Rattle.mufom_loads.specs.declared.load.Load.{Load}
use Rattle.mufom_loads.specs.declared.load.Load.TheVariants.{SetSection, SetPc, One, Repeat}
use Rattle.mufom_debug.specs.declared.item.BlockHead.{BlockHead}
use Rattle.mufom_debug.specs.declared.item.BlockHead.TheVariants as heads
use Rattle.mufom_debug.specs.Marks.{DebugMark, block_begin, block_end, name_mark, note_mark, value_mark, joined, marks_of, kind_number, names_after}
use Rattle.mufom_module.specs.declared.module.Parts.{Parts}
use Rattle.mufom_module.specs.Written as w
use Rattle.mufom_module.specs.Written.{Style, shortest, weight}
use Rattle.mufom_module.specs.Weights.{token_weight, expression_weight, optional_expression_weight, section_letters_weight, purpose_weight}
use Rattle.mufom_module.specs.Weights.{alignment_weight, size_weight, base_weight, section_weight, note_weight, notes_weight, public_weight}
use Rattle.mufom_module.specs.Weights.{default_weight, weak_weight, reference_weight, head_weight, mark_weight, marks_weight, item_weight}
use Rattle.mufom_module.specs.Weights.{items_weight, load_weight, start_weight, parts_weight}
use Rattle.mufom_module.specs.Defects.{IsValid}
use Rattle.mufom_module.proofs.Valid.{weighs_less}
use Rattle.mufom_module.proofs.WeightLaws.{length-offsets_from, weight-sum}

-- entries whose forms have at most this length, wherever they are
each-within : {X : Type 0} (write : ℕ → X → List ℕ) (size : X → ℕ) → ((n : ℕ) (x : X) → length (write n x) ≤ size x)
    → (n : ℕ) (xs : List X) → length (w.each_from n write xs) ≤ sum_by size xs
each-within write size each n [] = omega arith
each-within write size each n (x ∷ xs) =
    let rest = each-within write size each (n + 1) xs in
    let own = each n x in
    let whole = length-append (write n x) (w.each_from (n + 1) write xs) in
    let sum = sum_by-cons size x xs in
    omega (arith, rest, own, whole, sum)

within-unless : (b : Bool) (bytes : List ℕ) (n : ℕ) → length bytes ≤ n → length (cond b [] bytes) ≤ cond b 0 n
within-unless true bytes n h = omega arith
within-unless false bytes n h = h

length-joined : (a b c d e f g : List ℕ) → length (joined (a ∷ b ∷ c ∷ d ∷ e ∷ f ∷ g ∷ []))
    ≡ length a + length b + length c + length d + length e + length f + length g
length-joined a b c d e f g =
    let la = length-append a (b ++ (c ++ (d ++ (e ++ (f ++ (g ++ [])))))) in
    let lb = length-append b (c ++ (d ++ (e ++ (f ++ (g ++ []))))) in
    let lc = length-append c (d ++ (e ++ (f ++ (g ++ [])))) in
    let ld = length-append d (e ++ (f ++ (g ++ []))) in
    let le = length-append e (f ++ (g ++ [])) in
    let lf = length-append f (g ++ []) in
    let lg = length-append g [] in
    omega (arith, la, lb, lc, ld, le, lf, lg)

-- the length of a file by its header's records, its offsets' records and its parts
pub length-form-parts : (a b c : List ℕ) → length (a ++ (b ++ (c ++ 0xE1 ∷ []))) ≡ length a + length b + length c + 1
length-form-parts a b c =
    let la = length-append a (b ++ (c ++ 0xE1 ∷ [])) in
    let lb = length-append b (c ++ 0xE1 ∷ []) in
    let lc = length-append c (0xE1 ∷ []) in
    omega (arith, la, lb, lc)

eight : (records count : ℕ) → records ≤ 16 * count → count ≡ 8 → records ≤ 128
eight records count a b = omega arith

sums : (form begin records parts p n x e s u r d l t : ℕ) → form ≡ begin + records + parts + 1 → begin ≤ 27 + p + n → records ≤ 128
    → parts ≤ x + e + s + (u + r) + d + l + t → form ≤ 156 + p + n + x + e + s + u + r + d + l + t
sums form begin records parts p n x e s u r d l t a b c f = omega arith

module _ (style : Style) (number-within : (n : ℕ) → length (style.number n) ≤ 9) (lead-within : (n : ℕ) → length (style.lead n) ≤ 3) where
  two-within : (a b : ℕ) → length (style.number a ++ style.number b) ≤ 18
  two-within a b =
      let both = length-append (style.number a) (style.number b) in
      let first = number-within a in
      let second = number-within b in
      omega (arith, both, first, second)

  string-within : (text : List ℕ) → length (w.string style text) ≤ 3 + length text
  string-within text = let both = length-append (style.lead (length text)) text in let lead = lead-within (length text) in omega (arith, both, lead)

  named-within : (i : ℕ) (text : List ℕ) → length (style.number i ++ w.string style text) ≤ 12 + length text
  named-within i text =
      let both = length-append (style.number i) (w.string style text) in
      let first = number-within i in
      let second = string-within text in
      omega (arith, both, first, second)

  counted-within : (bytes : List ℕ) → length (w.counted style bytes) ≤ 9 + length bytes
  counted-within bytes = let both = length-append (style.number (length bytes)) bytes in let first = number-within (length bytes) in omega (arith, both, first)

  numbers-within : (n : ℕ) (ns : List ℕ) → length (w.each_from n (λ _. w.number style) ns) ≤ 9 * length ns
  numbers-within n [] = omega arith
  numbers-within n (x ∷ xs) =
      let rest = numbers-within (n + 1) xs in
      let both = length-append (style.number x) (w.each_from (n + 1) (λ _. w.number style) xs) in
      let own = number-within x in
      omega (arith, rest, both, own)

  token-within : (n : ℕ) (t : Token) → length (w.token style t) ≤ token_weight t
  token-within n (Number v) = number-within v
  token-within n (Var l p) = let own = number-within (w.index_of l p) in omega (arith, own)
  token-within n (Fun f) = omega arith

  expression-within : (t : Tree) → length (w.expression style t) ≤ expression_weight t
  expression-within t = each-within (λ _. w.token style) token_weight token-within 0 (tokens_of t)

  valued-within : (i : ℕ) (t : Tree) → length (style.number i ++ w.expression style t) ≤ 9 + expression_weight t
  valued-within i t =
      let both = length-append (style.number i) (w.expression style t) in
      let first = number-within i in
      let second = expression-within t in
      omega (arith, both, first, second)

  letters-within : (b : Bool) → length (w.section_letters b) ≤ section_letters_weight b
  letters-within true = omega arith
  letters-within false = omega arith

  purpose-within : (p : Option Purpose) → length (w.purpose_letter p) ≤ purpose_weight p
  purpose-within None = omega arith
  purpose-within (Some purpose.Code) = omega arith
  purpose-within (Some purpose.Data) = omega arith
  purpose-within (Some purpose.Rom) = omega arith

  alignment-within : (i align : ℕ) → length (w.alignment_record style i align) ≤ alignment_weight align
  alignment-within i align = let both = two-within i align in
      within-unless (align == 1) (0xE7 ∷ (style.number i ++ style.number align)) 19 (omega (arith, both))

  size-within : (i size : ℕ) → length (w.size_record style i size) ≤ size_weight size
  size-within i size = let both = two-within i size in within-unless (size == 0) (0xE2 ∷ 0xD3 ∷ (style.number i ++ style.number size)) 20 (omega (arith, both))

  base-within : (i : ℕ) (base : Option ℕ) → length (w.base_record style i base) ≤ base_weight base
  base-within i None = omega arith
  base-within i (Some base) = let both = two-within i base in omega (arith, both)

  section_record-within : (i : ℕ) (s : Section) → length (w.section_record style i s) ≤ 13 + section_letters_weight s.absolute + purpose_weight
      s.purpose + length s.name
  section_record-within i s =
      let name = w.string style s.name in
      let letters = w.section_letters s.absolute in
      let use_letter = w.purpose_letter s.purpose in
      let whole = length-append (style.number i) (letters ++ (use_letter ++ name)) in
      let outer = length-append letters (use_letter ++ name) in
      let inner = length-append use_letter name in
      let index = number-within i in
      let first = letters-within s.absolute in
      let second = purpose-within s.purpose in
      let third = string-within s.name in
      omega (arith, whole, outer, inner, index, first, second, third)

  section-within : (n : ℕ) (s : Section) → length (w.section style n s) ≤ section_weight s
  section-within n s =
      let i = w.section_index n in
      let a = w.section_record style i s in
      let b = w.alignment_record style i s.align in
      let c = w.size_record style i s.size in
      let d = w.base_record style i s.base in
      let all = length-append a (b ++ (c ++ d)) in
      let more = length-append b (c ++ d) in
      let last = length-append c d in
      let ea = section_record-within i s in
      let eb = alignment-within i s.align in
      let ec = size-within i s.size in
      let ed = base-within i s.base in
      omega (arith, all, more, last, ea, eb, ec, ed)

  note-within : (letter i n : ℕ) (note : Note) → length (w.note style letter i note) ≤ note_weight note
  note-within letter i n note =
      let numbers = w.numbers style note.numbers.items in
      let a = length-append (style.number i) (style.number note.type_index ++ (style.number note.attribute ++ numbers)) in
      let b = length-append (style.number note.type_index) (style.number note.attribute ++ numbers) in
      let c = length-append (style.number note.attribute) numbers in
      let its = numbers-within 0 note.numbers.items in
      let first = number-within i in
      let second = number-within note.type_index in
      let third = number-within note.attribute in
      omega (arith, a, b, c, its, first, second, third)

  notes-within : (letter i : ℕ) (notes : List Note) → length (w.each (λ _. w.note style letter i) notes) ≤ notes_weight notes
  notes-within letter i notes = each-within (λ _. w.note style letter i) note_weight (note-within letter i) 0 notes

  public-within : (n : ℕ) (p : Public) → length (w.public style n p) ≤ public_weight p
  public-within n p =
      let i = w.public_index n in
      let value = 0xE2 ∷ 0xC9 ∷ (style.number i ++ w.expression style p.value) in
      let notes = w.each (λ _. w.note style 0xC9 i) p.notes in
      let all = length-append (0xE8 ∷ (style.number i ++ w.string style p.name)) (notes ++ value) in
      let last = length-append notes value in
      let en = notes-within 0xC9 i p.notes in
      let ev = valued-within i p.value in
      let name = named-within i p.name in
      omega (arith, all, last, en, ev, name)

  default-within : (default : ℕ) → length (w.default_number style default) ≤ default_weight default
  default-within default = within-unless (default == 0) (style.number default) 9 (number-within default)

  weak-within : (i : ℕ) (weak : Option Weak) → length (w.weak style i weak) ≤ weak_weight weak
  weak-within i None = omega arith
  weak-within i (Some weak) =
      let its = default-within weak.default in
      let a = length-append (style.number i) (style.number weak.size ++ w.default_number style weak.default) in
      let b = length-append (style.number weak.size) (w.default_number style weak.default) in
      let first = number-within i in
      let second = number-within weak.size in
      omega (arith, its, a, b, first, second)

  reference-within : (n : ℕ) (r : Reference) → length (w.reference style n r) ≤ reference_weight r
  reference-within n r =
      let i = w.reference_index n in
      let notes = w.each (λ _. w.note style 0xD8 i) r.notes in
      let weak = w.weak style i r.weak in
      let all = length-append (0xE9 ∷ (style.number i ++ w.string style r.name)) (notes ++ weak) in
      let last = length-append notes weak in
      let en = notes-within 0xD8 i r.notes in
      let ew = weak-within i r.weak in
      let name = named-within i r.name in
      omega (arith, all, last, en, ew, name)

  scope-within : (first second : ℕ) (offset : Tree) → length (style.number first
      ++ (style.number second ++ w.expression style offset)) ≤ 18 + expression_weight offset
  scope-within first second offset =
      let both = length-append (style.number first) (style.number second ++ w.expression style offset) in
      let one_number = number-within first in
      let rest = valued-within second offset in
      omega (arith, both, one_number, rest)

  head-within : (head : BlockHead) → length (w.head_fields style head) ≤ head_weight head
  head-within heads.Module = omega arith
  head-within (heads.Global stack type_index offset) = scope-within stack type_index offset
  head-within (heads.Source ns) = numbers-within 0 ns.items
  head-within (heads.Local stack type_index offset) = scope-within stack type_index offset
  head-within (heads.Section section_type section offset) = scope-within section_type (w.section_index section) offset

  end-within : (end : Option Tree) → length (w.end_expression style end) ≤ optional_expression_weight end
  end-within None = omega arith
  end-within (Some value) = expression-within value

  mark-within : (n : ℕ) (mark : DebugMark) → length (w.debug_record style n mark) ≤ mark_weight mark
  mark-within n (block_begin head name) =
      let kind = kind_number head in
      let fields = w.head_fields style head in
      let a = length-append (style.number kind) (style.number 0 ++ (w.string style name ++ fields)) in
      let b = length-append (style.number 0) (w.string style name ++ fields) in
      let c = length-append (w.string style name) fields in
      let first = number-within kind in
      let second = number-within 0 in
      let third = string-within name in
      let its = head-within head in
      omega (arith, a, b, c, first, second, third, its)
  mark-within n (block_end end) = let its = end-within end in omega (arith, its)
  mark-within n (name_mark name) = let its = named-within (w.debug_name_index n) name in omega (arith, its)
  mark-within n (note_mark name note) = note-within 0xCE (w.debug_name_index name) 0 note
  mark-within n (value_mark name value) = let its = valued-within (w.debug_name_index name) value in omega (arith, its)

  marks-within : (n : ℕ) (marks : List DebugMark) → length (w.debug_records style n marks) ≤ marks_weight marks
  marks-within n [] = omega arith
  marks-within n (mark ∷ marks) =
      let next = names_after n mark in
      let rest = marks-within next marks in
      let own = mark-within n mark in
      let whole = length-append (w.debug_record style n mark) (w.debug_records style next marks) in
      let sum = sum_by-cons mark_weight mark marks in
      omega (arith, rest, own, whole, sum)

  field-within : (kind : FieldKind) (value : Tree) (size : ℕ) → length (w.field style kind value size) ≤ 12 + expression_weight value
  field-within kind value size =
      let all = length-append (w.expression style value) (comma ∷ (style.number size ++ closing kind ∷ [])) in
      let last = length-append (style.number size) (closing kind ∷ []) in
      let its = expression-within value in
      let own = number-within size in
      omega (arith, all, last, its, own)

  item-within : (n : ℕ) (item : Item) → length (w.item style item) ≤ item_weight item
  item-within n (Literal bytes) = counted-within bytes
  item-within n (Field kind size value) = field-within kind value size

  single-within : (item : Item) → length (w.single style item) ≤ 1 + item_weight item
  single-within (Literal bytes) = let its = counted-within bytes in omega (arith, its)
  single-within (Field kind size value) = let its = field-within kind value size in omega (arith, its)

  repeated-within : (items : List Item) → length (w.repeated style items) ≤ 1 + items_weight items
  repeated-within [] = omega arith
  repeated-within (first ∷ []) =
      let its = single-within first in
      let sum = sum_by-cons item_weight first [] in
      omega (arith, its, sum)
  repeated-within (first ∷ second ∷ more) =
      let its = each-within (λ _. w.item style) item_weight item-within 0 (first ∷ second ∷ more) in
      omega (arith, its)

  load-within : (n : ℕ) (load : Load) → length (w.load style load) ≤ load_weight load
  load-within n (SetSection section) = let own = number-within (w.section_index section) in omega (arith, own)
  load-within n (SetPc section value) = let its = valued-within (w.section_index section) value in omega (arith, its)
  load-within n (One item) = single-within item
  load-within n (Repeat count items) =
      let its = repeated-within items in
      let own = number-within count in
      let both = length-append (style.number count) (w.repeated style items) in
      omega (arith, its, own, both)

  start-within : (start : Option Tree) → length (w.start style start) ≤ start_weight start
  start-within None = omega arith
  start-within (Some value) =
      let all = length-append (w.expression style value) (0xBF ∷ []) in
      let its = expression-within value in
      omega (arith, all, its)

  offset_records-within : (n : ℕ) (offsets : List ℕ) → length (w.each_from n (w.offset_record style) offsets) ≤ 16 * length offsets
  offset_records-within n [] = omega arith
  offset_records-within n (x ∷ xs) =
      let rest = offset_records-within (n + 1) xs in
      let own = number-within n in
      let whole = length-append (w.offset_record style n x) (w.each_from (n + 1) (w.offset_record style) xs) in
      let its = length-append (style.number n) (0x84 ∷ to_be_bytes w32 x) in
      omega (arith, rest, own, whole, its)

  module_begin-within : (m : Parts) → length (w.module_begin style m) ≤ 27 + length m.processor + length m.name
  module_begin-within m =
      let processor = w.string style m.processor in
      let name = w.string style m.name in
      let letter = w.order_letter m.order ∷ [] in
      let outer = length-append (0xE0 ∷ (processor ++ name)) (0xEC ∷ (style.number 8 ++ (style.number m.maus ++ letter))) in
      let inner = length-append processor name in
      let units = length-append (style.number 8) (style.number m.maus ++ letter) in
      let last = length-append (style.number m.maus) letter in
      let first = string-within m.processor in
      let second = string-within m.name in
      let third = number-within 8 in
      let fourth = number-within m.maus in
      omega (arith, outer, inner, units, last, first, second, third, fourth)

  external-within : (m : Parts) → length (w.external style m) ≤ sum_by public_weight m.names.publics + sum_by reference_weight m.names.references
  external-within m =
      let publics = each-within (w.public style) public_weight public-within 0 m.names.publics in
      let references = each-within (w.reference style) reference_weight reference-within 0 m.names.references in
      let both = length-append (w.each (w.public style) m.names.publics) (w.each (w.reference style) m.names.references) in
      omega (arith, publics, references, both)

  parts-within : (m : Parts) → length (joined (w.parts style m)) ≤ length m.ext + length m.env + sum_by section_weight m.sections
      + (sum_by public_weight m.names.publics + sum_by reference_weight m.names.references) + marks_weight (marks_of m.debug) + sum_by load_weight
      m.loads + start_weight m.start
  parts-within m =
      let sections = each-within (w.section style) section_weight section-within 0 m.sections in
      let external = external-within m in
      let debug = marks-within 0 (marks_of m.debug) in
      let loads = each-within (λ _. w.load style) load_weight load-within 0 m.loads in
      let start = start-within m.start in
      let whole = length-joined m.ext m.env (w.each (w.section style) m.sections) (w.external style m) (w.debug_records style 0 (marks_of m.debug))
      (w.each (λ _. w.load style) m.loads) (w.start style m.start) in
      omega (arith, sections, external, debug, loads, start, whole)

  form-within : (m : Parts) → length (w.form style m) ≤ parts_weight m
  form-within m =
      let begin = module_begin-within m in
      let records = offset_records-within 0 (w.offsets style m) in
      let count = length-offsets_from (w.header_length style m) (w.parts style m) in
      let parts = parts-within m in
      let all = length-form-parts (w.module_begin style m) (w.each (w.offset_record style) (w.offsets style m)) (joined (w.parts style m)) in
      sums _ _ _ _ _ _ _ _ _ _ _ _ _ _ all begin (eight _ _ records count) parts

-- ---- the shortest spellings

short-bytes : (bytes : List ℕ) → length (without_leading_zeros bytes) ≤ length bytes
short-bytes [] = omega arith
short-bytes (zero ∷ bytes) = let rest = short-bytes bytes in omega (arith, rest)
short-bytes (suc b ∷ bytes) = omega arith

short-number : (n : ℕ) → length (shortest_number n) ≤ 9
short-number n = either (nat_lt n 128) where
  either : (b : Bool) → length (cond b (n ∷ []) (counted (without_leading_zeros (to_be_bytes w64 n)))) ≤ 9
  either true = omega arith
  either false = let its = short-bytes (to_be_bytes w64 n) in omega (arith, its)

short-lead : (len : ℕ) → length (shortest_lead len) ≤ 3
short-lead len = either (nat_lt len 128) (nat_lt len 256) where
  either : (a b : Bool) → length (cond a (len ∷ []) (cond b (222 ∷ len ∷ []) (223 ∷ to_be_bytes w16 len))) ≤ 3
  either true b = omega arith
  either false true = omega arith
  either false false = omega arith

-- a file has an offset for each part and one for the end
pub eight-offsets : (m : Parts) → length (w.offsets shortest m) ≡ 8
eight-offsets m = length-offsets_from (w.header_length shortest m) (w.parts shortest m)

-- a valid module's written form has fewer than 2^32 bytes
pub written-fits : (m : Parts) → IsValid m → length (w.written m) < 2 ^ 32
written-fits m valid =
    let within : length (w.written m) ≤ parts_weight m = form-within shortest short-number short-lead m in
    let sum : weight m ≡ parts_weight m = weight-sum m in
    let less = weighs_less m valid in
    omega (arith, within, sum, less)

-- ---- how many marks

mark-weighs : (mark : DebugMark) → 1 ≤ mark_weight mark
mark-weighs (block_begin head name) = omega arith
mark-weighs (block_end end) = omega arith
mark-weighs (name_mark name) = omega arith
mark-weighs (note_mark name note) = omega arith
mark-weighs (value_mark name value) = omega arith

marks-weigh : (marks : List DebugMark) → length marks ≤ marks_weight marks
marks-weigh [] = omega arith
marks-weigh (mark ∷ marks) =
    let own = mark-weighs mark in
    let rest = marks-weigh marks in
    let sum = sum_by-cons mark_weight mark marks in
    omega (arith, own, rest, sum)

pub few-marks : (m : Parts) → IsValid m → length (marks_of m.debug) < 2 ^ 32
few-marks m valid =
    let its = marks-weigh (marks_of m.debug) in
    let sum : weight m ≡ parts_weight m = weight-sum m in
    let less = weighs_less m valid in
    omega (arith, its, sum, less)
