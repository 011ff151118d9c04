-- The length of the widest form is the sum of the weights.
use Rattle.std.proofs.Common.{◌≡◌, ℕ, suc, ◌+◌, ◌*◌, ◌==◌, Bool, true, false, cond, List, [], ◌∷◌, ◌++◌, length, sum_by, Option, Some, None, refl, ap}
use Rattle.std.proofs.Common.{sym, ◌∙◌, arith, length-append}
use Rattle.std.proofs.lemmas.List.Sums.{sum_by-cons}
use Rattle.mufom_expr.specs.declared.token.FieldKind.{FieldKind}
use Rattle.mufom_expr.specs.declared.token.Token.{Token}
use Rattle.mufom_expr.specs.declared.token.Token.TheVariants.{Number, Var, Fun}
use Rattle.mufom_expr.specs.Tree.{Tree, tokens_of}
use Rattle.mufom_records.specs.Layouts.{comma, closing}
use Rattle.mufom_sections.specs.declared.section.Purpose.{Purpose}
use Rattle.mufom_sections.specs.declared.section.Purpose.TheVariants as purpose
use Rattle.mufom_sections.specs.declared.section.Section.{Section}
use Rattle.mufom_names.specs.declared.name.Note.{Note}
use Rattle.mufom_names.specs.declared.name.Weak.{Weak}
use Rattle.mufom_names.specs.declared.name.Public.{Public}
use Rattle.mufom_names.specs.declared.name.Reference.{Reference}
use Rattle.mufom_loads.specs.declared.load.Item.{Item}
use Rattle.mufom_loads.specs.declared.load.Item.TheVariants.{Literal, Field}
use Rattle.mufom_loads.specs.declared.load.Load.{Load}
use Rattle.mufom_loads.specs.declared.load.Load.TheVariants.{SetSection, SetPc, One, Repeat}
use Rattle.mufom_debug.specs.declared.item.BlockHead.{BlockHead}
use Rattle.mufom_debug.specs.declared.item.BlockHead.TheVariants as heads
use Rattle.mufom_debug.specs.Marks.{DebugMark, block_begin, block_end, name_mark, note_mark, value_mark, joined, marks_of, names_after}
use Rattle.mufom_module.specs.declared.module.Parts.{Parts}
use Rattle.mufom_module.specs.Written as w
use Rattle.mufom_module.specs.Written.{widest, weight}
use Rattle.mufom_module.specs.Weights.{token_weight, expression_weight, optional_expression_weight, section_letters_weight, purpose_weight}
use Rattle.mufom_module.specs.Weights.{alignment_weight, size_weight, base_weight, section_weight, note_weight, notes_weight, public_weight}
use Rattle.mufom_module.specs.Weights.{default_weight, weak_weight, reference_weight, head_weight, mark_weight, marks_weight, item_weight}
use Rattle.mufom_module.specs.Weights.{items_weight, load_weight, start_weight, parts_weight}

-- entries whose forms have these lengths, whatever their positions
length-each_from : {X : Type 0} (write : ℕ → X → List ℕ) (size : X → ℕ) → ((n : ℕ) (x : X) → length (write n x) ≡ size x)
    → (n : ℕ) (xs : List X) → length (w.each_from n write xs) ≡ sum_by size xs
length-each_from write size each n [] = refl
length-each_from write size each n (x ∷ xs) =
    let rest = length-each_from write size each (n + 1) xs in
    let own = each n x in
    length-append (write n x) (w.each_from (n + 1) write xs) ∙ (λ i. own i + rest i) ∙ sym (sum_by-cons size x xs)

-- numbers have nine bytes each
length-numbers : (n : ℕ) (ns : List ℕ) → length (w.each_from n (λ _. w.number widest) ns) ≡ 9 * length ns
length-numbers n [] = refl
length-numbers n (x ∷ xs) = let rest = length-numbers (n + 1) xs in omega (arith, rest)

length-token : (n : ℕ) (t : Token) → length (w.token widest t) ≡ token_weight t
length-token n (Number v) = refl
length-token n (Var l p) = refl
length-token n (Fun f) = refl

length-expression : (t : Tree) → length (w.expression widest t) ≡ expression_weight t
length-expression t = length-each_from (λ _. w.token widest) token_weight length-token 0 (tokens_of t)

length-letters : (b : Bool) → length (w.section_letters b) ≡ section_letters_weight b
length-letters true = refl
length-letters false = refl

length-purpose : (p : Option Purpose) → length (w.purpose_letter p) ≡ purpose_weight p
length-purpose None = refl
length-purpose (Some purpose.Code) = refl
length-purpose (Some purpose.Data) = refl
length-purpose (Some purpose.Rom) = refl

length-unless : (b : Bool) (bytes : List ℕ) (n : ℕ) → length bytes ≡ n → length (cond b [] bytes) ≡ cond b 0 n
length-unless true bytes n h = refl
length-unless false bytes n h = h

length-alignment : (i align : ℕ) → length (w.alignment_record widest i align) ≡ alignment_weight align
length-alignment i align = length-unless (align == 1) (0xE7 ∷ (w.number widest i ++ w.number widest align)) 19 refl

length-size : (i size : ℕ) → length (w.size_record widest i size) ≡ size_weight size
length-size i size = length-unless (size == 0) (0xE2 ∷ 0xD3 ∷ (w.number widest i ++ w.number widest size)) 20 refl

length-base : (i : ℕ) (base : Option ℕ) → length (w.base_record widest i base) ≡ base_weight base
length-base i None = refl
length-base i (Some base) = refl

length-section_record : (i : ℕ) (s : Section) → length (w.section_record widest i s)
    ≡ 13 + section_letters_weight s.absolute + purpose_weight s.purpose + length s.name
length-section_record i s =
    let name = w.string widest s.name in
    let letters = w.section_letters s.absolute in
    let use_letter = w.purpose_letter s.purpose in
    let outer = length-append letters (use_letter ++ name) in
    let inner = length-append use_letter name in
    let first = length-letters s.absolute in
    let second = length-purpose s.purpose in
    omega (arith, outer, inner, first, second)

length-section : (n : ℕ) (s : Section) → length (w.section widest n s) ≡ section_weight s
length-section n s =
    let i = w.section_index n in
    let a = w.section_record widest i s in
    let b = w.alignment_record widest i s.align in
    let c = w.size_record widest i s.size in
    let d = w.base_record widest i s.base in
    let all = length-append a (b ++ (c ++ d)) in
    let more = length-append b (c ++ d) in
    let last = length-append c d in
    let ea = length-section_record i s in
    let eb = length-alignment i s.align in
    let ec = length-size i s.size in
    let ed = length-base i s.base in
    omega (arith, all, more, last, ea, eb, ec, ed)

length-note : (letter i n : ℕ) (note : Note) → length (w.note widest letter i note) ≡ note_weight note
length-note letter i n note = let its = length-numbers 0 note.numbers.items in omega (arith, its)

length-notes : (letter i : ℕ) (notes : List Note) → length (w.each (λ _. w.note widest letter i) notes) ≡ notes_weight notes
length-notes letter i notes = length-each_from (λ _. w.note widest letter i) note_weight (length-note letter i) 0 notes

length-public : (n : ℕ) (p : Public) → length (w.public widest n p) ≡ public_weight p
length-public n p =
    let i = w.public_index n in
    let value = 0xE2 ∷ 0xC9 ∷ (w.number widest i ++ w.expression widest p.value) in
    let notes = w.each (λ _. w.note widest 0xC9 i) p.notes in
    let all = length-append (0xE8 ∷ (w.number widest i ++ w.string widest p.name)) (notes ++ value) in
    let last = length-append notes value in
    let en = length-notes 0xC9 i p.notes in
    let ev = length-expression p.value in
    omega (arith, all, last, en, ev)

length-default : (default : ℕ) → length (w.default_number widest default) ≡ default_weight default
length-default default = length-unless (default == 0) (w.number widest default) 9 refl

length-weak : (i : ℕ) (weak : Option Weak) → length (w.weak widest i weak) ≡ weak_weight weak
length-weak i None = refl
length-weak i (Some weak) = let its = length-default weak.default in omega (arith, its)

length-reference : (n : ℕ) (r : Reference) → length (w.reference widest n r) ≡ reference_weight r
length-reference n r =
    let i = w.reference_index n in
    let notes = w.each (λ _. w.note widest 0xD8 i) r.notes in
    let weak = w.weak widest i r.weak in
    let all = length-append (0xE9 ∷ (w.number widest i ++ w.string widest r.name)) (notes ++ weak) in
    let last = length-append notes weak in
    let en = length-notes 0xD8 i r.notes in
    let ew = length-weak i r.weak in
    omega (arith, all, last, en, ew)

length-head : (head : BlockHead) → length (w.head_fields widest head) ≡ head_weight head
length-head heads.Module = refl
length-head (heads.Global stack type_index offset) = let its = length-expression offset in omega (arith, its)
length-head (heads.Source ns) = length-numbers 0 ns.items
length-head (heads.Local stack type_index offset) = let its = length-expression offset in omega (arith, its)
length-head (heads.Section section_type section offset) = let its = length-expression offset in omega (arith, its)

length-end : (end : Option Tree) → length (w.end_expression widest end) ≡ optional_expression_weight end
length-end None = refl
length-end (Some value) = length-expression value

length-debug_record : (n : ℕ) (mark : DebugMark) → length (w.debug_record widest n mark) ≡ mark_weight mark
length-debug_record n (block_begin head name) =
    let all = length-append (w.string widest name) (w.head_fields widest head) in
    let its = length-head head in
    omega (arith, all, its)
length-debug_record n (block_end end) = let its = length-end end in omega (arith, its)
length-debug_record n (name_mark name) = omega arith
length-debug_record n (note_mark name note) = length-note 0xCE (w.debug_name_index name) 0 note
length-debug_record n (value_mark name value) = let its = length-expression value in omega (arith, its)

length-debug_records : (n : ℕ) (marks : List DebugMark) → length (w.debug_records widest n marks) ≡ marks_weight marks
length-debug_records n [] = refl
length-debug_records n (mark ∷ marks) =
    let next = names_after n mark in
    let rest = length-debug_records next marks in
    let own = length-debug_record n mark in
    length-append (w.debug_record widest n mark) (w.debug_records widest next marks) ∙ (λ i. own i + rest i) ∙ sym (sum_by-cons mark_weight mark marks)

length-field : (kind : FieldKind) (value : Tree) (size : ℕ) → length (w.field widest kind value size) ≡ 12 + expression_weight value
length-field kind value size =
    let all = length-append (w.expression widest value) (comma ∷ (w.number widest size ++ closing kind ∷ [])) in
    let its = length-expression value in
    omega (arith, all, its)

length-item : (n : ℕ) (item : Item) → length (w.item widest item) ≡ item_weight item
length-item n (Literal bytes) = omega arith
length-item n (Field kind size value) = length-field kind value size

length-single : (item : Item) → length (w.single widest item) ≡ 1 + item_weight item
length-single (Literal bytes) = omega arith
length-single (Field kind size value) = let its = length-field kind value size in omega (arith, its)

length-repeated : (items : List Item) → length (w.repeated widest items) ≡ 1 + items_weight items
length-repeated [] = refl
length-repeated (first ∷ []) =
    let its = length-single first in
    let sum = sum_by-cons item_weight first [] in
    omega (arith, its, sum)
length-repeated (first ∷ second ∷ more) =
    let its = length-each_from (λ _. w.item widest) item_weight length-item 0 (first ∷ second ∷ more) in
    ap suc its ∙ omega arith

length-load : (n : ℕ) (load : Load) → length (w.load widest load) ≡ load_weight load
length-load n (SetSection section) = refl
length-load n (SetPc section value) = let its = length-expression value in omega (arith, its)
length-load n (One item) = length-single item
length-load n (Repeat count items) = let its = length-repeated items in omega (arith, its)

length-start : (start : Option Tree) → length (w.start widest start) ≡ start_weight start
length-start None = refl
length-start (Some value) =
    let all = length-append (w.expression widest value) (0xBF ∷ []) in
    let its = length-expression value in
    omega (arith, all, its)

-- a record of an offset has sixteen bytes
length-offset_records : (n : ℕ) (offsets : List ℕ) → length (w.each_from n (w.offset_record widest) offsets) ≡ 16 * length offsets
length-offset_records n [] = refl
length-offset_records n (x ∷ xs) = let rest = length-offset_records (n + 1) xs in omega (arith, rest)

-- there is an offset for each part, and one for the end
pub length-offsets_from : (at : ℕ) (parts : List (List ℕ)) → length (w.offsets_from at parts) ≡ 1 + length parts
length-offsets_from at [] = refl
length-offsets_from at ([] ∷ rest) = let its = length-offsets_from at rest in omega (arith, its)
length-offsets_from at ((b ∷ bytes) ∷ rest) = let its = length-offsets_from (at + length (b ∷ bytes)) rest in omega (arith, its)

length-joined : (a b c d e f g : List ℕ) → length (joined (a ∷ b ∷ c ∷ d ∷ e ∷ f ∷ g ∷ []))
    ≡ length a + length b + length c + length d + length e + length f + length g
length-joined a b c d e f g =
    let la = length-append a (b ++ (c ++ (d ++ (e ++ (f ++ (g ++ [])))))) in
    let lb = length-append b (c ++ (d ++ (e ++ (f ++ (g ++ []))))) in
    let lc = length-append c (d ++ (e ++ (f ++ (g ++ [])))) in
    let ld = length-append d (e ++ (f ++ (g ++ []))) in
    let le = length-append e (f ++ (g ++ [])) in
    let lf = length-append f (g ++ []) in
    let lg = length-append g [] in
    omega (arith, la, lb, lc, ld, le, lf, lg)

length-module_begin : (m : Parts) → length (w.module_begin widest m) ≡ 27 + length m.processor + length m.name
length-module_begin m =
    let text = w.string widest m.processor in
    let outer = length-append (0xE0 ∷ (text ++ w.string widest m.name))
    (0xEC ∷ (w.number widest 8 ++ (w.number widest m.maus ++ w.order_letter m.order ∷ []))) in
    let inner = length-append text (w.string widest m.name) in
    omega (arith, outer, inner)

length-external : (m : Parts) → length (w.external widest m) ≡ sum_by public_weight m.names.publics + sum_by reference_weight m.names.references
length-external m =
    let publics = length-each_from (w.public widest) public_weight length-public 0 m.names.publics in
    let references = length-each_from (w.reference widest) reference_weight length-reference 0 m.names.references in
    length-append (w.each (w.public widest) m.names.publics) (w.each (w.reference widest) m.names.references) ∙ (λ i. publics i + references i)

length-parts : (m : Parts) → length (joined (w.parts widest m)) ≡ length m.ext + length m.env + sum_by section_weight m.sections
    + (sum_by public_weight m.names.publics + sum_by reference_weight m.names.references) + marks_weight (marks_of m.debug) + sum_by load_weight
    m.loads + start_weight m.start
length-parts m =
    let sections = length-each_from (w.section widest) section_weight length-section 0 m.sections in
    let external = length-external m in
    let debug = length-debug_records 0 (marks_of m.debug) in
    let loads = length-each_from (λ _. w.load widest) load_weight length-load 0 m.loads in
    let start = length-start m.start in
    length-joined m.ext m.env (w.each (w.section widest) m.sections) (w.external widest m) (w.debug_records widest 0 (marks_of m.debug))
    (w.each (λ _. w.load widest) m.loads) (w.start widest m.start)
    ∙ (λ i. length m.ext + length m.env + sections i + external i + debug i + loads i + start i)

whole : (a b c : List ℕ) → length (a ++ (b ++ (c ++ 0xE1 ∷ []))) ≡ length a + length b + length c + 1
whole a b c =
    let la = length-append a (b ++ (c ++ 0xE1 ∷ [])) in
    let lb = length-append b (c ++ 0xE1 ∷ []) in
    let lc = length-append c (0xE1 ∷ []) in
    omega (arith, la, lb, lc)

length-form : (m : Parts) → length (w.form widest m) ≡ length (w.module_begin widest m) + length
    (w.each (w.offset_record widest) (w.offsets widest m)) + length (joined (w.parts widest m)) + 1
length-form m = whole (w.module_begin widest m) (w.each (w.offset_record widest) (w.offsets widest m)) (joined (w.parts widest m))

eight : (m : Parts) → length (w.each (w.offset_record widest) (w.offsets widest m)) ≡ 128
eight m =
    let count = length-offsets_from (w.header_length widest m) (w.parts widest m) in
    length-offset_records 0 (w.offsets widest m) ∙ ap (λ n. 16 * n) count

sums : (form begin records parts p n x e s u r d l t : ℕ) → form ≡ begin + records + parts + 1 → begin ≡ 27 + p + n → records ≡ 128
    → parts ≡ x + e + s + (u + r) + d + l + t → form ≡ 156 + p + n + x + e + s + u + r + d + l + t
sums form begin records parts p n x e s u r d l t a b c f = omega arith

pub weight-sum : (m : Parts) → weight m ≡ parts_weight m
unfolding weight
weight-sum m = sums _ _ _ _ _ _ _ _ _ _ _ _ _ _ (length-form m) (length-module_begin m) (eight m) (length-parts m)
