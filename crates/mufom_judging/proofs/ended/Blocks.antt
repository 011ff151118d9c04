-- The debug blocks of records that keep to the rules: each that is begun is ended, none ends badly, and they go to a depth of 32.
use Rattle.std.proofs.Common.{◌≡◌, ℕ, suc, ◌+◌, ◌-◌, ◌≤◌, ◌==◌, ◌&&◌, ◌||◌, nat_le, Bool, true, false, true≢false, arith, List, [], ◌∷◌, ◌++◌, length}
use Rattle.std.proofs.Common.{Option, Some, None, is_some, option_map, refl, sym, ap, subst, ◌∙◌, inl, inr}
use Rattle.std.specs.List.{list_any, cons_option, AllByRecursion}
use Rattle.mufom_expr.specs.Tree.{Tree}
use Rattle.mufom_expr.specs.Spelled.{Indexes}
use Rattle.mufom_records.specs.declared.record.Record.{Record}
use Rattle.mufom_records.specs.declared.record.Record.TheVariants as r
use Rattle.mufom_records.specs.declared.record.BlockTail.{BlockTail}
use Rattle.mufom_records.specs.declared.record.BlockTail.TheVariants as tail
use Rattle.mufom_debug.specs.declared.item.BlockHead.{BlockHead}
use Rattle.mufom_debug.specs.declared.item.BlockHead.TheVariants as heads
use Rattle.mufom_debug.specs.Marks.{DebugMark, kind_number, closes, depth_from, depth_of}
use Rattle.mufom_debug.proofs.Rebuilt.{rebuilt}
use Rattle.mufom_module.specs.Contents.{blocks_of}
use Rattle.mufom_module.specs.SpelledRecords.{SpelledRecord, tree_in, positioned}
use Rattle.mufom_module.specs.RecordParts.{Part}
use Rattle.mufom_module.specs.Gathered.{head_by, mark_by, marks}
use Rattle.mufom_module.specs.Defects.{ends_plainly, has_bad_end}
use Rattle.mufom_judging.proofs.BlockKinds.{kinds_after, kinds_from, open_kinds, ends_badly_in, is_too_deep_in, kinds-append, kinds-next, NestFrom}
use Rattle.mufom_judging.specs.RecordFields.{FitsKind}
use Rattle.mufom_judging.proofs.ended.Rows.{IsShort}
use Rattle.mufom_judging.proofs.ended.Parts.{KeptFrom}
use Rattle.mufom_judging.proofs.ended.Nesting.{ends_badly_from, rebuilt-ends}

-- records of a part that keep to the rules
pub nest_of : (part : Part) (before records : List SpelledRecord) → KeptFrom part before records → NestFrom (open_kinds before) records
nest_of part before [] own = tt
nest_of part before (p ∷ records) own =
    (own.1.nested, own.1.shallow, subst (λ (k : List ℕ). NestFrom k records) (kinds-next before p) (nest_of part (before ++ p ∷ []) records own.2))

-- ---- begun and ended

closes_row : (ix : Indexes) (kinds : List ℕ) (p : SpelledRecord) (row : Record) (rest : List DebugMark) → ends_badly_in kinds row ≡ false
    → closes (length (kinds_after kinds row)) rest ≡ true
    → closes (length kinds) (cons_option (mark_by ix p row) rest) ≡ true
closes_row ix kinds p (r.BlockBegin kind n name block) rest judged h = h
closes_row ix [] p (r.BlockEnd value) rest judged h = absurd (true≢false judged)
closes_row ix (k ∷ kinds) p (r.BlockEnd value) rest judged h = h
closes_row ix kinds p (r.DebugName i name) rest judged h = h
closes_row ix kinds p (r.DebugValue i value) rest judged h = h
closes_row ix kinds p (r.DebugNote i type_index attribute ns) rest judged h = h
closes_row ix kinds p row rest judged h = h

closes_all : (ix : Indexes) (kinds : List ℕ) (records : List SpelledRecord) → NestFrom kinds records → kinds_from kinds records ≡ []
    → closes (length kinds) (marks ix records) ≡ true
closes_all ix [] [] judged none = refl
closes_all ix (k ∷ kinds) [] judged none = cc
closes_all ix kinds (p ∷ records) judged none = closes_row ix kinds p p.row (marks ix records) judged.0
    (closes_all ix (kinds_after kinds p.row) records judged.2 none)

-- If no block is open before or after the records, their debug records end each block that they begin, and no other.
pub debug_closes : (ix : Indexes) (part : Part) (before records : List SpelledRecord) → open_kinds before ≡ [] → KeptFrom part before records
    → open_kinds (before ++ records) ≡ [] → closes 0 (marks ix records) ≡ true
debug_closes ix part before records none own closed =
    closes_all ix [] records (subst (λ (k : List ℕ). NestFrom k records) none (nest_of part before records own))
    (ap (λ (k : List ℕ). kinds_from k records) (sym none) ∙ sym (kinds-append [] before records) ∙ closed)

-- ---- ends

pub kind_of_head : (ix : Indexes) (p : SpelledRecord) (kind : ℕ) (block : BlockTail) → FitsKind kind block → kind_number (head_by ix p kind block) ≡ kind
kind_of_head ix p kind tail.Module fits = sym fits
kind_of_head ix p kind (tail.Scope stack type_index offset) (inl four) =
    ap (λ (k : ℕ). kind_number (head_by ix p k (tail.Scope stack type_index offset))) four ∙ sym four
kind_of_head ix p kind (tail.Scope stack type_index offset) (inr six) =
    ap (λ (k : ℕ). kind_number (head_by ix p k (tail.Scope stack type_index offset))) six ∙ sym six
kind_of_head ix p kind (tail.Source ns) fits = sym fits
kind_of_head ix p kind (tail.Section section_type section offset) fits = sym fits

pub plain_kind : (head : BlockHead) → ends_plainly head ≡ ((kind_number head == 3) || (kind_number head == 5))
plain_kind heads.Module = refl
plain_kind (heads.Global stack type_index offset) = refl
plain_kind (heads.Source ns) = refl
plain_kind (heads.Local stack type_index offset) = refl
plain_kind (heads.Section section_type section offset) = refl

swapped : (a : Bool) (o : Option Tree) → (is_some o && a) ≡ false → (a && is_some o) ≡ false
swapped true None h = refl
swapped true (Some t) h = h
swapped false o h = refl

pub mapped_some : {X Y : Type 0} (f : X → Y) (o : Option X) → is_some (option_map f o) ≡ is_some o
mapped_some f None = refl
mapped_some f (Some x) = refl

-- the heads that are begun have the kinds of the open blocks
abbrev HaveKinds : List BlockHead → List ℕ → Type 0
HaveKinds [] [] = Unit {0}
HaveKinds (head ∷ begun) (k ∷ kinds) = (kind_number head ≡ k) × HaveKinds begun kinds
HaveKinds _ _ = ⊥

good_end : (head : BlockHead) (k : ℕ) (value : Option Tree) (some : Bool) → kind_number head ≡ k → is_some value ≡ some
    → (some && ((k == 3) || (k == 5))) ≡ false → has_bad_end (head, value) ≡ false
good_end head k value some same is h =
    swapped (ends_plainly head) value (ap (λ a. is_some value && a) (plain_kind head) ∙ ap (λ (n : ℕ). is_some value && ((n == 3) || (n == 5))) same
    ∙ ap (λ s. s && ((k == 3) || (k == 5))) is ∙ h)

ends_row : (ix : Indexes) (begun : List BlockHead) (kinds : List ℕ) (p : SpelledRecord) (row : Record) (rest : List DebugMark) → HaveKinds begun kinds
    → IsShort row → ends_badly_in kinds row ≡ false
    → ((next : List BlockHead) → HaveKinds next (kinds_after kinds row) → ends_badly_from next rest ≡ false)
    → ends_badly_from begun (cons_option (mark_by ix p row) rest) ≡ false
ends_row ix begun kinds p (r.BlockBegin kind n name block) rest have short judged h =
    h (head_by ix p kind block ∷ begun) (kind_of_head ix p kind block short.1, have)
ends_row ix begun [] p (r.BlockEnd value) rest have short judged h = absurd (true≢false judged)
ends_row ix [] (k ∷ kinds) p (r.BlockEnd value) rest have short judged h = absurd have
ends_row ix (head ∷ begun) (k ∷ kinds) p (r.BlockEnd value) rest have short judged h =
    (λ i. good_end head k (option_map (λ span. positioned ix (tree_in p span)) value) (is_some value) have.0 (mapped_some _ value) judged i || h begun have.1 i)
ends_row ix begun kinds p (r.DebugName i name) rest have short judged h = h begun have
ends_row ix begun kinds p (r.DebugValue i value) rest have short judged h = h begun have
ends_row ix begun kinds p (r.DebugNote i type_index attribute ns) rest have short judged h = h begun have
ends_row ix begun kinds p row rest have short judged h = h begun have

ends_all : (ix : Indexes) (begun : List BlockHead) (kinds : List ℕ) (records : List SpelledRecord) → HaveKinds begun kinds
    → AllByRecursion (λ p. IsShort p.row) records → NestFrom kinds records → ends_badly_from begun (marks ix records) ≡ false
ends_all ix begun kinds [] have short judged = refl
ends_all ix begun kinds (p ∷ records) have short judged =
    ends_row ix begun kinds p p.row (marks ix records) have short.0 judged.0
    (λ next have_. ends_all ix next (kinds_after kinds p.row) records have_ short.1 judged.2)

-- no block of the items that the marks give ends badly
pub debug_ends : (ix : Indexes) (part : Part) (before records : List SpelledRecord) → open_kinds before ≡ []
    → AllByRecursion (λ p. IsShort p.row) records → KeptFrom part before records
    → list_any has_bad_end (blocks_of (rebuilt (marks ix records) [] [])) ≡ false
debug_ends ix part before records none short own =
    rebuilt-ends (marks ix records) [] [] refl tt (ends_all ix [] [] records tt short
    (subst (λ (k : List ℕ). NestFrom k records) none (nest_of part before records own)))

-- ---- the depth

one_more : (n : ℕ) → suc n ≡ n + 1
one_more n = omega arith

one_less : (n : ℕ) → n ≡ suc n - 1
one_less n = omega arith

below_32 : (n : ℕ) → nat_le 32 n ≡ false → suc n ≤ 32
below_32 n e = grind (arith)

depth_row : (ix : Indexes) (kinds : List ℕ) (p : SpelledRecord) (row : Record) (rest : List DebugMark) → ends_badly_in kinds row ≡ false
    → is_too_deep_in kinds row ≡ false → length kinds ≤ 32
    → (length (kinds_after kinds row) ≤ 32 → depth_from (length (kinds_after kinds row)) rest ≤ 32)
    → depth_from (length kinds) (cons_option (mark_by ix p row) rest) ≤ 32
depth_row ix kinds p (r.BlockBegin kind n name block) rest judged shallow few h =
    let room = below_32 (length kinds) shallow in
    let deep = h room in
    let same = ap (λ (k : ℕ). depth_from k rest) (one_more (length kinds)) in
    omega (arith, few, deep, same)
depth_row ix [] p (r.BlockEnd value) rest judged shallow few h = absurd (true≢false judged)
depth_row ix (k ∷ kinds) p (r.BlockEnd value) rest judged shallow few h =
    let deep = h (omega (arith, few)) in
    let same = ap (λ (n : ℕ). depth_from n rest) (one_less (length kinds)) in
    omega (arith, few, deep, same)
depth_row ix kinds p (r.DebugName i name) rest judged shallow few h = let deep = h few in omega (arith, few, deep)
depth_row ix kinds p (r.DebugValue i value) rest judged shallow few h = let deep = h few in omega (arith, few, deep)
depth_row ix kinds p (r.DebugNote i type_index attribute ns) rest judged shallow few h = let deep = h few in omega (arith, few, deep)
depth_row ix kinds p row rest judged shallow few h = h few

depth_all : (ix : Indexes) (kinds : List ℕ) (records : List SpelledRecord) → NestFrom kinds records → length kinds ≤ 32
    → depth_from (length kinds) (marks ix records) ≤ 32
depth_all ix kinds [] judged few = few
depth_all ix kinds (p ∷ records) judged few = depth_row ix kinds p p.row (marks ix records) judged.0 judged.1 few
    (λ few_. depth_all ix (kinds_after kinds p.row) records judged.2 few_)

-- the blocks go to a depth of at most 32
pub debug_depth : (ix : Indexes) (part : Part) (before records : List SpelledRecord) → open_kinds before ≡ [] → KeptFrom part before records
    → depth_of (marks ix records) ≤ 32
debug_depth ix part before records none own = depth_all ix [] records
    (subst (λ (k : List ℕ). NestFrom k records) none (nest_of part before records own)) (omega arith)
