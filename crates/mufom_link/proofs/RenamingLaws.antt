-- The renaming of a site, on the entries of a module without a defect, is that of the link.
use Rattle.std.proofs.Common.{◌≡◌, ℕ, ◌+◌, ◌<◌, ◌≤◌, ◌^◌, List, [], ◌∷◌, map, length, Option, Some, None, option_map, Bool, true, false, ◌||◌}
use Rattle.std.proofs.Common.{if◌then◌else◌, refl, ap, ◌∙◌, arith, rules}
use Rattle.std.specs.Prelude.{slice_get, nat_le, nat_lt, is_none, option_and_then}
use Rattle.std.specs.List.{AllByRecursion, list_any}
use Rattle.std.proofs.lemmas.Option.{slice_get-map}
use Rattle.mufom_expr.specs.declared.token.Letter.{Letter}
use Rattle.mufom_expr.specs.declared.token.Letter.TheVariants as letters
use Rattle.mufom_expr.specs.Tree.{Tree}
use Rattle.mufom_expr.specs.Value.{variables_of}
use Rattle.mufom_expr.proofs.TermsLemmas.{with_variables-agrees_on}
use Rattle.mufom_names.specs.declared.name.Public.{Public}
use Rattle.mufom_names.specs.declared.name.Reference.{Reference}
use Rattle.mufom_loads.specs.declared.load.Item.{Item}
use Rattle.mufom_loads.specs.declared.load.Item.TheVariants.{Literal, Field}
use Rattle.mufom_loads.specs.declared.load.Load.{Load}
use Rattle.mufom_loads.specs.declared.load.Load.TheVariants.{SetSection, SetPc, One, Repeat}
use Rattle.mufom_debug.specs.declared.item.BlockHead.{BlockHead}
use Rattle.mufom_debug.specs.declared.item.BlockHead.TheVariants as heads
use Rattle.mufom_debug.specs.Marks.{DebugMark, block_begin, block_end, name_mark, note_mark, value_mark, marks_of, offset_of, names_after_all}
use Rattle.mufom_module.specs.declared.module.Parts.{Parts}
use Rattle.mufom_module.specs.declared.module.Defect.TheVariants as kinds
use Rattle.mufom_module.specs.Contents.{any_of, item_any, debug_marks}
use Rattle.mufom_module.specs.Defects.{IsValid, counts_of, is_outside, names_outside, has_bad_place, names_bad_section, has_bad_mark, declared_after}
use Rattle.mufom_meaning.specs.Flat.{Sited, name_count, public_names}
use Rattle.mufom_meaning.specs.Joined.{joined_variable, joined_reference, joined_tree, joined_public, joined_item, joined_load, joined_head}
use Rattle.mufom_meaning.specs.Joined.{joined_mark, kept_references}
use Rattle.mufom_meaning.proofs.Tests.{either_false}
use Rattle.mufom_meaning.proofs.Members.{get_some}
use Rattle.mufom_meaning.proofs.NoDefects.{no_defect}
use Rattle.mufom_link.specs.References.{target_in}
use Rattle.mufom_link.specs.Renaming.{Renaming, renaming, moved, target_at, moved_variable, renamed_tree, renamed_public, renamed_item, renamed_load}
use Rattle.mufom_link.specs.Renaming.{renamed_head, renamed_mark}

-- on what the module has, the renaming is that of the link at the site
pub record Agrees (ms : List Parts) (site : Sited) (r : Renaming) : Type 0 where
  pub section : (k : ℕ) → nat_le (length site.parts.sections) k ≡ false → r.section k ≡ site.first_section + k
  pub debug_name : (k : ℕ) → k < name_count (marks_of site.parts.debug) → r.debug_name k ≡ site.first_name + k
  pub variable : (v : Letter × ℕ) → is_outside (counts_of site.parts) v ≡ false → r.variable v.0 v.1 ≡ joined_variable ms site v.0 v.1

-- ---- how many debug names marks declare

pub names-counted : (n : ℕ) (marks : List DebugMark) → names_after_all n marks ≡ n + name_count marks
names-counted n [] = let e : n ≡ n + 0 = omega arith in e
names-counted n (block_begin head name ∷ marks) = names-counted n marks
names-counted n (block_end end ∷ marks) = names-counted n marks
names-counted n (name_mark name ∷ marks) = let rest = names-counted (n + 1) marks in let e : n + 1 + name_count marks ≡ n + (1 + name_count marks) =
    omega arith in rest ∙ e
names-counted n (note_mark name note ∷ marks) = names-counted n marks
names-counted n (value_mark name t ∷ marks) = names-counted n marks

map-agrees : {A B : Type 0} (f g : A → B) (test : A → Bool) → ((x : A) → test x ≡ false → f x ≡ g x) → (xs : List A) → list_any test xs ≡ false
    → map f xs ≡ map g xs
map-agrees f g test same [] e = refl
map-agrees f g test same (x ∷ xs) e =
    let both = either_false (test x) (list_any test xs) e in
    let first = same x both.0 in
    let rest = map-agrees f g test same xs both.1 in
    λ i. first i ∷ rest i

module _ (ms : List Parts) (site : Sited) (r : Renaming) (agrees : Agrees ms site r) where
  abbrev outside : Tree → Bool
  outside = names_outside (counts_of site.parts)

  -- ---- expressions

  all-variables : (vs : List (Letter × ℕ)) → list_any (is_outside (counts_of site.parts)) vs ≡ false
      → AllByRecursion (λ v. r.variable v.0 v.1 ≡ joined_variable ms site v.0 v.1) vs
  all-variables [] e = tt
  all-variables (v ∷ vs) e =
      let both = either_false (is_outside (counts_of site.parts) v) (list_any (is_outside (counts_of site.parts)) vs) e in
      (agrees.variable v both.0, all-variables vs both.1)

  pub tree-agrees : (t : Tree) → outside t ≡ false → renamed_tree r t ≡ joined_tree ms site t
  tree-agrees t e = with_variables-agrees_on r.variable (joined_variable ms site) t (all-variables (variables_of t) e)

  option-agrees : (o : Option Tree) → any_of outside o ≡ false → option_map (renamed_tree r) o ≡ option_map (joined_tree ms site) o
  option-agrees None e = refl
  option-agrees (Some t) e = ap (λ u. Some u) (tree-agrees t e)

  -- ---- publics and loads

  public-agrees : (p : Public) → outside p.value ≡ false → renamed_public r p ≡ joined_public ms site p
  public-agrees p e = let value = tree-agrees p.value e in λ i. record { name = p.name; value = value i; notes = p.notes }

  pub publics-agree : (publics : List Public) → list_any (λ p. outside p.value) publics ≡ false → map (renamed_public r) publics
      ≡ map (joined_public ms site) publics
  publics-agree publics e = map-agrees (renamed_public r) (joined_public ms site) (λ p. outside p.value) public-agrees publics e

  item-agrees : (item : Item) → item_any outside item ≡ false → renamed_item r item ≡ joined_item ms site item
  item-agrees (Literal bytes) e = refl
  item-agrees (Field kind size t) e = ap (λ u. Field kind size u) (tree-agrees t e)

  load-agrees : (load : Load) → has_bad_place (counts_of site.parts) load ≡ false → renamed_load r load ≡ joined_load ms site load
  load-agrees (SetSection section) e =
      let both = either_false (nat_le (length site.parts.sections) section) false e in
      ap SetSection (agrees.section section both.0)
  load-agrees (SetPc section t) e =
      let both = either_false (nat_le (length site.parts.sections) section) (outside t) e in
      let place = agrees.section section both.0 in
      let value = tree-agrees t both.1 in
      λ i. SetPc (place i) (value i)
  load-agrees (One item) e = ap One (item-agrees item e)
  load-agrees (Repeat count items) e = ap (Repeat count) (map-agrees (renamed_item r) (joined_item ms site) (item_any outside) item-agrees items e)

  pub loads-agree : (loads : List Load) → list_any (has_bad_place (counts_of site.parts)) loads ≡ false → map (renamed_load r) loads
      ≡ map (joined_load ms site) loads
  loads-agree loads e = map-agrees (renamed_load r) (joined_load ms site) (has_bad_place (counts_of site.parts)) load-agrees loads e

  -- ---- debug marks

  head-agrees : (head : BlockHead) → names_bad_section (counts_of site.parts) head ≡ false → any_of outside (offset_of head) ≡ false
      → renamed_head r head ≡ joined_head ms site head
  head-agrees heads.Module e f = refl
  head-agrees (heads.Global stack type_index offset) e f = ap (λ t. heads.Global stack type_index t) (tree-agrees offset f)
  head-agrees (heads.Local stack type_index offset) e f = ap (λ t. heads.Local stack type_index t) (tree-agrees offset f)
  head-agrees (heads.Source numbers) e f = refl
  head-agrees (heads.Section section_type section offset) e f =
      let place = agrees.section section e in
      let value = tree-agrees offset f in
      λ i. heads.Section section_type (place i) (value i)

  grows : (n : ℕ) (marks : List DebugMark) → n ≤ names_after_all n marks
  grows n marks = let e = names-counted n marks in omega (arith, e)

  -- a name that is declared before the mark is one of the module
  used-name : (n name : ℕ) (marks : List DebugMark) → nat_lt name n ≡ true → names_after_all n marks ≤ name_count (marks_of site.parts.debug)
      → r.debug_name name ≡ site.first_name + name
  used-name n name marks e bound =
      let less : name < n = search rules in
      let grown = grows n marks in
      agrees.debug_name name (omega (arith, less, grown, bound))

  pub marks-agree : (n : ℕ) (marks : List DebugMark) → list_any (has_bad_mark (counts_of site.parts)) marks ≡ false → is_none (declared_after n marks) ≡ false
      → names_after_all n marks ≤ name_count (marks_of site.parts.debug) → map (renamed_mark r) marks ≡ map (joined_mark ms site) marks
  marks-agree n [] e f bound = refl
  marks-agree n (block_begin head name ∷ marks) e f bound =
      let both = either_false (names_bad_section (counts_of site.parts) head
      || any_of outside (offset_of head)) (list_any (has_bad_mark (counts_of site.parts)) marks) e in
      let own = either_false (names_bad_section (counts_of site.parts) head) (any_of outside (offset_of head)) both.0 in
      let first = head-agrees head own.0 own.1 in
      let rest = marks-agree n marks both.1 f bound in
      λ i. block_begin (first i) name ∷ rest i
  marks-agree n (block_end end ∷ marks) e f bound =
      let both = either_false (any_of outside end) (list_any (has_bad_mark (counts_of site.parts)) marks) e in
      let first = option-agrees end both.0 in
      let rest = marks-agree n marks both.1 f bound in
      λ i. block_end (first i) ∷ rest i
  marks-agree n (name_mark name ∷ marks) e f bound = ap (λ rest. name_mark name ∷ rest) (marks-agree (n + 1) marks e f bound)
  marks-agree n (note_mark name note ∷ marks) e f bound = by_case (nat_lt name n) refl f (λ used. marks-agree n marks e used bound) where
    by_case : (b : Bool) → nat_lt name n ≡ b → is_none (option_and_then (λ k. declared_after k marks) (if b then Some n else None)) ≡ false
        → (is_none (declared_after n marks) ≡ false → map (renamed_mark r) marks ≡ map (joined_mark ms site) marks)
        → map (renamed_mark r) (note_mark name note ∷ marks) ≡ map (joined_mark ms site) (note_mark name note ∷ marks)
    by_case true h g later = let first = used-name n name marks h bound in let rest = later g in λ i. note_mark (first i) note ∷ rest i
    by_case false h g later = absurd cc
  marks-agree n (value_mark name t ∷ marks) e f bound =
      let both = either_false (outside t) (list_any (has_bad_mark (counts_of site.parts)) marks) e in
      by_case (nat_lt name n) refl f (tree-agrees t both.0) (λ used. marks-agree n marks both.1 used bound) where
        by_case : (b : Bool) → nat_lt name n ≡ b → is_none (option_and_then (λ k. declared_after k marks) (if b then Some n else None)) ≡ false
            → renamed_tree r t ≡ joined_tree ms site t
            → (is_none (declared_after n marks) ≡ false → map (renamed_mark r) marks ≡ map (joined_mark ms site) marks)
            → map (renamed_mark r) (value_mark name t ∷ marks) ≡ map (joined_mark ms site) (value_mark name t ∷ marks)
        by_case true h g value later = let first = used-name n name marks h bound in let rest = later g in λ i. value_mark (first i) (value i) ∷ rest i
        by_case false h g value later = absurd cc

-- ---- a module without a defect names only what it has

pub record Places (m : Parts) : Type 0 where
  pub publics : list_any (λ p. names_outside (counts_of m) p.value) m.names.publics ≡ false
  pub loads : list_any (has_bad_place (counts_of m)) m.loads ≡ false
  pub marks : list_any (has_bad_mark (counts_of m)) (marks_of m.debug) ≡ false
  pub start : any_of (names_outside (counts_of m)) m.start ≡ false
  pub names : is_none (declared_after 0 (marks_of m.debug)) ≡ false

pub places : (m : Parts) → IsValid m → Places m
places m valid =
    let n = counts_of m in
    let names = is_none (declared_after 0 (debug_marks m)) in
    let start = any_of (names_outside n) m.start || names in
    let marks = list_any (has_bad_mark n) (debug_marks m) || start in
    let loads = list_any (has_bad_place n) m.loads || marks in
    let a = either_false (list_any (λ p. names_outside n p.value) m.names.publics) loads (no_defect m valid kinds.Position) in
    let b = either_false (list_any (has_bad_place n) m.loads) marks a.1 in
    let c = either_false (list_any (has_bad_mark n) (debug_marks m)) start b.1 in
    let d = either_false (any_of (names_outside n) m.start) names c.1 in
    record { publics = a.0; loads = b.0; marks = c.0; start = d.0; names = d.1 }

-- ---- the renaming that the code has

small : (first n count : ℕ) → n < count → first + count < 2 ^ 32 → moved first n ≡ first + n
small first n count less fits = omega (arith, less, fits)

inside : (count n : ℕ) → nat_le count n ≡ false → n < count
inside count n e = search rules

module _ (ms : List Parts) (site : Sited) (targets : List (Letter × ℕ))
    (sections : site.first_section + length site.parts.sections < 2 ^ 32)
    (publics : site.first_public + length site.parts.names.publics < 2 ^ 32)
    (names : site.first_name + name_count (marks_of site.parts.debug) < 2 ^ 32)
    (found : targets ≡ map (target_in (public_names ms) (kept_references ms)) site.parts.names.references) where
  section-fits : (n : ℕ) → nat_le (length site.parts.sections) n ≡ false → moved site.first_section n ≡ site.first_section + n
  section-fits n e = small site.first_section n (length site.parts.sections) (inside (length site.parts.sections) n e) sections

  target-found : (n : ℕ) → nat_le (length site.parts.names.references) n ≡ false → target_at (slice_get targets n)
      ≡ joined_reference ms (slice_get site.parts.names.references n)
  target-found n e =
      ap (λ ts. target_at (slice_get ts n)) found
      ∙ ap target_at (slice_get-map (target_in (public_names ms) (kept_references ms)) site.parts.names.references n)
      ∙ by_case (slice_get site.parts.names.references n) refl where
        by_case : (o : Option Reference) → slice_get site.parts.names.references n ≡ o
            → target_at (option_map (target_in (public_names ms) (kept_references ms)) o) ≡ joined_reference ms o
        by_case None h = absurd (get_some site.parts.names.references n (inside (length site.parts.names.references) n e) h)
        by_case (Some q) h = refl

  variable-agrees : (v : Letter × ℕ) → is_outside (counts_of site.parts) v ≡ false
      → moved_variable site.first_section site.first_public targets v.0 v.1 ≡ joined_variable ms site v.0 v.1
  variable-agrees (letters.R, n) e = ap (λ (k : ℕ). (letters.R, k)) (section-fits n e)
  variable-agrees (letters.L, n) e = ap (λ (k : ℕ). (letters.L, k)) (section-fits n e)
  variable-agrees (letters.S, n) e = ap (λ (k : ℕ). (letters.S, k)) (section-fits n e)
  variable-agrees (letters.P, n) e = ap (λ (k : ℕ). (letters.P, k)) (section-fits n e)
  variable-agrees (letters.I, n) e =
      ap (λ (k : ℕ). (letters.I, k)) (small site.first_public n (length site.parts.names.publics) (inside (length site.parts.names.publics) n e) publics)
  variable-agrees (letters.X, n) e = target-found n e

  pub site-agrees : Agrees ms site (renaming site.first_section site.first_public site.first_name targets)
  site-agrees = record {
    section = section-fits;
    debug_name = λ k less. small site.first_name k (name_count (marks_of site.parts.debug)) less names;
    variable = variable-agrees;
  }
