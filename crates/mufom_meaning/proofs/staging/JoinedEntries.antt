-- Tests that see neither positions nor expressions, on the entries of a partial link.
use Rattle.std.proofs.Common.{◌≡◌, ℕ, ◌+◌, ◌≤◌, max, List, [], ◌∷◌, ◌++◌, map, flat_map, length, Bool, false, ◌||◌, refl, sym, ◌∙◌, ap, arith, rules}
use Rattle.std.specs.Prelude.{nat_lt}
use Rattle.std.specs.List.{list_any}
use Rattle.mufom_loads.specs.declared.load.Item.{Item}
use Rattle.mufom_loads.specs.declared.load.Item.TheVariants.{Literal, Field}
use Rattle.mufom_loads.specs.declared.load.Load.{Load}
use Rattle.mufom_loads.specs.declared.load.Load.TheVariants.{SetSection, SetPc, One, Repeat}
use Rattle.mufom_debug.specs.Marks.{DebugMark, block_begin, block_end, name_mark, note_mark, value_mark, marks_of, open_after, depth_from, depth_of}
use Rattle.mufom_debug.proofs.Balance.{items_balanced}
use Rattle.mufom_module.specs.declared.module.Parts.{Parts}
use Rattle.mufom_module.specs.declared.module.Defect.TheVariants as kinds
use Rattle.mufom_module.specs.Contents.{any_item, debug_marks}
use Rattle.mufom_module.specs.Defects.{IsValid, has_long_name, has_unknown_attribute, is_long_literal, has_bad_size}
use Rattle.mufom_meaning.specs.Flat.{Sited, sited_from, name_count}
use Rattle.mufom_meaning.specs.Joined.{joined_item, joined_load, joined_mark}
use Rattle.mufom_meaning.specs.Staging.{AreValid}
use Rattle.mufom_meaning.proofs.NoDefects.{no_defect}
use Rattle.mufom_meaning.proofs.facts.Cycles.{list_any-agrees}
use Rattle.mufom_meaning.proofs.Members.{In, none-In, map-In, flat_map-In}

-- ---- lists of entries

pub list_any-mapped : {X Y : Type 0} (p : Y → Bool) (f : X → Y) (xs : List X) → list_any p (map f xs) ≡ list_any (λ x. p (f x)) xs
list_any-mapped p f [] = refl
list_any-mapped p f (x ∷ xs) = ap (λ b. p (f x) || b) (list_any-mapped p f xs)

-- a test passes no entry of a link if it passes none that a module gives it
pub none-joined : {X : Type 0} (test : X → Bool) (own : Parts → List X) (into : Sited → X → X) (sites : List Sited)
    → ((site : Sited) → In site sites → (x : X) → In x (own site.parts) → test (into site x) ≡ false)
    → list_any test (flat_map (λ site. map (into site) (own site.parts)) sites) ≡ false
none-joined {X} test own into sites fails = none-In test (flat_map (λ site. map (into site) (own site.parts)) sites) here where
  here : (y : X) → In y (flat_map (λ site. map (into site) (own site.parts)) sites) → test y ≡ false
  here y h =
      let of_site = flat_map-In (λ (site : Sited). map (into site) (own site.parts)) y sites h in
      let entry = map-In (into of_site.0) y (own of_site.0.parts) of_site.2 in
      ap test (sym entry.2) ∙ fails of_site.0 of_site.1 entry.0 entry.1

-- the same of entries that stay as they are
pub none-flat : {X : Type 0} (test : X → Bool) (own : Parts → List X) (ms : List Parts)
    → ((m : Parts) → In m ms → (x : X) → In x (own m) → test x ≡ false) → list_any test (flat_map own ms) ≡ false
none-flat {X} test own ms fails = none-In test (flat_map own ms) here where
  here : (y : X) → In y (flat_map own ms) → test y ≡ false
  here y h = let of_module = flat_map-In own y ms h in fails of_module.0 of_module.1 y of_module.2

-- ---- entries

module _ (ms : List Parts) (site : Sited) where
  pub long-mark : (mark : DebugMark) → has_long_name (joined_mark ms site mark) ≡ has_long_name mark
  long-mark (block_begin head name) = refl
  long-mark (block_end end) = refl
  long-mark (name_mark name) = refl
  long-mark (note_mark name note) = refl
  long-mark (value_mark name t) = refl

  pub attribute-mark : (mark : DebugMark) → has_unknown_attribute (joined_mark ms site mark) ≡ has_unknown_attribute mark
  attribute-mark (block_begin head name) = refl
  attribute-mark (block_end end) = refl
  attribute-mark (name_mark name) = refl
  attribute-mark (note_mark name note) = refl
  attribute-mark (value_mark name t) = refl

  pub long-item : (item : Item) → is_long_literal (joined_item ms site item) ≡ is_long_literal item
  long-item (Literal bytes) = refl
  long-item (Field kind size t) = refl

  pub size-item : (item : Item) → has_bad_size (joined_item ms site item) ≡ has_bad_size item
  size-item (Literal bytes) = refl
  size-item (Field kind size t) = refl

  pub items-load : (test : Item → Bool) → ((item : Item) → test (joined_item ms site item) ≡ test item) → (load : Load)
      → any_item test (joined_load ms site load) ≡ any_item test load
  items-load test same (SetSection section) = refl
  items-load test same (SetPc section t) = refl
  items-load test same (One item) = same item
  items-load test same (Repeat count items) = list_any-mapped test (joined_item ms site) items
      ∙ list_any-agrees (λ item. test (joined_item ms site item)) test same items

  open-mark : (n : ℕ) (mark : DebugMark) → open_after n (joined_mark ms site mark) ≡ open_after n mark
  open-mark n (block_begin head name) = refl
  open-mark n (block_end end) = refl
  open-mark n (name_mark name) = refl
  open-mark n (note_mark name note) = refl
  open-mark n (value_mark name t) = refl

  depth-marks : (marks rest : List DebugMark) (n : ℕ) → depth_from n (map (joined_mark ms site) marks ++ rest) ≡ depth_from n (marks ++ rest)
  depth-marks [] rest n = refl
  depth-marks (mark ∷ marks) rest n =
      ap (λ k. max n (depth_from k (map (joined_mark ms site) marks ++ rest))) (open-mark n mark)
      ∙ ap (max n) (depth-marks marks rest (open_after n mark))

-- ---- depth

-- the blocks of a link are no deeper than those of its modules
pub depth-joined : (ms xs : List Parts) → AreValid xs → (s p d : ℕ)
    → depth_from 0 (flat_map (λ site. map (joined_mark ms site) (marks_of site.parts.debug)) (sited_from s p d xs)) ≤ 32
depth-joined ms [] v s p d = omega arith
depth-joined ms (m ∷ xs) v s p d =
    let site : Sited = record { parts = m; first_section = s; first_public = p; first_name = d } in
    let rest = flat_map (λ (site : Sited). map (joined_mark ms site) (marks_of site.parts.debug))
    (sited_from (s + length m.sections) (p + length m.names.publics) (d + name_count (marks_of m.debug)) xs) in
    let later : depth_from 0 rest ≤ 32 = depth-joined ms xs v.1 (s + length m.sections) (p + length m.names.publics) (d + name_count (marks_of m.debug)) in
    let same = depth-marks ms site (marks_of m.debug) rest 0 in
    let split = (items_balanced m.debug).deep 0 rest in
    let low : depth_of (marks_of m.debug) ≤ 32 = not_deep m v.0 in
    omega (arith, later, same, split, low)
  where
    not_deep : (m : Parts) → IsValid m → depth_of (marks_of m.debug) ≤ 32
    not_deep m valid = let e : nat_lt 32 (depth_of (debug_marks m)) ≡ false = no_defect m valid kinds.Depth in search rules
