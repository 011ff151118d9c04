-- The positions and program counters of a partial link are those of its own lists.
use Rattle.std.proofs.Common.{◌≡◌, ℕ, zero, suc, ◌+◌, ◌<◌, ◌≤◌, List, [], ◌∷◌, ◌++◌, map, length, Option, Some, None, Bool, true, false, not, ◌||◌}
use Rattle.std.proofs.Common.{◌&&◌, refl, sym, ◌∙◌, ap, cond, arith, rules}
use Rattle.std.specs.Prelude.{nat_le, nat_lt, slice_get, is_none, option_map, option_and_then, ◌==◌, if◌then◌else◌}
use Rattle.std.specs.List.{list_any}
use Rattle.std.specs.Str.{bytes_eq}
use Rattle.std.proofs.lemmas.Slice.Eq.{bytes_eq-Decides}
use Rattle.mufom_expr.specs.declared.token.Letter.{Letter}
use Rattle.mufom_expr.specs.declared.token.Letter.TheVariants as letters
use Rattle.mufom_expr.specs.Tree.{Tree}
use Rattle.mufom_expr.specs.Value.{variables_of}
use Rattle.mufom_names.specs.declared.name.Reference.{Reference}
use Rattle.mufom_loads.specs.declared.load.Item.{Item}
use Rattle.mufom_loads.specs.declared.load.Item.TheVariants.{Literal, Field}
use Rattle.mufom_loads.specs.declared.load.Load.{Load}
use Rattle.mufom_loads.specs.declared.load.Load.TheVariants.{SetSection, SetPc, One, Repeat}
use Rattle.mufom_debug.specs.declared.item.BlockHead.{BlockHead}
use Rattle.mufom_debug.specs.declared.item.BlockHead.TheVariants as heads
use Rattle.mufom_debug.specs.Marks.{DebugMark, block_begin, block_end, name_mark, note_mark, value_mark, offset_of}
use Rattle.mufom_module.specs.declared.module.Parts.{Parts}
use Rattle.mufom_module.specs.Contents.{any_of, any_expression, load_any, item_any, placed_from}
use Rattle.mufom_module.specs.Defects.{counts_of, is_outside, names_outside, names_no_section, has_bad_place, names_bad_section, begins_badly}
use Rattle.mufom_module.specs.Defects.{has_bad_mark, declared_after, is_this, is_other_counter, has_other_counter, misplaces_counter, loads_nowhere}
use Rattle.mufom_plan.specs.Names.{has_name}
use Rattle.mufom_meaning.specs.Flat.{Sited, sited, flat_references, public_names, unresolved_references, name_count}
use Rattle.mufom_meaning.specs.Joined.{position_of, same_reference, kept_references, joined_reference, joined_variable, joined_tree, joined_item}
use Rattle.mufom_meaning.specs.Joined.{joined_load, joined_head, joined_mark}
use Rattle.mufom_meaning.proofs.Members.{In, In-at, at-In, In-filter, In-flat_map, none-In, fails-In, get_some}
use Rattle.mufom_meaning.proofs.Tests.{either_false}
use Rattle.mufom_meaning.proofs.values.Named.{site_module}
use Rattle.mufom_meaning.proofs.References.{Among-distinct, get-position_of, same_reference-decides}
use Rattle.mufom_meaning.proofs.staging.Renamed.{variables_of-with_variables}
use Rattle.mufom_meaning.proofs.staging.JoinedEntries.{list_any-mapped}

-- the entries of a module of the list are within those of its link M
pub record Fits (M : Parts) (ms : List Parts) (site : Sited) : Type 0 where
  pub there : In site (sited ms)
  pub sections : site.first_section + length site.parts.sections ≤ length M.sections
  pub publics : site.first_public + length site.parts.names.publics ≤ length M.names.publics
  pub names : length M.names.publics ≡ length (public_names ms)
  pub references : length M.names.references ≡ length (kept_references ms)

not_outside : (n k : ℕ) → k < n → nat_le n k ≡ false
not_outside n k less = search rules

get-within : {A : Type 0} (xs : List A) (i : ℕ) (x : A) → slice_get xs i ≡ Some x → i < length xs
get-within [] i x e = absurd cc
get-within (y ∷ ys) zero x e = omega arith
get-within (y ∷ ys) (suc i) x e = let rest = get-within ys i x e in omega (arith, rest)

position_of-within : {A : Type 0} (test : A → Bool) (x : A) (xs : List A) → In x xs → test x ≡ true → position_of test xs < length xs
position_of-within test x xs h passes =
    let there = at-In x xs h in let found = get-position_of test x passes xs there.0 there.1 in get-within xs (position_of test xs) found.0 found.1

-- a name that is in a list is found there
name-within : (names : List (List ℕ)) (name : List ℕ) → has_name names name ≡ true → position_of (λ other. bytes_eq other name) names < length names
name-within [] name e = absurd cc
name-within (first ∷ names) name e = by_case (bytes_eq name first) refl e (name-within names name) where
  by_case : (b : Bool) → bytes_eq name first ≡ b → (b || list_any (bytes_eq name) names) ≡ true
      → (has_name names name ≡ true → position_of (λ other. bytes_eq other name) names < length names)
      → position_of (λ other. bytes_eq other name) (first ∷ names) < length (first ∷ names)
  by_case true f e later =
      let same : name ≡ first = (bytes_eq-Decides name first).0 f in
      let turned : bytes_eq first name ≡ true = (bytes_eq-Decides first name).1 (sym same) in
      let at : position_of (λ other. bytes_eq other name) (first ∷ names) ≡ 0 =
      ap (λ b. cond b 0 (suc (position_of (λ other. bytes_eq other name) names))) turned in
      omega (arith, at)
  by_case false f e later = by_head (bytes_eq first name) (later e) where
    by_head : (b : Bool) → position_of (λ other. bytes_eq other name) names < length names
        → cond b 0 (suc (position_of (λ other. bytes_eq other name) names)) < suc (length names)
    by_head true less = omega arith
    by_head false less = omega (arith, less)

-- these loads keep to the rules, whichever section is current before them
abbrev pub KeepRules : List Load → Type 0
KeepRules loads = (now : Option ℕ) → (list_any misplaces_counter (placed_from now loads) ≡ false) × (list_any loads_nowhere (placed_from now loads) ≡ false)

module _ (M : Parts) (ms : List Parts) (site : Sited) (fits : Fits M ms site) where
  -- ---- variables

  reference-inside : (r : Reference) → In r (flat_references ms) → is_outside (counts_of M) (joined_reference ms (Some r)) ≡ false
  reference-inside r h = by_case (has_name (public_names ms) r.name) refl where
    by_case : (b : Bool) → has_name (public_names ms) r.name ≡ b
        → is_outside (counts_of M) (cond b (letters.I, position_of (λ name. bytes_eq name r.name) (public_names ms)) (
          letters.X,
          position_of (same_reference r) (kept_references ms),
        )) ≡ false
    by_case true e = let less = name-within (public_names ms) r.name e in
        not_outside (length M.names.publics) (position_of (λ name. bytes_eq name r.name) (public_names ms)) (omega (arith, less, fits.names))
    by_case false e =
        let unresolved : In r (unresolved_references ms) = In-filter (λ reference. not (has_name (public_names ms) reference.name)) r (ap not e)
        (flat_references ms) h in
        let there = at-In r (unresolved_references ms) unresolved in
        let kept = Among-distinct same_reference same_reference-decides r (unresolved_references ms) there.0 there.1 in
        let itself : same_reference r r ≡ true = (same_reference-decides r r).1 refl in
        let less = position_of-within (same_reference r) r (kept_references ms) (In-at r (kept_references ms) kept.0 kept.1) itself in
        not_outside (length M.names.references) (position_of (same_reference r) (kept_references ms)) (omega (arith, less, fits.references))

  found-inside : (n : ℕ) → n < length site.parts.names.references → (o : Option Reference) → slice_get site.parts.names.references n ≡ o
      → is_outside (counts_of M) (joined_reference ms o) ≡ false
  found-inside n less None e = absurd (get_some site.parts.names.references n less e)
  found-inside n less (Some r) e =
      let own : In r site.parts.names.references = In-at r site.parts.names.references n e in
      reference-inside r (In-flat_map (λ (m : Parts). m.names.references) site.parts r ms (site_module 0 0 0 ms site fits.there) own)

  variable-inside : (v : Letter × ℕ) → is_outside (counts_of site.parts) v ≡ false → is_outside (counts_of M) (joined_variable ms site v.0 v.1) ≡ false
  variable-inside (letters.I, n) e = let less : n < length site.parts.names.publics = search rules in
      not_outside (length M.names.publics) (site.first_public + n) (omega (arith, less, fits.publics))
  variable-inside (letters.L, n) e = let less : n < length site.parts.sections = search rules in
      not_outside (length M.sections) (site.first_section + n) (omega (arith, less, fits.sections))
  variable-inside (letters.P, n) e = let less : n < length site.parts.sections = search rules in
      not_outside (length M.sections) (site.first_section + n) (omega (arith, less, fits.sections))
  variable-inside (letters.R, n) e = let less : n < length site.parts.sections = search rules in
      not_outside (length M.sections) (site.first_section + n) (omega (arith, less, fits.sections))
  variable-inside (letters.S, n) e = let less : n < length site.parts.sections = search rules in
      not_outside (length M.sections) (site.first_section + n) (omega (arith, less, fits.sections))
  variable-inside (letters.X, n) e = let less : n < length site.parts.names.references = search rules in
      found-inside n less (slice_get site.parts.names.references n) refl

  section-inside : (n : ℕ) → nat_le (length site.parts.sections) n ≡ false → nat_le (length M.sections) (site.first_section + n) ≡ false
  section-inside n e = let less : n < length site.parts.sections = search rules in
      not_outside (length M.sections) (site.first_section + n) (omega (arith, less, fits.sections))

  -- the section whose program counter may be named, by its flat number
  abbrev moved : Option ℕ → Option ℕ
  moved allowed = option_map (λ k. site.first_section + k) allowed

  reference-counter : (allowed : Option ℕ) (o : Option Reference) → is_other_counter allowed (joined_reference ms o) ≡ false
  reference-counter allowed None = refl
  reference-counter allowed (Some r) = by_case (has_name (public_names ms) r.name) where
    by_case : (b : Bool) → is_other_counter allowed (cond b (letters.I, position_of (λ name. bytes_eq name r.name) (public_names ms)) (
      letters.X,
      position_of (same_reference r) (kept_references ms),
    )) ≡ false
    by_case true = refl
    by_case false = refl

  counter-here : (allowed : Option ℕ) (n : ℕ) → not (is_this allowed n) ≡ false → not (is_this (moved allowed) (site.first_section + n)) ≡ false
  counter-here None n e = absurd cc
  counter-here (Some k) n e =
      let same : k ≡ n = search rules in
      let also : ((site.first_section + k) == (site.first_section + n)) ≡ true = search rules in
      ap not also

  counter-variable : (allowed : Option ℕ) (v : Letter × ℕ) → is_other_counter allowed v ≡ false
      → is_other_counter (moved allowed) (joined_variable ms site v.0 v.1) ≡ false
  counter-variable allowed (letters.I, n) e = refl
  counter-variable allowed (letters.L, n) e = refl
  counter-variable allowed (letters.P, n) e = counter-here allowed n e
  counter-variable allowed (letters.R, n) e = refl
  counter-variable allowed (letters.S, n) e = refl
  counter-variable allowed (letters.X, n) e = reference-counter (moved allowed) (slice_get site.parts.names.references n)

  -- ---- expressions

  -- a test of variables that fails at each, and another that then fails at each joined one
  tree-fails : (test other : Letter × ℕ → Bool) → ((v : Letter × ℕ) → test v ≡ false → other (joined_variable ms site v.0 v.1) ≡ false)
      → (t : Tree) → list_any test (variables_of t) ≡ false → list_any other (variables_of (joined_tree ms site t)) ≡ false
  tree-fails test other each t e =
      ap (list_any other) (variables_of-with_variables (joined_variable ms site) t)
      ∙ list_any-mapped other (λ v. joined_variable ms site v.0 v.1) (variables_of t)
      ∙ none-In (λ v. other (joined_variable ms site v.0 v.1)) (variables_of t) (λ v h. each v (fails-In test (variables_of t) e v h))

  pub tree-inside : (t : Tree) → names_outside (counts_of site.parts) t ≡ false → names_outside (counts_of M) (joined_tree ms site t) ≡ false
  tree-inside t e = tree-fails (is_outside (counts_of site.parts)) (is_outside (counts_of M)) variable-inside t e

  pub tree-counter : (allowed : Option ℕ) (t : Tree) → has_other_counter allowed t ≡ false → has_other_counter (moved allowed) (joined_tree ms site t) ≡ false
  tree-counter allowed t e = tree-fails (is_other_counter allowed) (is_other_counter (moved allowed)) (counter-variable allowed) t e

  -- ---- loads and marks with such expressions

  module _ (test other : Tree → Bool) (each : (t : Tree) → test t ≡ false → other (joined_tree ms site t) ≡ false) where
    item-fails : (item : Item) → item_any test item ≡ false → item_any other (joined_item ms site item) ≡ false
    item-fails (Literal bytes) e = refl
    item-fails (Field kind size t) e = each t e

    load-fails : (load : Load) → load_any test load ≡ false → load_any other (joined_load ms site load) ≡ false
    load-fails (SetSection section) e = refl
    load-fails (SetPc section t) e = each t e
    load-fails (One item) e = item-fails item e
    load-fails (Repeat count items) e =
        list_any-mapped (item_any other) (joined_item ms site) items
        ∙ none-In (λ item. item_any other (joined_item ms site item)) items (λ item h. item-fails item (fails-In (item_any test) items e item h))

    pub option-fails : (o : Option Tree) → any_of test o ≡ false → any_of other (option_map (joined_tree ms site) o) ≡ false
    option-fails None e = refl
    option-fails (Some t) e = each t e

    head-fails : (head : BlockHead) → any_of test (offset_of head) ≡ false → any_of other (offset_of (joined_head ms site head)) ≡ false
    head-fails heads.Module e = refl
    head-fails (heads.Global stack type_index offset) e = each offset e
    head-fails (heads.Source numbers) e = refl
    head-fails (heads.Local stack type_index offset) e = each offset e
    head-fails (heads.Section section_type section offset) e = each offset e

    pub mark-fails : (mark : DebugMark) → any_expression test mark ≡ false → any_expression other (joined_mark ms site mark) ≡ false
    mark-fails (block_begin head name) e = head-fails head e
    mark-fails (block_end end) e = option-fails end e
    mark-fails (name_mark name) e = refl
    mark-fails (note_mark name note) e = refl
    mark-fails (value_mark name t) e = each t e

  -- ---- positions of loads and marks

  load-section : (load : Load) → names_no_section (counts_of site.parts) load ≡ false → names_no_section (counts_of M) (joined_load ms site load) ≡ false
  load-section (SetSection section) e = section-inside section e
  load-section (SetPc section t) e = section-inside section e
  load-section (One item) e = refl
  load-section (Repeat count items) e = refl

  pub load-inside : (load : Load) → has_bad_place (counts_of site.parts) load ≡ false → has_bad_place (counts_of M) (joined_load ms site load) ≡ false
  load-inside load e =
      let both = either_false (names_no_section (counts_of site.parts) load) (load_any (names_outside (counts_of site.parts)) load) e in
      ap (λ b. b || load_any (names_outside (counts_of M)) (joined_load ms site load)) (load-section load both.0)
      ∙ load-fails (names_outside (counts_of site.parts)) (names_outside (counts_of M)) tree-inside load both.1

  head-section : (head : BlockHead) → names_bad_section (counts_of site.parts) head ≡ false → names_bad_section (counts_of M) (joined_head ms site head) ≡ false
  head-section heads.Module e = refl
  head-section (heads.Global stack type_index offset) e = refl
  head-section (heads.Source numbers) e = refl
  head-section (heads.Local stack type_index offset) e = refl
  head-section (heads.Section section_type section offset) e = section-inside section e

  mark-section : (mark : DebugMark) → begins_badly (counts_of site.parts) mark ≡ false → begins_badly (counts_of M) (joined_mark ms site mark) ≡ false
  mark-section (block_begin head name) e = head-section head e
  mark-section (block_end end) e = refl
  mark-section (name_mark name) e = refl
  mark-section (note_mark name note) e = refl
  mark-section (value_mark name t) e = refl

  pub mark-inside : (mark : DebugMark) → has_bad_mark (counts_of site.parts) mark ≡ false → has_bad_mark (counts_of M) (joined_mark ms site mark) ≡ false
  mark-inside mark e =
      let both = either_false (begins_badly (counts_of site.parts) mark) (any_expression (names_outside (counts_of site.parts)) mark) e in
      ap (λ b. b || any_expression (names_outside (counts_of M)) (joined_mark ms site mark)) (mark-section mark both.0)
      ∙ mark-fails (names_outside (counts_of site.parts)) (names_outside (counts_of M)) tree-inside mark both.1

  -- ---- the current section

  -- the section that is current in the link, where this one is in the module; any may be if none is
  abbrev Runs : Option ℕ → Option ℕ → Type 0
  Runs None now = Unit {0}
  Runs (Some k) now = now ≡ Some (site.first_section + k)

  and_false : (b : Bool) → (b && false) ≡ false
  and_false true = refl
  and_false false = refl

  item-load : (load : Load) (k : ℕ) (now : Option ℕ) → now ≡ Some (site.first_section + k) → load_any (has_other_counter (Some k)) load ≡ false
      → load_any (has_other_counter now) (joined_load ms site load) ≡ false
  item-load load k now same e =
      ap (λ allowed. load_any (has_other_counter allowed) (joined_load ms site load)) same
      ∙ load-fails (has_other_counter (Some k)) (has_other_counter (Some (site.first_section + k))) (tree-counter (Some k)) load e

  placed : (now : Option ℕ) (k : ℕ) → now ≡ Some (site.first_section + k) → (is_none now && true) ≡ false
  placed now k same = ap (λ o. is_none o && true) same

  pub loads-keep : (loads more : List Load) (current now : Option ℕ) → Runs current now → list_any misplaces_counter (placed_from current loads) ≡ false
      → list_any loads_nowhere (placed_from current loads) ≡ false → KeepRules more
      → (list_any misplaces_counter (placed_from now (map (joined_load ms site) loads ++ more)) ≡ false)
      × (list_any loads_nowhere (placed_from now (map (joined_load ms site) loads ++ more)) ≡ false)
  loads-keep [] more current now runs e f keep = keep now
  loads-keep (SetSection section ∷ loads) more current now runs e f keep =
      let rest = loads-keep loads more (Some section) (Some (site.first_section + section)) refl e (either_false (is_none current && false) _ f).1 keep in (
        rest.0,
        ap (λ b. b || list_any loads_nowhere (placed_from (Some (site.first_section + section)) (map (joined_load ms site) loads ++ more)))
            (and_false (is_none now)) ∙ rest.1,
      )
  loads-keep (SetPc section t ∷ loads) more current now runs e f keep =
      let own = either_false (has_other_counter (Some section) t) (list_any misplaces_counter (placed_from current loads)) e in
      let rest = loads-keep loads more current now runs own.1 (either_false (is_none current && false) _ f).1 keep in
      let here : has_other_counter (Some (site.first_section + section)) (joined_tree ms site t) ≡ false = tree-counter (Some section) t own.0 in (
        ap (λ b. b || list_any misplaces_counter (placed_from now (map (joined_load ms site) loads ++ more))) here ∙ rest.0,
        ap (λ b. b || list_any loads_nowhere (placed_from now (map (joined_load ms site) loads ++ more))) (and_false (is_none now)) ∙ rest.1,
      )
  loads-keep (One item ∷ loads) more None now runs e f keep = absurd cc
  loads-keep (One item ∷ loads) more (Some k) now runs e f keep =
      let own = either_false (load_any (has_other_counter (Some k)) (One item)) (list_any misplaces_counter (placed_from (Some k) loads)) e in
      let rest = loads-keep loads more (Some k) now runs own.1 f keep in (
        ap (λ b. b || list_any misplaces_counter (placed_from now (map (joined_load ms site) loads ++ more))) (item-load (One item) k now runs own.0) ∙ rest.0,
        ap (λ b. b || list_any loads_nowhere (placed_from now (map (joined_load ms site) loads ++ more))) (placed now k runs) ∙ rest.1,
      )
  loads-keep (Repeat count items ∷ loads) more None now runs e f keep = absurd cc
  loads-keep (Repeat count items ∷ loads) more (Some k) now runs e f keep =
      let own = either_false (load_any (has_other_counter (Some k)) (Repeat count items)) (list_any misplaces_counter (placed_from (Some k) loads)) e in
      let rest = loads-keep loads more (Some k) now runs own.1 f keep in (
        ap (λ b. b || list_any misplaces_counter (placed_from now (map (joined_load ms site) loads ++ more)))
            (item-load (Repeat count items) k now runs own.0) ∙ rest.0,
        ap (λ b. b || list_any loads_nowhere (placed_from now (map (joined_load ms site) loads ++ more))) (placed now k runs) ∙ rest.1,
      )

  -- ---- debug names

  name-declared : (n name : ℕ) → nat_lt name n ≡ true → nat_lt (site.first_name + name) (site.first_name + n) ≡ true
  name-declared n name e = let less : name < n = search rules in let more : site.first_name + name < site.first_name + n = omega (arith, less) in search rules

  -- the names that marks use are declared after those of the modules before
  pub names-declared : (marks more : List DebugMark) (n : ℕ) → is_none (declared_after n marks) ≡ false
      → declared_after (site.first_name + n) (map (joined_mark ms site) marks ++ more) ≡ declared_after (site.first_name + (n + name_count marks)) more
  names-declared [] more n e = ap (λ k. declared_after k more) (omega arith)
  names-declared (block_begin head name ∷ marks) more n e = names-declared marks more n e
  names-declared (block_end end ∷ marks) more n e = names-declared marks more n e
  names-declared (name_mark name ∷ marks) more n e =
      let next : site.first_name + n + 1 ≡ site.first_name + (n + 1) = omega arith in
      let last : site.first_name + (n + 1 + name_count marks) ≡ site.first_name + (n + (1 + name_count marks)) = omega arith in
      ap (λ k. declared_after k (map (joined_mark ms site) marks ++ more)) next ∙ names-declared marks more (n + 1) e ∙ ap (λ k. declared_after k more) last
  names-declared (note_mark name note ∷ marks) more n e = by_case (nat_lt name n) refl e (names-declared marks more n) where
    by_case : (b : Bool) → nat_lt name n ≡ b → is_none (option_and_then (λ k. declared_after k marks) (if b then Some n else None)) ≡ false
        → (is_none (declared_after n marks) ≡ false → declared_after (site.first_name + n) (map (joined_mark ms site) marks ++ more)
        ≡ declared_after (site.first_name + (n + name_count marks)) more)
        → declared_after (site.first_name + n) (map (joined_mark ms site) (note_mark name note ∷ marks) ++ more)
        ≡ declared_after (site.first_name + (n + name_count marks)) more
    by_case true f e later =
        ap (λ b. option_and_then (λ k. declared_after k (map (joined_mark ms site) marks ++ more)) (if b then Some (site.first_name + n) else None))
        (name-declared n name f) ∙ later e
    by_case false f e later = absurd cc
  names-declared (value_mark name t ∷ marks) more n e = by_case (nat_lt name n) refl e (names-declared marks more n) where
    by_case : (b : Bool) → nat_lt name n ≡ b → is_none (option_and_then (λ k. declared_after k marks) (if b then Some n else None)) ≡ false
        → (is_none (declared_after n marks) ≡ false → declared_after (site.first_name + n) (map (joined_mark ms site) marks ++ more)
        ≡ declared_after (site.first_name + (n + name_count marks)) more)
        → declared_after (site.first_name + n) (map (joined_mark ms site) (value_mark name t ∷ marks) ++ more)
        ≡ declared_after (site.first_name + (n + name_count marks)) more
    by_case true f e later =
        ap (λ b. option_and_then (λ k. declared_after k (map (joined_mark ms site) marks ++ more)) (if b then Some (site.first_name + n) else None))
        (name-declared n name f) ∙ later e
    by_case false f e later = absurd cc
