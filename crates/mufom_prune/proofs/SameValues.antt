-- Expressions that remain have the values that they had.
use Rattle.std.proofs.Common.{◌≡◌, ℕ, zero, suc, ◌+◌, ◌-◌, ◌<◌, ◌≤◌, List, [], ◌∷◌, ◌++◌, map, drop, length, get_or, Option, Some, None, Bool, true}
use Rattle.std.proofs.Common.{false, ◌||◌, if◌then◌else◌, refl, sym, ap, ◌∙◌, true≢false, append-nil, arith}
use Rattle.std.specs.Prelude.{slice_get, option_map, option_to_list}
use Rattle.std.specs.Str.{bytes_eq}
use Rattle.std.proofs.lemmas.Slice.Eq.{bytes_eq-Decides}
use Rattle.std.proofs.lemmas.List.{length-map}
use Rattle.std.proofs.lemmas.Option.{slice_get-map}
use Rattle.mufom_expr.specs.declared.token.Letter.{Letter}
use Rattle.mufom_expr.specs.declared.token.Letter.TheVariants as letters
use Rattle.mufom_expr.specs.Tree.{Tree}
use Rattle.mufom_expr.specs.Value.{value_at, variables_of, value_through}
use Rattle.mufom_expr.proofs.ValueLaws.{value_at-renamed}
use Rattle.mufom_sections.specs.declared.section.Section.{Section}
use Rattle.mufom_names.specs.declared.name.Public.{Public}
use Rattle.mufom_names.specs.declared.name.Reference.{Reference}
use Rattle.mufom_module.specs.declared.module.Parts.{Parts}
use Rattle.mufom_module.specs.Defects.{counts_of, count_for}
use Rattle.mufom_select.specs.Choice.{is_marked}
use Rattle.mufom_plan.specs.Names.{has_name}
use Rattle.mufom_meaning.specs.Bases.{Bases}
use Rattle.mufom_meaning.specs.Flat.{Sited, SitedPublic}
use Rattle.mufom_meaning.specs.Values.{Setting, setting, Valuation, valuation_of}
use Rattle.mufom_meaning.specs.Values.{default_of, unresolved_value, reference_value, valuation_of_reference, environment}
use Rattle.mufom_meaning.specs.Values.{value_within, value}
use Rattle.mufom_meaning.proofs.Members.{In, In-at, In-map, passes-In, get_some}
use Rattle.mufom_meaning.proofs.Tests.{either_false}
use Rattle.mufom_meaning.proofs.values.Causes.{valuation_below, within_is}
use Rattle.mufom_meaning.proofs.values.Enough.{value_at-agrees_on_variables}
use Rattle.mufom_prune.specs.Reached.{HasAll}
use Rattle.mufom_prune.specs.Kept.{first_for, named, IsKeptFor}
use Rattle.mufom_prune.specs.Pruned.{remaining, remaining_names, new_positions, positions_of, new_variable, new_tree, new_public, remains, without_others}
use Rattle.mufom_prune.proofs.NeedLaws.{none_named}
use Rattle.mufom_prune.proofs.KeptLaws.{mentioned_sized, section_kept, public_kept, mention_kept, reference_kept, reference_names}
use Rattle.mufom_prune.specs.Meaning.{new_bases}
use Rattle.mufom_prune.proofs.Settled.{settled}
use Rattle.mufom_prune.proofs.Named.{with_site, First, one_named}
use Rattle.mufom_prune.proofs.Named as first
use Rattle.mufom_prune.proofs.Commons.{same_commons}

-- ---- elements at their new positions

pub record At {X : Type 0} (k : ℕ) (marks : List Bool) (xs : List X) (n : ℕ) : Type 0 where
  pub place : ℕ
  pub is : get_or (new_positions k marks) n 0 ≡ k + place
  pub same : slice_get (remaining marks xs) place ≡ slice_get xs n

empty-at : {X : Type 0} (n : ℕ) → slice_get {X = X} [] n ≡ None
empty-at zero = refl
empty-at (suc n) = refl

pub at_new : {X : Type 0} (k : ℕ) (marks : List Bool) (xs : List X) (n : ℕ) → is_marked marks n ≡ true → At k marks xs n
at_new k [] xs n h = absurd (true≢false (sym h))
at_new k (true ∷ marks) [] zero h = record { place = 0; is = omega arith; same = refl }
at_new {X = X} k (true ∷ marks) [] (suc n) h = let rest = at_new {X = X} (suc k) marks [] n h in
    record { place = suc rest.place; is = omega (arith, rest.is); same = refl }
at_new k (false ∷ marks) [] zero h = absurd (true≢false (sym h))
at_new {X = X} k (false ∷ marks) [] (suc n) h = let rest = at_new {X = X} k marks [] n h in
    record { place = rest.place; is = rest.is; same = empty-at rest.place }
at_new k (true ∷ marks) (x ∷ xs) zero h = record { place = 0; is = omega arith; same = refl }
at_new k (true ∷ marks) (x ∷ xs) (suc n) h = let rest = at_new (suc k) marks xs n h in
    record { place = suc rest.place; is = omega (arith, rest.is); same = rest.same }
at_new k (false ∷ marks) (x ∷ xs) zero h = absurd (true≢false (sym h))
at_new k (false ∷ marks) (x ∷ xs) (suc n) h = let rest = at_new k marks xs n h in record { place = rest.place; is = rest.is; same = rest.same }

new_at : {X : Type 0} (marks : List Bool) (xs : List X) (n : ℕ) → is_marked marks n ≡ true
    → slice_get (remaining marks xs) (0 + get_or (new_positions 0 marks) n 0) ≡ slice_get xs (0 + n)
new_at marks xs n h =
    let there = at_new 0 marks xs n h in
    let from : 0 + get_or (new_positions 0 marks) n 0 ≡ there.place = omega (arith, there.is) in
    let to : n ≡ 0 + n = omega arith in
    ap (slice_get (remaining marks xs)) from ∙ there.same ∙ ap (slice_get xs) to

remaining-shorter : {X : Type 0} (marks : List Bool) (xs : List X) → length (remaining marks xs) ≤ length xs
remaining-shorter [] xs = omega arith
remaining-shorter (mark ∷ marks) [] = omega arith
remaining-shorter (true ∷ marks) (x ∷ xs) = let rest = remaining-shorter marks xs in omega (arith, rest)
remaining-shorter (false ∷ marks) (x ∷ xs) = let rest = remaining-shorter marks xs in omega (arith, rest)

-- a marked reference gives its name
names-at : (marks : List Bool) (references : List Reference) (n : ℕ) (r : Reference) → is_marked marks n ≡ true → slice_get references n ≡ Some r
    → In r (remaining marks references)
names-at marks references n r h e =
    let there = at_new 0 marks references n h in
    In-at r (remaining marks references) there.place (there.same ∙ e)

name_in : (rs : List Reference) (r : Reference) → In r rs → has_name (map (λ (q : Reference). q.name) rs) r.name ≡ true
name_in rs r h = passes-In (bytes_eq r.name) (map (λ (q : Reference). q.name) rs) r.name (In-map (λ (q : Reference). q.name) r rs h)
    ((bytes_eq-Decides r.name r.name).1 refl)

names_left : (f : Public → Public) → ((p : Public) → (f p).name ≡ p.name) → (marks : List Bool) (publics : List Public) (name : List ℕ)
    → has_name (map (λ (p : Public). p.name) publics ++ []) name ≡ false
    → has_name (map (λ (p : Public). p.name) (map f (remaining marks publics)) ++ []) name ≡ false
names_left f same [] publics name e = refl
names_left f same (mark ∷ marks) [] name e = refl
names_left f same (true ∷ marks) (p ∷ publics) name e =
    let both = either_false (bytes_eq name p.name) _ e in
    ap (λ b. b || has_name (map (λ (p : Public). p.name) (map f (remaining marks publics)) ++ []) name) (ap (bytes_eq name) (same p) ∙ both.0)
    ∙ names_left f same marks publics name both.1
names_left f same (false ∷ marks) (p ∷ publics) name e = names_left f same marks publics name (either_false (bytes_eq name p.name) _ e).1

within : {X : Type 0} (xs : List X) (i : ℕ) (x : X) → slice_get xs i ≡ Some x → i < length xs
within [] i x e = absurd cc
within (y ∷ ys) zero x e = omega arith
within (y ∷ ys) (suc i) x e = let rest = within ys i x e in omega (arith, rest)

-- a public with its module
abbrev pub wrap : Sited → Public → SitedPublic
wrap home p = record { site = home; entry = p }

module _ (m : Parts) (names staying : List (List ℕ)) (marks : List Bool) (kept : IsKeptFor m names staying marks) (bases : Bases) where
  abbrev rest : Parts
  rest = without_others m (remains m marks)

  abbrev new : Tree → Tree
  new t = new_tree (positions_of (remains m marks)) t

  abbrev pub site : Sited
  site = record { parts = m; first_section = 0; first_public = 0; first_name = 0 }

  abbrev pub site' : Sited
  site' = record { parts = rest; first_section = 0; first_public = 0; first_name = 0 }

  abbrev pub s : Setting
  s = setting (m ∷ []) bases

  abbrev pub s' : Setting
  s' = setting (rest ∷ []) (new_bases (remains m marks) bases)

  -- each variable names a kept entry
  abbrev pub IsWhole : Tree → Type 0
  IsWhole t = (v : Letter × ℕ) → In v (variables_of t) → (v.1 < count_for (counts_of m) v.0) × (is_marked marks (first_for m v.0 + v.1) ≡ true)

  -- the values of publics that remain is the same
  abbrev Same : Valuation → Valuation → Type 0
  Same valuation valuation' = (n : ℕ) (p : Public) → slice_get m.names.publics n ≡ Some p → is_marked (remains m marks).publics n ≡ true
      → valuation' site' (new p.value) ≡ valuation site p.value

  module _ (valuation valuation' : Valuation) (same : Same valuation valuation') where
    same_section : (n : ℕ) → n < length m.sections → is_marked marks (0 + n) ≡ true → is_marked (remains m marks).sections n ≡ true
    same_section n low h = let from : n ≡ 0 + n = omega arith in section_kept m names staying marks kept n low (ap (is_marked marks) from ∙ h)

    same_size : (n : ℕ) → n < length m.sections → is_marked marks (0 + n) ≡ true
        → option_map (λ (x : Section). x.size) (slice_get (rest.sections ++ []) (0 + get_or (new_positions 0 (remains m marks).sections) n 0))
        ≡ option_map (λ (x : Section). x.size) (slice_get (m.sections ++ []) (0 + n))
    same_size n low h =
        ap (option_map (λ (x : Section). x.size))
        (ap (λ (xs : List Section). slice_get xs (0 + get_or (new_positions 0 (remains m marks).sections) n 0)) (append-nil rest.sections)
        ∙ new_at (remains m marks).sections m.sections n (same_section n low h)
        ∙ ap (λ (xs : List Section). slice_get xs (0 + n)) (sym (append-nil m.sections)))

    same_base : (n : ℕ) → n < length m.sections → is_marked marks (0 + n) ≡ true
        → slice_get (remaining (remains m marks).sections bases.sections) (0 + get_or (new_positions 0 (remains m marks).sections) n 0)
        ≡ slice_get bases.sections (0 + n)
    same_base n low h = new_at (remains m marks).sections bases.sections n (same_section n low h)

    -- a public at its position
    same_public : (n : ℕ) → n < length m.names.publics → is_marked marks (length m.sections + n) ≡ true
        → valuation_of valuation' (slice_get s'.publics (0 + get_or (new_positions 0 (remains m marks).publics) n 0))
        ≡ valuation_of valuation (slice_get s.publics (0 + n))
    same_public n low h = by_case (slice_get m.names.publics n) refl where
      marked : is_marked (remains m marks).publics n ≡ true
      marked = public_kept m names staying marks kept n low h

      old : (o : Option Public) → slice_get m.names.publics n ≡ o → slice_get s.publics (0 + n) ≡ option_map (λ p. wrap site p) o
      old o e =
          let from : 0 + n ≡ n = omega arith in
          ap (λ (xs : List SitedPublic). slice_get xs (0 + n)) (append-nil (map (λ (p : Public). wrap site p) m.names.publics))
          ∙ ap (slice_get (map (λ (p : Public). wrap site p) m.names.publics)) from
          ∙ slice_get-map (λ (p : Public). wrap site p) m.names.publics n
          ∙ ap (option_map (λ (p : Public). wrap site p)) e

      now : (o : Option Public) → slice_get m.names.publics n ≡ o
          → slice_get s'.publics (0 + get_or (new_positions 0 (remains m marks).publics) n 0)
          ≡ option_map (λ p. wrap site' (new_public (positions_of (remains m marks)) p)) o
      now o e =
          let f = new_public (positions_of (remains m marks)) in
          let xs = remaining (remains m marks).publics m.names.publics in
          let place = 0 + get_or (new_positions 0 (remains m marks).publics) n 0 in
          let from : 0 + n ≡ n = omega arith in
          ap (λ (xs : List SitedPublic). slice_get xs place) (append-nil (map (λ (p : Public). wrap site' p) (map f xs)))
          ∙ slice_get-map (λ (p : Public). wrap site' p) (map f xs) place
          ∙ ap (option_map (λ (p : Public). wrap site' p)) (slice_get-map f xs place
          ∙ ap (option_map f) (new_at (remains m marks).publics m.names.publics n marked ∙ ap (slice_get m.names.publics) from ∙ e))
          ∙ twice o where
            twice : (o : Option Public) → option_map (λ (p : Public). wrap site' p) (option_map (new_public (positions_of (remains m marks))) o)
                ≡ option_map (λ p. wrap site' (new_public (positions_of (remains m marks)) p)) o
            twice None = refl
            twice (Some p) = refl

      by_case : (o : Option Public) → slice_get m.names.publics n ≡ o
          → valuation_of valuation' (slice_get s'.publics (0 + get_or (new_positions 0 (remains m marks).publics) n 0))
          ≡ valuation_of valuation (slice_get s.publics (0 + n))
      by_case None e = ap (valuation_of valuation') (now None e) ∙ ap (valuation_of valuation) (sym (old None e))
      by_case (Some p) e = ap (valuation_of valuation') (now (Some p) e) ∙ same n p e marked ∙ ap (valuation_of valuation) (sym (old (Some p) e))

    -- a reference by its name
    same_named : (n : ℕ) (r : Reference) → slice_get m.names.references n ≡ Some r → is_marked marks (length m.sections + length m.names.publics + n) ≡ true
        → valuation_of_reference s' valuation' (Some r) ≡ valuation_of_reference s valuation (Some r)
    same_named n r e h = by_case (named m r.name) refl (reference_names m names staying marks kept n r e h) where
      by_case : (o : Option ℕ) → named m r.name ≡ o → HasAll (is_marked marks) (option_to_list o) → valuation_of_reference s' valuation' (Some r)
          ≡ valuation_of_reference s valuation (Some r)
      by_case None none all =
          let f = new_public (positions_of (remains m marks)) in
          let c = remains m marks in
          let both = first.none_named site site' f (λ p. refl) r.name (length m.sections) m.names.publics c.publics none in
          let marks' = drop (length m.names.publics) (drop (length m.sections) marks) in
          let known = name_in (remaining marks' m.names.references) r (names-at marks' m.names.references n r (mention_kept m names staying marks kept n h) e) in
          let own = none_named (length m.sections) m.names.publics r.name none in
          let theirs = names_left f (λ p. refl) c.publics m.names.publics r.name own in
          let commons = same_commons m rest (remaining_names marks' m.names.references) marks' r.name (mentioned_sized m names staying marks kept) refl known
          own theirs in
          ap (λ o. reference_value valuation' o (unresolved_value s' r)) both.1
          ∙ ap (λ b. if b then bases.commons r.name else default_of r.weak) commons
          ∙ sym (ap (λ o. reference_value valuation o (unresolved_value s r)) both.0)
      by_case (Some k) is all =
          let f = new_public (positions_of (remains m marks)) in
          let c = remains m marks in
          let there = one_named site site' f (λ p. refl) r.name (length m.sections) k m.names.publics c.publics is in
          let low = within m.names.publics there.place there.entry there.at in
          let marked = public_kept m names staying marks kept there.place low (ap (is_marked marks) (sym there.is) ∙ all.0) in
          ap (λ o. reference_value valuation' o (unresolved_value s' r)) (there.after marked)
          ∙ same there.place there.entry there.at marked
          ∙ sym (ap (λ o. reference_value valuation o (unresolved_value s r)) there.before)

    same_reference : (n : ℕ) → n < length m.names.references → is_marked marks (length m.sections + length m.names.publics + n) ≡ true
        → valuation_of_reference s' valuation' (slice_get rest.names.references (get_or (new_positions 0 (remains m marks).references) n 0))
        ≡ valuation_of_reference s valuation (slice_get m.names.references n)
    same_reference n low h = by_case (slice_get m.names.references n) refl where
      now : slice_get rest.names.references (get_or (new_positions 0 (remains m marks).references) n 0) ≡ slice_get m.names.references n
      now =
          let there = at_new 0 (remains m marks).references m.names.references n (reference_kept m names staying marks kept n h) in
          let from : get_or (new_positions 0 (remains m marks).references) n 0 ≡ there.place = omega (arith, there.is) in
          ap (slice_get (remaining (remains m marks).references m.names.references)) from ∙ there.same

      by_case : (o : Option Reference) → slice_get m.names.references n ≡ o
          → valuation_of_reference s' valuation' (slice_get rest.names.references (get_or (new_positions 0 (remains m marks).references) n 0))
          ≡ valuation_of_reference s valuation (slice_get m.names.references n)
      by_case None e = absurd (get_some m.names.references n low e)
      by_case (Some r) e = ap (valuation_of_reference s' valuation') (now ∙ e) ∙ same_named n r e h ∙ ap (valuation_of_reference s valuation) (sym e)

    same_variable : (pc : Option ℕ) (v : Letter × ℕ) → v.1 < count_for (counts_of m) v.0 → is_marked marks (first_for m v.0 + v.1) ≡ true
        → value_through (new_variable (positions_of (remains m marks))) (environment s' valuation' site' pc) v.0 v.1 ≡ environment s valuation site pc v.0 v.1
    same_variable pc (letters.R, n) low h = same_base n low h
    same_variable pc (letters.L, n) low h = same_base n low h
    same_variable pc (letters.S, n) low h = same_size n low h
    same_variable pc (letters.P, n) low h = refl
    same_variable pc (letters.I, n) low h = same_public n low h
    same_variable pc (letters.X, n) low h = same_reference n low h

    same_step : (pc : Option ℕ) (t : Tree) → IsWhole t → value_at s'.modulus (environment s' valuation' site' pc) (new t)
        ≡ value_at s.modulus (environment s valuation site pc) t
    same_step pc t whole =
        value_at-renamed s'.modulus (environment s' valuation' site' pc) (new_variable (positions_of (remains m marks))) t
        ∙ value_at-agrees_on_variables s.modulus _ (environment s valuation site pc) t (λ v h. same_variable pc v (whole v h).0 (whole v h).1)

  -- the publics that remain have whole values
  module _ (publics_whole : (n : ℕ) (p : Public) → slice_get m.names.publics n ≡ Some p → is_marked (remains m marks).publics n ≡ true → IsWhole p.value) where
    same_valuation : (k : ℕ) → Same (valuation_below s k) (valuation_below s' k)
    same_valuation zero n p e h = refl
    same_valuation (suc k) n p e h =
        within_is s' k site' None (new p.value)
        ∙ same_step (valuation_below s k) (valuation_below s' k) (same_valuation k) None p.value (publics_whole n p e h)
        ∙ sym (within_is s k site None p.value)

    same_within : (k : ℕ) (pc : Option ℕ) (t : Tree) → IsWhole t → value_within s' k site' pc (new t) ≡ value_within s k site pc t
    same_within k pc t whole =
        within_is s' k site' pc (new t)
        ∙ same_step (valuation_below s k) (valuation_below s' k) (same_valuation k) pc t whole
        ∙ sym (within_is s k site pc t)

    few : length s'.publics ≤ length s.publics
    few =
        let c = remains m marks in
        let f = new_public (positions_of c) in
        let xs = remaining c.publics m.names.publics in
        let a = ap length (append-nil (map (λ (p : Public). wrap site' p) (map f xs))) ∙ length-map (map f xs) (λ (p : Public). wrap site' p)
        ∙ length-map xs f in
        let b = ap length (append-nil (map (λ (p : Public). wrap site p) m.names.publics)) ∙ length-map m.names.publics (λ (p : Public). wrap site p) in
        let less = remaining-shorter c.publics m.names.publics in
        omega (arith, a, b, less)

    -- an expression that remains has its value, though fewer publics allow fewer steps
    pub same_value : (pc : Option ℕ) (t : Tree) → IsWhole t → value s' site' pc (new t) ≡ value s site pc t
    same_value pc t whole =
        let all : (length s.publics - length s'.publics) + length s'.publics ≡ length s.publics = omega (arith, few) in
        sym (settled s' (length s.publics - length s'.publics) site' pc (new t))
        ∙ ap (λ n. value_within s' n site' pc (new t)) all
        ∙ same_within (length s.publics) pc t whole
