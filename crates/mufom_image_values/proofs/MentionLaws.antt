-- The graph of positions against the mentions of the definitions: a position leads to another exactly if the public at the one
-- mentions the public at the other.
use Rattle.std.proofs.Common.{◌≡◌, ℕ, ◌<◌, inl, inr, List, [], ◌∷◌, ◌++◌, length, Option, Some, None, Bool, true, false, refl, sym, ◌∙◌, ap}
use Rattle.std.proofs.Common.{append-nil, zero-add, arith}
use Rattle.std.specs.Prelude.{slice_get, option_map, option_and_then, option_to_list, flat_map, ◌==◌, if◌then◌else◌}
use Rattle.std.proofs.lemmas.Option.{slice_get-map, slice_get_within}
use Rattle.mufom_expr.specs.declared.token.Letter.{Letter}
use Rattle.mufom_expr.specs.declared.token.Letter.TheVariants as letters
use Rattle.mufom_expr.specs.declared.token.Token.{Token}
use Rattle.mufom_expr.specs.declared.token.Token.TheVariants.{Number, Var, Fun}
use Rattle.mufom_expr.specs.Tree.{Tree, tokens_of}
use Rattle.mufom_expr.specs.Value.{variables_of}
use Rattle.mufom_expr.specs.Mentions.{variables_in}
use Rattle.mufom_expr.proofs.Variables.{variables_in-tokens_of}
use Rattle.mufom_names.specs.declared.name.Weak.{Weak}
use Rattle.mufom_names.specs.declared.name.Public.{Public}
use Rattle.mufom_names.specs.declared.name.Reference.{Reference}
use Rattle.mufom_names.specs.Names.{names_of}
use Rattle.mufom_module.specs.declared.module.Parts.{Parts}
use Rattle.mufom_module.specs.Defects.{IsValid, counts_of, count_for}
use Rattle.mufom_meaning.specs.Flat.{SitedPublic, first_named, flat_publics}
use Rattle.mufom_meaning.specs.Values.{Setting}
use Rattle.mufom_meaning.specs.Cycles.{mentioned, mentioned_reference}
use Rattle.mufom_meaning.proofs.Members.{In, In-at, Contains-In, In-flat_map, flat_map-In}
use Rattle.mufom_numbers.proofs.Choices.{mapped_some}
use Rattle.mufom_meaning.proofs.WithoutDefect.{public_inside}
use Rattle.mufom_image_values.specs.declared.resolutions.Resolution.{Resolution}
use Rattle.mufom_image_values.specs.declared.resolutions.Resolution.TheVariants as resolutions
use Rattle.mufom_image_values.specs.Names.{place_in}
use Rattle.mufom_image_values.specs.Resolutions.{resolution_by, common_list, resolution_of, resolutions_of}
use Rattle.mufom_image_values.specs.Graph.{public_met, public_named, mentions_of, tokens_of_public, edges, IsClosed}
use Rattle.mufom_image_values.specs.Evaluated.{alone}
use Rattle.mufom_image_values.proofs.NameLaws.{place-some}
use Rattle.mufom_image_values.proofs.PublicLaws.{at_site, first-some, first-none}

-- ---- what tokens mention

module _ (met : List Resolution) where
  -- the mentions of tokens go by their variables
  mentions-variables : (tokens : List Token) → mentions_of met tokens ≡ flat_map (λ v. option_to_list (public_named met v.0 v.1)) (variables_in tokens)
  mentions-variables [] = refl
  mentions-variables (Number n ∷ tokens) = mentions-variables tokens
  mentions-variables (Var l n ∷ tokens) = ap (λ rest. option_to_list (public_named met l n) ++ rest) (mentions-variables tokens)
  mentions-variables (Fun f ∷ tokens) = mentions-variables tokens

  by_variables : (t : Tree) → mentions_of met (tokens_of t) ≡ flat_map (λ v. option_to_list (public_named met v.0 v.1)) (variables_of t)
  by_variables t = mentions-variables (tokens_of t) ∙ ap (flat_map (λ v. option_to_list (public_named met v.0 v.1))) (variables_in-tokens_of t)

  some-in : (o : Option ℕ) (c : ℕ) → In c (option_to_list o) → o ≡ Some c
  some-in None c h = absurd h
  some-in (Some x) c (inl e) = ap Some e
  some-in (Some x) c (inr h) = absurd h

  in-some : (o : Option ℕ) (c : ℕ) → o ≡ Some c → In c (option_to_list o)
  in-some None c e = absurd cc
  in-some (Some x) c e = inl cc

  -- a position that the tokens of a tree mention is that of a variable
  pub mention-variable : (t : Tree) (c : ℕ) → In c (mentions_of met (tokens_of t)) → (v : Letter × ℕ) × In v (variables_of t)
      × (public_named met v.0 v.1 ≡ Some c)
  mention-variable t c h =
      let there = flat_map-In (λ v. option_to_list (public_named met v.0 v.1)) c (variables_of t) (moved (by_variables t) h) in
      (there.0, there.1, some-in (public_named met there.0.0 there.0.1) c there.2) where
        moved : {xs ys : List ℕ} → xs ≡ ys → In c xs → In c ys
        moved e h = rw (← e) h

  pub variable-mention : (t : Tree) (v : Letter × ℕ) (c : ℕ) → In v (variables_of t) → public_named met v.0 v.1 ≡ Some c → In c (mentions_of met (tokens_of t))
  variable-mention t v c h e = moved (sym (by_variables t)) (In-flat_map (λ v. option_to_list (public_named met v.0 v.1)) v c (variables_of t) h
      (in-some (public_named met v.0 v.1) c e)) where
        moved : {xs ys : List ℕ} → xs ≡ ys → In c xs → In c ys
        moved e h = rw (← e) h

  -- the positions that a public leads to are those that its tokens mention
  pub edges-at : (publics : List Public) (a : ℕ) (p : Public) → slice_get publics a ≡ Some p → edges met publics a ≡ mentions_of met (tokens_of p.value)
  edges-at publics a p e = ap (λ o. mentions_of met (tokens_of_public o)) e

-- ---- what a module's publics mention

-- the public of the module alone
abbrev pub sit : Parts → Public → SitedPublic
sit m entry = record { site = alone m; entry = entry }

pub flat-alone : (m : Parts) → flat_publics (m ∷ []) ≡ at_site (alone m) m.names.publics
flat-alone m = append-nil (at_site (alone m) m.names.publics)

-- the first public of a name is that at its position
pub named-public : (m : Parts) (name : List ℕ)
    → first_named (at_site (alone m) m.names.publics) name ≡ option_and_then (slice_get (at_site (alone m) m.names.publics))
    (place_in (names_of m.names.publics) name)
named-public m name = by_place (place_in (names_of m.names.publics) name) refl where
  by_place : (o : Option ℕ) → place_in (names_of m.names.publics) name ≡ o
      → first_named (at_site (alone m) m.names.publics) name ≡ option_and_then (slice_get (at_site (alone m) m.names.publics)) o
  by_place None e = first-none (alone m) 0 m.names.publics name e
  by_place (Some k) e =
      let there = first-some (alone m) 0 m.names.publics name k e in
      let place : there.0 ≡ k = omega (arith, there.1) in
      there.2.1 ∙ sym there.2.2 ∙ ap (slice_get (at_site (alone m) m.names.publics)) place

-- a reference resolves to the public at the position of its name
pub met-public : (m : Parts) (r : Reference) → public_met (Some (resolution_of m r)) ≡ place_in (names_of m.names.publics) r.name
met-public m r = by_place (place_in (names_of m.names.publics) r.name) (place_in (common_list m) r.name) r.weak where
  by_size : (b : Bool) (weak : Weak) → public_met (Some (if b then resolutions.Default weak.default else resolutions.Nothing)) ≡ None
  by_size true weak = refl
  by_size false weak = refl

  by_place : (o u : Option ℕ) (weak : Option Weak) → public_met (Some (resolution_by o u weak)) ≡ o
  by_place (Some n) u weak = refl
  by_place None (Some n) weak = refl
  by_place None None None = refl
  by_place None None (Some weak) = by_size (weak.size == 0) weak

module _ (m : Parts) (s : Setting) (all : s.publics ≡ at_site (alone m) m.names.publics) where
  by_reference : (o : Option Reference) → mentioned_reference s o ≡ option_and_then (slice_get s.publics) (public_met (option_map (resolution_of m) o))
  by_reference None = refl
  by_reference (Some r) =
      ap (λ (qs : List SitedPublic). first_named qs r.name) all
      ∙ named-public m r.name
      ∙ ap (option_and_then (slice_get (at_site (alone m) m.names.publics))) (sym (met-public m r))
      ∙ ap (λ (qs : List SitedPublic). option_and_then (slice_get qs) (public_met (Some (resolution_of m r)))) (sym all)

  -- a variable mentions the public at the position that it names
  pub mention-is : (l : Letter) (n : ℕ) → mentioned s (alone m) l n ≡ option_and_then (slice_get s.publics) (public_named (resolutions_of m) l n)
  mention-is letters.I n = ap (slice_get s.publics) (zero-add n)
  mention-is letters.X n =
      by_reference (slice_get m.names.references n)
      ∙ ap (λ o. option_and_then (slice_get s.publics) (public_met o)) (sym (slice_get-map (resolution_of m) m.names.references n))
  mention-is letters.L n = refl
  mention-is letters.P n = refl
  mention-is letters.R n = refl
  mention-is letters.S n = refl

  -- the public at a position, as one of the setting
  pub at-place : (c : ℕ) (q : Public) → slice_get m.names.publics c ≡ Some q → slice_get s.publics c ≡ Some (sit m q)
  at-place c q e = ap (λ (qs : List SitedPublic). slice_get qs c) all ∙ slice_get-map (sit m) m.names.publics c ∙ ap (option_map (sit m)) e

  pub place-at : (c : ℕ) (q : SitedPublic) → slice_get s.publics c ≡ Some q → (r : Public) × (slice_get m.names.publics c ≡ Some r) × (sit m r ≡ q)
  place-at c q e =
      mapped_some (sit m) (slice_get m.names.publics c) q
      (sym (slice_get-map (sit m) m.names.publics c) ∙ ap (λ (qs : List SitedPublic). slice_get qs c) (sym all) ∙ e)

  -- what a position leads to is mentioned by its public
  pub edge-mentions : (t : Tree) (c : ℕ) (q : Public) → slice_get m.names.publics c ≡ Some q → In c (mentions_of (resolutions_of m) (tokens_of t))
      → (v : Letter × ℕ) × In v (variables_of t) × (mentioned s (alone m) v.0 v.1 ≡ Some (sit m q))
  edge-mentions t c q e h =
      let there = mention-variable (resolutions_of m) t c h in
      (there.0, there.1, mention-is there.0.0 there.0.1 ∙ ap (option_and_then (slice_get s.publics)) there.2 ∙ at-place c q e)

  -- and the other way round
  pub mention-edge : (t : Tree) (v : Letter × ℕ) (q : SitedPublic) → In v (variables_of t) → mentioned s (alone m) v.0 v.1 ≡ Some q
      → (c : ℕ) × (r : Public) × In c (mentions_of (resolutions_of m) (tokens_of t)) × (slice_get m.names.publics c ≡ Some r) × (sit m r ≡ q)
  mention-edge t v q h e = by_name (public_named (resolutions_of m) v.0 v.1) refl (sym (mention-is v.0 v.1) ∙ e) where
    by_name : (o : Option ℕ) → public_named (resolutions_of m) v.0 v.1 ≡ o → option_and_then (slice_get s.publics) o ≡ Some q
        → (c : ℕ) × (r : Public) × In c (mentions_of (resolutions_of m) (tokens_of t)) × (slice_get m.names.publics c ≡ Some r) × (sit m r ≡ q)
    by_name None f g = absurd cc
    by_name (Some c) f g = let there = place-at c q g in (c, there.0, variable-mention (resolutions_of m) t v c h f, there.1, there.2)

-- ---- all positions are those of publics

module _ (m : Parts) (valid : IsValid m) where
  named_below : (p : Public) → In p m.names.publics → (v : Letter × ℕ) → In v (variables_of p.value) → (c : ℕ) → public_named (resolutions_of m) v.0 v.1
      ≡ Some c
      → c < length m.names.publics
  named_below p h v k c e = by_letter v.0 v.1 (public_inside m valid p h v k) e where
    by_reference : (o : Option Reference) → public_met (option_map (resolution_of m) o) ≡ Some c → c < length m.names.publics
    by_reference None e = absurd cc
    by_reference (Some r) e =
        let there = place-some 0 (names_of m.names.publics) r.name c (sym (met-public m r) ∙ e) in
        let found = mapped_some (λ (p : Public). p.name) (slice_get m.names.publics there.0) r.name
        (sym (slice_get-map (λ (p : Public). p.name) m.names.publics there.0) ∙ there.2) in
        let inside = slice_get_within m.names.publics there.0 found.0 found.1 in
        omega (arith, inside, there.1)

    by_letter : (l : Letter) (n : ℕ) → n < count_for (counts_of m) l → public_named (resolutions_of m) l n ≡ Some c → c < length m.names.publics
    by_letter letters.I n inside e = let same : n ≡ c = cc in omega (arith, inside, same)
    by_letter letters.X n inside e = by_reference (slice_get m.names.references n)
        (ap public_met (sym (slice_get-map (resolution_of m) m.names.references n)) ∙ e)
    by_letter letters.L n inside e = absurd cc
    by_letter letters.P n inside e = absurd cc
    by_letter letters.R n inside e = absurd cc
    by_letter letters.S n inside e = absurd cc

  pub closed : IsClosed (edges (resolutions_of m) m.names.publics) (length m.names.publics)
  closed a c h = by_public (slice_get m.names.publics a) refl (Contains-In c (edges (resolutions_of m) m.names.publics a) h) where
    by_public : (o : Option Public) → slice_get m.names.publics a ≡ o → In c (mentions_of (resolutions_of m) (tokens_of_public o)) → c < length m.names.publics
    by_public None e k = absurd k
    by_public (Some p) e k =
        let there = mention-variable (resolutions_of m) p.value c k in
        named_below p (In-at p m.names.publics a e) there.0 there.1 c there.2
