-- Names form cycles in the list with a link if they do in the list with the group.
use Rattle.std.proofs.Common.{◌≡◌, ℕ, zero, suc, ◌+◌, List, [], ◌∷◌, map, length, Option, Some, None, Bool, true, false, ◌||◌, refl, sym, ◌∙◌, ap}
use Rattle.std.proofs.Common.{subst, add_assoc}
use Rattle.std.specs.Prelude.{slice_get, if◌then◌else◌}
use Rattle.std.specs.List.{list_any}
use Rattle.std.specs.Str.{bytes_eq}
use Rattle.mufom_expr.specs.declared.token.Letter.{Letter}
use Rattle.mufom_expr.specs.declared.token.Letter.TheVariants as letters
use Rattle.mufom_expr.specs.Tree.{Tree}
use Rattle.mufom_expr.specs.Value.{variables_of}
use Rattle.mufom_names.specs.declared.name.Reference.{Reference}
use Rattle.mufom_module.specs.declared.module.Parts.{Parts}
use Rattle.mufom_plan.specs.Names.{has_name}
use Rattle.mufom_meaning.specs.Flat.{Sited, SitedPublic, public_names, first_named}
use Rattle.mufom_meaning.specs.Values.{Setting}
use Rattle.mufom_meaning.specs.Joined.{joined_variable, joined_reference, kept_references, position_of, same_reference}
use Rattle.mufom_meaning.specs.Cycles.{mentioned, mentioned_reference, is_or_leads, leads_within, leads_from}
use Rattle.mufom_meaning.proofs.Paired.{PairedOption, Paired-get, Paired-length}
use Rattle.mufom_meaning.proofs.staging.Renamed.{variables_of-with_variables}
use Rattle.mufom_meaning.proofs.References.{get-length}
use Rattle.mufom_meaning.proofs.staging.Moved.{shifted, IsOfGroup, MovedTree, stays, joins, MovedPublic, AreSettings, kept_reference, same_first}

list_any-map : {A B : Type 0} (p : B → Bool) (f : A → B) (xs : List A) → list_any p (map f xs) ≡ list_any (λ x. p (f x)) xs
list_any-map p f [] = refl
list_any-map p f (x ∷ xs) = ap (λ b. p (f x) || b) (list_any-map p f xs)

pub list_any-agrees : {A : Type 0} (p q : A → Bool) → ((x : A) → p x ≡ q x) → (xs : List A) → list_any p xs ≡ list_any q xs
list_any-agrees p q same [] = refl
list_any-agrees p q same (x ∷ xs) = let a = same x in let b = list_any-agrees p q same xs in λ i. a i || b i

module _ (ms : List Parts) (home : Sited) (s other : Setting) (h : AreSettings ms home s other) where
  abbrev Both : Option SitedPublic → Option SitedPublic → Type 0
  Both = PairedOption (MovedPublic ms home)

  pub first_both : (name : List ℕ) → Both (first_named s.publics name) (first_named other.publics name)
  first_both name = same_first ms home s other h (λ x y. None) (λ x y. None) (λ x y x' y' m. refl) name

  public_both : (n : ℕ) → Both (slice_get s.publics n) (slice_get other.publics n)
  public_both n = Paired-get (MovedPublic ms home) s.publics other.publics n h.publics

  reference_both : (r : Option Reference) → Both (mentioned_reference s r) (mentioned_reference other r)
  reference_both None = tt
  reference_both (Some r) = first_both r.name

  mentioned_here : (site : Sited) (l : Letter) (n : ℕ) → Both (mentioned s site l n) (mentioned other site l n)
  mentioned_here site letters.R n = tt
  mentioned_here site letters.L n = tt
  mentioned_here site letters.S n = tt
  mentioned_here site letters.P n = tt
  mentioned_here site letters.I n = public_both (site.first_public + n)
  mentioned_here site letters.X n = reference_both (slice_get site.parts.names.references n)

  abbrev linked : Letter × ℕ → Option SitedPublic
  linked v = mentioned s home v.0 v.1

  along : (p p' q q' : Option SitedPublic) → p ≡ p' → q' ≡ q → Both p' q' → Both p q
  along p p' q q' e f both = subst (λ x. Both x q) (sym e) (subst (λ y. Both p' y) f both)

  named_there : (site : Sited) → IsOfGroup ms site → (n : ℕ) (r : Reference) → slice_get site.parts.names.references n ≡ Some r → (b : Bool)
      → has_name (public_names ms) r.name ≡ b
      → Both (linked (if b then (letters.I, position_of (λ public. bytes_eq public r.name) (public_names ms))
      else (letters.X, position_of (same_reference r) (kept_references ms)))) (mentioned_reference other (Some r))
  named_there site within n r e true met =
      let q = h.first r.name met in
      along _ _ _ _ refl (q.1 ∙ sym q.2) (public_both (home.first_public + position_of (λ public. bytes_eq public r.name) (public_names ms)))
  named_there site within n r e false fails =
      let found = kept_reference ms home s other h (λ x y. None) (λ x y. None) (λ x y x' y' m. refl) site within n r e fails in
      along _ _ _ _ (ap (mentioned_reference s) (found.1 ∙ ap Some (sym found.2))) refl (reference_both (Some r))

  reference_there : (site : Sited) → IsOfGroup ms site → (n : ℕ) (r : Option Reference) → slice_get site.parts.names.references n ≡ r
      → Both (linked (joined_reference ms r)) (mentioned_reference other r)
  reference_there site within n None e =
      along _ _ _ _ (ap (λ rs. mentioned_reference s (slice_get rs (length (kept_references ms)))) h.references
      ∙ ap (mentioned_reference s) (get-length (kept_references ms))) refl tt
  reference_there site within n (Some r) e = named_there site within n r e (has_name (public_names ms) r.name) refl

  mentioned_there : (site : Sited) → IsOfGroup ms site → (l : Letter) (n : ℕ)
      → Both (linked (joined_variable ms site l n)) (mentioned other (shifted home site) l n)
  mentioned_there site within letters.R n = tt
  mentioned_there site within letters.L n = tt
  mentioned_there site within letters.S n = tt
  mentioned_there site within letters.P n = tt
  mentioned_there site within letters.I n =
      along _ _ _ _ (ap (slice_get s.publics) (sym (add_assoc home.first_public site.first_public n))) refl
      (public_both ((home.first_public + site.first_public) + n))
  mentioned_there site within letters.X n = reference_there site within n (slice_get site.parts.names.references n) refl

  agree_leads : (leads leads' : Sited → Tree → Bool) → ((site : Sited) (t : Tree) (site' : Sited) (t' : Tree) → MovedTree ms home site t site' t'
      → leads site t ≡ leads' site' t')
      → (name : List ℕ) (p q : Option SitedPublic) → Both p q → is_or_leads leads name p ≡ is_or_leads leads' name q
  agree_leads leads leads' same name None None m = refl
  agree_leads leads leads' same name (Some p) (Some q) m =
      let a = m.name in let b = same p.site p.entry.value q.site q.entry.value m.tree in λ i. bytes_eq (a i) name || b i
  agree_leads leads leads' same name None (Some q) m = absurd m
  agree_leads leads leads' same name (Some p) None m = absurd m

  pub same_leads : (k : ℕ) (name : List ℕ) (site : Sited) (t : Tree) (site' : Sited) (t' : Tree) → MovedTree ms home site t site' t'
      → leads_within s k name site t ≡ leads_within other k name site' t'
  same_leads zero name site t site' t' m = refl
  same_leads (suc k) name _ _ _ _ (stays site t) =
      list_any-agrees _ _ (λ v. agree_leads (λ x y. leads_within s k name x y) (λ x y. leads_within other k name x y) (same_leads k name) name _ _
      (mentioned_here site v.0 v.1)) (variables_of t)
  same_leads (suc k) name _ _ _ _ (joins site t within) =
      ap (list_any (λ v. is_or_leads (λ x y. leads_within s k name x y) name (mentioned s home v.0 v.1)))
      (variables_of-with_variables (joined_variable ms site) t)
      ∙ list_any-map (λ v. is_or_leads (λ x y. leads_within s k name x y) name (mentioned s home v.0 v.1)) (λ v. joined_variable ms site v.0 v.1)
      (variables_of t)
      ∙ list_any-agrees _ _ (λ v. agree_leads (λ x y. leads_within s k name x y) (λ x y. leads_within other k name x y) (same_leads k name) name _ _
      (mentioned_there site within v.0 v.1)) (variables_of t)

  pub from_both : (k : ℕ) (name : List ℕ) (p q : Option SitedPublic) → Both p q → leads_from s k name p ≡ leads_from other k name q
  from_both k name None None m = refl
  from_both k name (Some p) (Some q) m = same_leads k name p.site p.entry.value q.site q.entry.value m.tree
  from_both k name None (Some q) m = absurd m
  from_both k name (Some p) None m = absurd m

  pub same_cycle : (name : List ℕ) → leads_from s (length s.publics) name (first_named s.publics name)
      ≡ leads_from other (length other.publics) name (first_named other.publics name)
  same_cycle name =
      ap (λ k. leads_from s k name (first_named s.publics name)) (Paired-length (MovedPublic ms home) s.publics other.publics h.publics)
      ∙ from_both (length other.publics) name _ _ (first_both name)
