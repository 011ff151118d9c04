-- What a record states of an entry that an earlier one declares changes this entry in its place, and no other.
use Rattle.std.proofs.Common.{◌≡◌, ℕ, zero, suc, ◌==◌, false, cond, nat_eq, List, [], ◌∷◌, filter_map, slice_get, Option, Some, None, is_some, refl}
use Rattle.std.proofs.Common.{sym, ap, subst, ◌∙◌, eq-eqb, true≢false}
use Rattle.std.specs.Prelude.{unwrap_or, slice_set}
use Rattle.std.specs.List.{cons_option, IsDistinct, AllByRecursion}
use Rattle.mufom_read.proofs.TableLaws.{eqb-swap}

-- the entry, changed if its key is this one
abbrev pub changed_at : {E : Type 0} → ℕ → (E → E) → Option ℕ → Option E → Option E
changed_at i change (Some j) (Some e) = Some (cond (j == i) (change e) e)
changed_at i change key e = e

-- There is a key exactly if there is an entry. `after` gives the same entry as `by`, but changed if its key is this one.
pub record IsChange {P E : Type 0} (key : P → Option ℕ) (by after : P → Option E) (i : ℕ) (change : E → E) : Type 0 where
  pub keyed : (p : P) → is_some (key p) ≡ is_some (by p)
  pub changed : (p : P) → after p ≡ changed_at i change (key p) (by p)

-- none of these keys is this one
abbrev pub lacks_key : ℕ → List ℕ → Type 0
lacks_key i js = AllByRecursion (λ j. (j == i) ≡ false) js

module _ {P E : Type 0} (key : P → Option ℕ) (by after : P → Option E) (i : ℕ) (change : E → E) (is : IsChange key by after i change) where
  one_same : (k : Option ℕ) (e : Option E) (ks : List ℕ) → lacks_key i (cons_option k ks) → changed_at i change k e ≡ e
  one_same (Some j) (Some e) ks lacks = ap (λ b. Some (cond b (change e) e)) lacks.0
  one_same (Some j) None ks lacks = refl
  one_same None e ks lacks = refl

  rest_lacks : (k : Option ℕ) (ks : List ℕ) → lacks_key i (cons_option k ks) → lacks_key i ks
  rest_lacks (Some j) ks lacks = lacks.1
  rest_lacks None ks lacks = lacks

  -- if no key is this one, nothing changes
  pub others-same : (ps : List P) → lacks_key i (filter_map key ps) → filter_map after ps ≡ filter_map by ps
  others-same [] lacks = refl
  others-same (p ∷ ps) lacks =
      (λ z. cons_option ((is.changed p ∙ one_same (key p) (by p) (filter_map key ps) lacks) z)
      (others-same ps (rest_lacks (key p) (filter_map key ps) lacks) z))

  none_else : (j : ℕ) (js : List ℕ) → j ≡ i → AllByRecursion (λ y. nat_eq j y ≡ false) js → lacks_key i js
  none_else j [] e all = tt
  none_else j (y ∷ js) e all = (eqb-swap y i ∙ ap (λ n. n == y) (sym e) ∙ all.0, none_else j js e all.1)

  other_there : (j offset : ℕ) (js : List ℕ) → AllByRecursion (λ y. nat_eq j y ≡ false) js → slice_get js offset ≡ Some i → (j == i) ≡ false
  other_there j offset [] all there = cc
  other_there j zero (y ∷ js) all there = subst (λ (o : Option ℕ). (j == unwrap_or o j) ≡ false) there all.0
  other_there j (suc offset) (y ∷ js) all there = other_there j offset js all.1 there

  put : (k : Option ℕ) (e : Option E) (ks : List ℕ) (es new : List E) (offset : ℕ) (old : E) → is_some k ≡ is_some e → IsDistinct nat_eq (cons_option k ks)
      → slice_get (cons_option k ks) offset ≡ Some i → slice_get (cons_option e es) offset ≡ Some old
      → (lacks_key i ks → new ≡ es)
      → ((q : ℕ) → slice_get ks q ≡ Some i → slice_get es q ≡ Some old → IsDistinct nat_eq ks → new ≡ slice_set es q (change old))
      → cons_option (changed_at i change k e) new ≡ slice_set (cons_option e es) offset (change old)
  unfolding IsDistinct
  put None None ks es new offset old same distinct there is_old none some = some offset there is_old distinct
  put None (Some e) ks es new offset old same distinct there is_old none some = absurd (true≢false (sym same))
  put (Some j) None ks es new offset old same distinct there is_old none some = absurd (true≢false same)
  put (Some j) (Some e) ks es new zero old same distinct there is_old none some =
      let here : j ≡ i = ap (λ (o : Option ℕ). unwrap_or o j) there in
      let one : e ≡ old = ap (λ (o : Option E). unwrap_or o e) is_old in
      (λ z. cond (eq-eqb j i here z) (change (one z)) e ∷ none (none_else j ks here distinct.0) z)
  put (Some j) (Some e) ks es new (suc offset) old same distinct there is_old none some =
      (λ z. cond (other_there j offset ks distinct.0 there z) (change e) e ∷ some offset there is_old distinct.1 z)

  -- The entry with this key, at its place, is changed there.
  pub changed-there : (ps : List P) (offset : ℕ) (old : E) → IsDistinct nat_eq (filter_map key ps) → slice_get (filter_map key ps) offset ≡ Some i
      → slice_get (filter_map by ps) offset ≡ Some old
      → filter_map after ps ≡ slice_set (filter_map by ps) offset (change old)
  changed-there [] offset old distinct there is_old = cc
  changed-there (p ∷ ps) offset old distinct there is_old =
      ap (λ o. cons_option o (filter_map after ps)) (is.changed p)
      ∙ put (key p) (by p) (filter_map key ps) (filter_map by ps) (filter_map after ps) offset old (is.keyed p) distinct there is_old
      (others-same ps) (λ q there_ old_ distinct_. changed-there ps q old distinct_ there_ old_)
