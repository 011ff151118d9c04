-- Names in what remains: the first public of a name, and the commons.
use Rattle.std.proofs.Common.{◌≡◌, ℕ, suc, ◌+◌, List, [], ◌∷◌, ◌++◌, map, Some, None, Bool, true, false, cond, if◌then◌else◌, refl, sym, ap, ◌∙◌}
use Rattle.std.proofs.Common.{true≢false, arith}
use Rattle.std.specs.Prelude.{slice_get, find}
use Rattle.std.specs.Str.{bytes_eq}
use Rattle.std.proofs.lemmas.Slice.Eq.{bytes_eq-Decides}
use Rattle.mufom_names.specs.declared.name.Public.{Public}
use Rattle.mufom_select.specs.Choice.{is_marked}
use Rattle.mufom_meaning.specs.Flat.{Sited, SitedPublic}
use Rattle.mufom_prune.specs.Kept.{named_from}
use Rattle.mufom_prune.specs.Pruned.{remaining}

bytes_eq-turned : (a b : List ℕ) (v : Bool) → bytes_eq a b ≡ v → bytes_eq b a ≡ v
bytes_eq-turned a b true e = (bytes_eq-Decides b a).1 (sym ((bytes_eq-Decides a b).0 e))
bytes_eq-turned a b false e = by_case (bytes_eq b a) refl where
  by_case : (v : Bool) → bytes_eq b a ≡ v → v ≡ false
  by_case true f = absurd (true≢false (sym ((bytes_eq-Decides a b).1 (sym ((bytes_eq-Decides b a).0 f))) ∙ e))
  by_case false f = refl

-- a module's publics with their module
abbrev pub with_site : Sited → List Public → List SitedPublic
with_site site publics = map (λ entry. record { site = site; entry = entry }) publics ++ []

module _ (site site' : Sited) (f : Public → Public) (names : (p : Public) → (f p).name ≡ p.name) (name : List ℕ) where
  abbrev test : SitedPublic → Bool
  test q = bytes_eq q.entry.name name

  -- no public has the name, before and after
  pub none_named : (k : ℕ) (publics : List Public) (marks : List Bool) → named_from k publics name ≡ None
      → (find test (with_site site publics) ≡ None) × (find test (with_site site' (map f (remaining marks publics))) ≡ None)
  none_named k [] [] e = (refl, refl)
  none_named k [] (mark ∷ marks) e = (refl, refl)
  none_named k (p ∷ publics) [] e = by_case (bytes_eq name p.name) refl e (none_named (suc k) publics []) where
    by_case : (b : Bool) → bytes_eq name p.name ≡ b → (if b then Some k else named_from (suc k) publics name) ≡ None
        → (named_from (suc k) publics name ≡ None → (find test (with_site site publics) ≡ None)
        × (find test (with_site site' (map f (remaining [] publics))) ≡ None))
        → (find test (with_site site (p ∷ publics)) ≡ None) × (find test (with_site site' (map f (remaining [] (p ∷ publics)))) ≡ None)
    by_case true t e later = absurd cc
    by_case false t e later = (
      ap (λ b. cond b (Some (record { site = site; entry = p })) (find test (with_site site publics))) (bytes_eq-turned name p.name false t)
          ∙ (later e).0,
      refl,
    )
  none_named k (p ∷ publics) (mark ∷ marks) e = by_case (bytes_eq name p.name) refl e mark (none_named (suc k) publics marks) where
    after : (mark : Bool) → bytes_eq p.name name ≡ false → find test (with_site site' (map f (remaining marks publics))) ≡ None
        → find test (with_site site' (map f (remaining (mark ∷ marks) (p ∷ publics)))) ≡ None
    after true t e = ap (λ b. cond b (Some (record { site = site'; entry = f p })) (find test (with_site site' (map f (remaining marks publics)))))
        (ap (λ n. bytes_eq n name) (names p) ∙ t) ∙ e
    after false t e = e

    by_case : (b : Bool) → bytes_eq name p.name ≡ b → (if b then Some k else named_from (suc k) publics name) ≡ None → (mark : Bool)
        → (named_from (suc k) publics name ≡ None → (find test (with_site site publics) ≡ None)
        × (find test (with_site site' (map f (remaining marks publics))) ≡ None))
        → (find test (with_site site (p ∷ publics)) ≡ None) × (find test (with_site site' (map f (remaining (mark ∷ marks) (p ∷ publics)))) ≡ None)
    by_case true t e mark later = absurd cc
    by_case false t e mark later =
        let turned = bytes_eq-turned name p.name false t in
        (ap (λ b. cond b (Some (record { site = site; entry = p })) (find test (with_site site publics))) turned ∙ (later e).0, after mark turned (later e).1)

  -- the first public of the name, which remains, is the first before and after
  pub record First (k e : ℕ) (publics : List Public) (marks : List Bool) : Type 0 where
    pub place : ℕ
    pub entry : Public
    pub is : e ≡ k + place
    pub at : slice_get publics place ≡ Some entry
    pub before : find test (with_site site publics) ≡ Some (record { site = site; entry = entry })
    pub after : is_marked marks place ≡ true → find test (with_site site' (map f (remaining marks publics))) ≡ Some (record { site = site'; entry = f entry })

  pub one_named : (k e : ℕ) (publics : List Public) (marks : List Bool) → named_from k publics name ≡ Some e → First k e publics marks
  one_named k e [] marks h = absurd cc
  one_named k e (p ∷ publics) [] h = by_case (bytes_eq name p.name) refl h (one_named (suc k) e publics []) where
    by_case : (b : Bool) → bytes_eq name p.name ≡ b → (if b then Some k else named_from (suc k) publics name) ≡ Some e
        → (named_from (suc k) publics name ≡ Some e → First (suc k) e publics []) → First k e (p ∷ publics) []
    by_case true t h later =
        let same : k ≡ e = cc in
        record {
          place = 0;
          entry = p;
          is = omega (arith, same);
          at = refl;
          before = ap (λ b. cond b (Some (record { site = site; entry = p })) (find test (with_site site publics))) (bytes_eq-turned name p.name true t);
          after = λ m. absurd (true≢false (sym m));
        }
    by_case false t h later =
        let rest = later h in
        record {
          place = suc rest.place;
          entry = rest.entry;
          is = omega (arith, rest.is);
          at = rest.at;
          before = ap (λ b. cond b (Some (record { site = site; entry = p })) (find test (with_site site publics)))
              (bytes_eq-turned name p.name false t) ∙ rest.before;
          after = λ m. absurd (true≢false (sym m));
        }
  one_named k e (p ∷ publics) (mark ∷ marks) h = by_case (bytes_eq name p.name) refl h mark (one_named (suc k) e publics marks) where
    first : (mark : Bool) → bytes_eq p.name name ≡ true → mark ≡ true → find test (with_site site' (map f (remaining (mark ∷ marks) (p ∷ publics))))
        ≡ Some (record { site = site'; entry = f p })
    first true t m = ap (λ b. cond b (Some (record { site = site'; entry = f p })) (find test (with_site site' (map f (remaining marks publics)))))
        (ap (λ n. bytes_eq n name) (names p) ∙ t)
    first false t m = absurd (true≢false (sym m))

    later_one : (mark : Bool) (q : SitedPublic) → bytes_eq p.name name ≡ false → find test (with_site site' (map f (remaining marks publics)))
        ≡ Some q → find test (with_site site' (map f (remaining (mark ∷ marks) (p ∷ publics)))) ≡ Some q
    later_one true q t m = ap (λ b. cond b (Some (record { site = site'; entry = f p }))
        (find test (with_site site' (map f (remaining marks publics))))) (ap (λ n. bytes_eq n name) (names p) ∙ t) ∙ m
    later_one false q t m = m

    by_case : (b : Bool) → bytes_eq name p.name ≡ b → (if b then Some k else named_from (suc k) publics name) ≡ Some e → (mark : Bool)
        → (named_from (suc k) publics name ≡ Some e → First (suc k) e publics marks) → First k e (p ∷ publics) (mark ∷ marks)
    by_case true t h mark later =
        let same : k ≡ e = cc in
        let turned = bytes_eq-turned name p.name true t in
        record {
          place = 0;
          entry = p;
          is = omega (arith, same);
          at = refl;
          before = ap (λ b. cond b (Some (record { site = site; entry = p })) (find test (with_site site publics))) turned;
          after = first mark turned;
        }
    by_case false t h mark later =
        let rest = later h in
        let turned = bytes_eq-turned name p.name false t in
        record {
          place = suc rest.place;
          entry = rest.entry;
          is = omega (arith, rest.is);
          at = rest.at;
          before = ap (λ b. cond b (Some (record { site = site; entry = p })) (find test (with_site site publics))) turned ∙ rest.before;
          after = λ m. later_one mark (record { site = site'; entry = f rest.entry }) turned (rest.after m);
        }
