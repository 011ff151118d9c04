-- The first public of a name against the position of the name.
use Rattle.std.proofs.Common.{◌≡◌, ℕ, suc, ◌+◌, List, [], ◌∷◌, map, Some, None, Bool, true, false, cond, refl, sym, ◌∙◌, ap, arith}
use Rattle.std.specs.Prelude.{slice_get}
use Rattle.std.specs.Str.{bytes_eq}
use Rattle.std.proofs.lemmas.Slice.Eq.{bytes_eq-Decides}
use Rattle.mufom_names.specs.declared.name.Public.{Public}
use Rattle.mufom_names.specs.Names.{names_of}
use Rattle.mufom_names.specs.Index.{position_of, numbered_from}
use Rattle.mufom_meaning.specs.Flat.{Sited, SitedPublic, first_named}

-- the publics of a module at its site
abbrev pub at_site : Sited → List Public → List SitedPublic
at_site site publics = map (λ entry. record { site = site; entry = entry }) publics

-- the public at this position is the first of the name
abbrev pub IsFound : Sited → List Public → List ℕ → ℕ → Type 0
IsFound site publics name i = (q : SitedPublic) × (first_named (at_site site publics) name ≡ Some q) × (slice_get (at_site site publics) i ≡ Some q)

-- the name at a position is that of the first public that has it
pub first-some : (site : Sited) (n : ℕ) (publics : List Public) (name : List ℕ) (k : ℕ) → position_of (numbered_from n (names_of publics)) name ≡ Some k
    → (i : ℕ) × (k ≡ n + i) × IsFound site publics name i
first-some site n [] name k e = absurd cc
first-some site n (p ∷ publics) name k e = by_case (bytes_eq name p.name) refl e (first-some site (suc n) publics name k) where
  its : SitedPublic
  its = record { site = site; entry = p }

  turned : (b : Bool) → bytes_eq name p.name ≡ b → bytes_eq p.name name ≡ b
  turned true f = let same : name ≡ p.name = (bytes_eq-Decides name p.name).0 f in (bytes_eq-Decides p.name name).1 (sym same)
  turned false f = by_other (bytes_eq p.name name) refl where
    by_other : (c : Bool) → bytes_eq p.name name ≡ c → c ≡ false
    by_other true g =
        let same : p.name ≡ name = (bytes_eq-Decides p.name name).0 g in
        absurd (let holds : bytes_eq name p.name ≡ true = (bytes_eq-Decides name p.name).1 (sym same) in cc)
    by_other false g = refl

  by_case : (b : Bool) → bytes_eq name p.name ≡ b → cond b (Some n) (position_of (numbered_from (suc n) (names_of publics)) name) ≡ Some k
      → (position_of (numbered_from (suc n) (names_of publics)) name ≡ Some k → (i : ℕ) × (k ≡ suc n + i) × IsFound site publics name i)
      → (i : ℕ) × (k ≡ n + i) × IsFound site (p ∷ publics) name i
  by_case true f e later =
      let first : n ≡ k = cc in
      (0, omega (arith, first), (its, ap (λ b. cond b (Some its) (first_named (at_site site publics) name)) (turned true f), refl))
  by_case false f e later =
      let there = later e in (
        suc there.0,
        omega (arith, there.1),
        (
          there.2.0,
          ap (λ b. cond b (Some its) (first_named (at_site site publics) name)) (turned false f)
              ∙ there.2.1,
          there.2.2,
        ),
      )

-- a name that has no position is that of no public
pub first-none : (site : Sited) (n : ℕ) (publics : List Public) (name : List ℕ) → position_of (numbered_from n (names_of publics)) name ≡ None
    → first_named (at_site site publics) name ≡ None
first-none site n [] name e = refl
first-none site n (p ∷ publics) name e = by_case (bytes_eq name p.name) (bytes_eq p.name name) refl refl e (first-none site (suc n) publics name) where
  its : SitedPublic
  its = record { site = site; entry = p }

  by_case : (b c : Bool) → bytes_eq name p.name ≡ b → bytes_eq p.name name ≡ c
      → cond b (Some n) (position_of (numbered_from (suc n) (names_of publics)) name) ≡ None
      → (position_of (numbered_from (suc n) (names_of publics)) name ≡ None → first_named (at_site site publics) name ≡ None)
      → cond c (Some its) (first_named (at_site site publics) name) ≡ None
  by_case true c f g e later = absurd cc
  by_case false false f g e later = later e
  by_case false true f g e later =
      let same : p.name ≡ name = (bytes_eq-Decides p.name name).0 g in
      absurd (let holds : bytes_eq name p.name ≡ true = (bytes_eq-Decides name p.name).1 (sym same) in cc)
