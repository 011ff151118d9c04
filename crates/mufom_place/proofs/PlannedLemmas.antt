-- The base of each section, placing by placing.
use Rattle.std.proofs.Common.{◌≡◌, ◌≢◌, ℕ, ◌<◌, List, [], ◌∷◌, ◌++◌, length, get_or, Option, Some, None, Bool, true, false, refl, sym, ap, ◌∙◌, subst}
use Rattle.std.proofs.Common.{rules, get_or-set_same, get_or-set_other}
use Rattle.std.specs.Prelude.{◌==◌, if◌then◌else◌}
use Rattle.std.proofs.Math.ListN.{set}
use Rattle.mufom_place.specs.declared.placing.Placing.{Placing}
use Rattle.mufom_place.specs.Bases.{last_of, placing_of}

pub same_number : (m n : ℕ) → (m == n) ≡ true → m ≡ n
same_number m n e = search rules

pub other_number : (m n : ℕ) → m ≢ n → (m == n) ≡ false
other_number m n differ = by_case (m == n) refl where
  by_case : (b : Bool) → (m == n) ≡ b → b ≡ false
  by_case true e = absurd (differ (same_number m n e))
  by_case false e = refl

abbrev here : Placing → ℕ → Option Placing
here p n = if p.section == n then Some p else None

last_of-assoc : (first second third : Option Placing) → last_of first (last_of second third) ≡ last_of (last_of first second) third
last_of-assoc first second None = refl
last_of-assoc first second (Some p) = refl

placing_of-next : (ps : List Placing) (p : Placing) (n : ℕ) → placing_of (ps ++ p ∷ []) n ≡ last_of (placing_of ps n) (here p n)
placing_of-next [] p n = by_last (here p n) where
  by_last : (o : Option Placing) → last_of o None ≡ last_of None o
  by_last None = refl
  by_last (Some q) = refl
placing_of-next (q ∷ ps) p n = ap (last_of (here q n)) (placing_of-next ps p n) ∙ last_of-assoc (here q n) (placing_of ps n) (here p n)

-- a placing that is written at its section
pub planned-next : (planned : List (Option Placing)) (ps : List Placing) (p : Placing) (n : ℕ) → p.section < length planned → get_or planned n None
    ≡ placing_of ps n
    → get_or (set planned p.section (Some p)) n None ≡ placing_of (ps ++ p ∷ []) n
planned-next planned ps p n within before = by_case (p.section == n) refl where
  by_case : (b : Bool) → (p.section == n) ≡ b → get_or (set planned p.section (Some p)) n None ≡ placing_of (ps ++ p ∷ []) n
  by_case true e =
      let same = same_number p.section n e in
      subst (λ k. get_or (set planned p.section (Some p)) k None ≡ Some p) same (get_or-set_same planned p.section (Some p) None within)
      ∙ sym (placing_of-next ps p n ∙ ap (λ b. last_of (placing_of ps n) (if b then Some p else None)) e)
  by_case false e =
      let differ : n ≢ p.section = λ same. (let t : (p.section == n) ≡ true = search (rules, same) in cc) in
      get_or-set_other planned p.section n (Some p) None differ ∙ before
      ∙ sym (placing_of-next ps p n ∙ ap (λ b. last_of (placing_of ps n) (if b then Some p else None)) e)

-- a placing of another section changes nothing
pub planned-passed : (ps : List Placing) (p : Placing) (n : ℕ) → p.section ≢ n → placing_of ps n ≡ placing_of (ps ++ p ∷ []) n
planned-passed ps p n differ = sym (placing_of-next ps p n ∙ ap (λ b. last_of (placing_of ps n) (if b then Some p else None)) (other_number p.section n differ))
