-- What a page has printed once it holds nothing more.
use Rattle.std.proofs.Common.{◌≡◌, ℕ, ◌≤◌, Bool, true, false, List, [], ◌++◌, Result, Ok, Err, is_err, ap, sym, subst, ◌∙◌, append-nil}
use Rattle.mufom_host.specs.declared.world.Failed.{Failed}
use Rattle.mufom_host.specs.World.{Meaning, Faults, Grows, GrowsBy, HasCause}
use Rattle.mufom_text.specs.Printing.{Adds, Puts}
use Rattle.mufom_text.specs.Chains.{Puts-joins}

-- what holds of a value holds of one that is equal
pub moved : {S : Type 0} (P : S → Type 0) (now last : S) → last ≡ now → P now → P last
moved P now last same p = subst P (sym same) p

-- if nothing was held and nothing is held, the output grew by the text, or by a prefix of it
grown : (a c : Meaning) (f h : Faults) (keeps text : List ℕ) (has : Bool) (r : Result (Unit {0}) Failed) → is_err r ≡ has → (has ≡ false → keeps ≡ [])
    → Adds a c f h [] keeps false has text → Grows a.out c.out r text
grown a c f h keeps text true (Ok done) answer empty added = absurd cc
grown a c f h keeps text false (Ok done) answer empty (printed, grows, e) =
    let none = empty cc in
    let all : printed ≡ text = sym (append-nil printed) ∙ ap (λ (l : List ℕ). printed ++ l) (sym none) ∙ e in
    subst (λ (l : List ℕ). GrowsBy a.out c.out l) all grows
grown a c f h keeps text true (Err e) answer empty (prefix, rose) = prefix
grown a c f h keeps text false (Err e) answer empty added = absurd cc

caused : (a c : Meaning) (f h : Faults) (keeps text : List ℕ) (has : Bool) (r : Result (Unit {0}) Failed) → is_err r ≡ has → f.writes ≤ h.writes
    → Adds a c f h [] keeps false has text → HasCause f.writes h.writes r
caused a c f h keeps text has (Ok done) answer later added = record { later = later; failed = tt }
caused a c f h keeps text true (Err e) answer later (prefix, rose) = record { later = later; failed = rose }
caused a c f h keeps text false (Err e) answer later added = absurd cc

-- what was put on a page that held nothing, and then printed
pub record Printed (a c : Meaning) (f h : Faults) (text : List ℕ) (r : Result (Unit {0}) Failed) : Type 0 where
  pub grows : Grows a.out c.out r text
  pub cause : HasCause f.writes h.writes r

pub all_printed : (a b c : Meaning) (f g h : Faults) (held holds keeps text : List ℕ) (had so_far has : Bool) (r : Result (Unit {0}) Failed) → held
    ≡ [] → had ≡ false
    → Puts a b f g held holds had so_far text → Puts b c g h holds keeps so_far has [] → is_err r ≡ has → (has ≡ false → keeps ≡ []) → Printed a c f h text r
all_printed a b c f g h held holds keeps text had so_far has r nothing fine p q answer empty =
    let both = Puts-joins a b c f g h held holds keeps text [] had so_far has p q in
    let added : Adds a c f h [] keeps false has text =
    subst (λ (l : List ℕ). Adds a c f h [] keeps false has l) (append-nil text)
    (subst (λ (l : List ℕ). Adds a c f h l keeps false has (text ++ [])) nothing
    (subst (λ (x : Bool). Adds a c f h held keeps x has (text ++ [])) fine both.added)) in
    record { grows = grown a c f h keeps text has r answer empty added; cause = caused a c f h keeps text has r answer both.later added }
