-- Names that are stored one after another can be cut apart again.
use Rattle.std.proofs.Common.{◌≡◌, refl, sym, ◌∙◌, ap, ℕ, ◌+◌, ◌*◌, ◌<◌, ◌≤◌, true, false, sum, List, [], ◌∷◌, ◌++◌, length, take, drop, Some, None}
use Rattle.std.proofs.Common.{arith, length-drop}
use Rattle.std.specs.Prelude.{nat_le, if◌then◌else◌}
use Rattle.std.proofs.lemmas.List.{nil_from_length, take-append-le, drop-append-le, length-take-le}
use Rattle.std.proofs.Math.Seq.{take-length}
use Rattle.std.proofs.lemmas.List.Sums.{sum_by-cons, sum_by-append}
use Rattle.std.proofs.lemmas.Bool.{le-leb, lt-leb}
use Rattle.mufom_host.specs.Kept.{cut, name_weight, names_with}

pub cut-push : (lengths bytes name : List ℕ) → sum lengths ≡ length bytes → cut (lengths ++ length name ∷ []) (bytes ++ name) ≡ cut lengths bytes ++ name ∷ []
cut-push [] bytes name whole = rw (nil_from_length bytes (sym whole)) (ap (λ prefix. prefix ∷ []) (take-length name))
cut-push (n ∷ lengths) bytes name whole =
    let total : n + sum lengths ≡ length bytes = sym (sum_by-cons (λ k. k) n lengths) ∙ whole in
    let within : n ≤ length bytes = omega (arith, total) in
    let left : sum lengths ≡ length (drop n bytes) = rw length-drop (omega (arith, total)) in
    rw (take-append-le n bytes name within, drop-append-le n bytes name within) (ap (λ names. take n bytes ∷ names) (cut-push lengths (drop n bytes) name left))

pub name_weight-cut : (lengths bytes : List ℕ) → sum lengths ≡ length bytes → name_weight (cut lengths bytes) ≡ length bytes + 8 * length lengths
name_weight-cut [] bytes whole = rw (sym whole) refl
name_weight-cut (n ∷ lengths) bytes whole =
    let total : n + sum lengths ≡ length bytes = sym (sum_by-cons (λ k. k) n lengths) ∙ whole in
    let within : n ≤ length bytes = omega (arith, total) in
    let left : sum lengths ≡ length (drop n bytes) = rw length-drop (omega (arith, total)) in
    let more = name_weight-cut lengths (drop n bytes) left in
    let prefix = length-take-le n bytes within in
    let tail = length-drop n bytes in
    sum_by-cons (λ name. length name + 8) (take n bytes) (cut lengths (drop n bytes)) ∙ omega (arith, more, prefix, tail, within)

pub name_weight-push : (names : List (List ℕ)) (name : List ℕ) → name_weight (names ++ name ∷ []) ≡ name_weight names + (length name + 8)
name_weight-push names name = sum_by-append (λ n. length n + 8) names (name ∷ []) ∙ omega arith

pub names_with-fits : (room : ℕ) (names : List (List ℕ)) (name : List ℕ) → name_weight names + (length name + 8) ≤ room
    → names_with room (Some names) name ≡ Some (names ++ name ∷ [])
names_with-fits room names name fits =
    let test : nat_le (name_weight (names ++ name ∷ [])) room ≡ true = le-leb _ _ (rw name_weight-push fits) in
    ap (λ b. if b then Some (names ++ name ∷ []) else None) test

pub names_with-full : (room : ℕ) (names : List (List ℕ)) (name : List ℕ) → room < name_weight names + (length name + 8)
    → names_with room (Some names) name ≡ None
names_with-full room names name full =
    let test : nat_le (name_weight (names ++ name ∷ [])) room ≡ false = lt-leb _ _ (rw name_weight-push full) in
    ap (λ b. if b then Some (names ++ name ∷ []) else None) test
