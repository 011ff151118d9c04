-- Modules and positions, one more.
use Rattle.std.proofs.Common.{◌≡◌, ℕ, ◌+◌, ◌<◌, List, [], ◌∷◌, ◌++◌, length, take, get_or, option_to_list, sym, ap, ◌∙◌, arith, append-nil}
use Rattle.std.specs.Prelude.{slice_get}
use Rattle.std.specs.List.{enumerate_from}
use Rattle.std.proofs.lemmas.List.{length-take-le, map-append, take_more}
use Rattle.std.proofs.lemmas.Grind.{flat_map-append}
use Rattle.mufom_module.specs.declared.module.Parts.{Parts}
use Rattle.mufom_origins.specs.declared.origins.Origin.{Origin}
use Rattle.mufom_origins.specs.Origins.{numbered, origin_of, origins_of}
use Rattle.mufom_origins.specs.Places.{at_positions}

enumerate-push : {X : Type 0} (n : ℕ) (xs : List X) (x : X) → enumerate_from n (xs ++ x ∷ []) ≡ enumerate_from n xs ++ (n + length xs, x) ∷ []
enumerate-push {X} n [] x = ap (λ (k : ℕ). let e : ℕ × X = (k, x) in e ∷ []) (omega arith)
enumerate-push {X} n (y ∷ xs) x =
    ap (λ es. (n, y) ∷ es) (enumerate-push (n + 1) xs x ∙ ap (λ (k : ℕ). let e : ℕ × X = (k, x) in enumerate_from (n + 1) xs ++ e ∷ []) (omega arith))

-- what is kept of one module more
pub origins-more : (ms : List Parts) (i : ℕ) (m : Parts) (before : List Origin) (o : Origin) → i < length ms → m ≡ get_or ms i m
    → before ≡ origins_of (numbered (take i ms)) → o ≡ origin_of (i, m) → before ++ o ∷ [] ≡ origins_of (numbered (take (i + 1) ms))
origins-more ms i m before o inside is was own =
    let kept : ℕ → Parts → List Origin = λ k x. origins_of (numbered (take i ms)) ++ origin_of (k, x) ∷ [] in
    ap (λ (os : List Origin). os ++ o ∷ []) was
    ∙ ap (λ (p : Origin). origins_of (numbered (take i ms)) ++ p ∷ []) own
    ∙ ap (λ (x : Parts). kept i x) is
    ∙ ap (λ (k : ℕ). kept k (get_or ms i m)) (let size = length-take-le i ms (omega arith) in omega (arith, size))
    ∙ sym (
    ap (λ some. origins_of (numbered some)) (take_more ms i m inside)
    ∙ ap origins_of (enumerate-push 0 (take i ms) (get_or ms i m))
    ∙ map-append origin_of (numbered (take i ms)) ((0 + length (take i ms), get_or ms i m) ∷ []))

-- the elements at one position more
pub positions-more : {X : Type 0} (xs : List X) (positions : List ℕ) (i d : ℕ) → i < length positions
    → at_positions xs (take (i + 1) positions) ≡ at_positions xs (take i positions) ++ option_to_list (slice_get xs (get_or positions i d))
positions-more xs positions i d inside =
    let own = option_to_list (slice_get xs (get_or positions i d)) in
    ap (at_positions xs) (take_more positions i d inside)
    ∙ flat_map-append (λ (n : ℕ). option_to_list (slice_get xs n)) (take i positions) (get_or positions i d ∷ [])
    ∙ ap (λ one. at_positions xs (take i positions) ++ one) (append-nil own)
