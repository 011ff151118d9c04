-- Numbers with a space before each, as many as come next.
use Rattle.std.proofs.Common.{◌≡◌, ℕ, ◌+◌, ◌≤◌, ◌==◌, false, List, [], ◌∷◌, ◌++◌, length, codes, refl, sym, ap, subst, ◌∙◌, append_assoc, append-nil, arith}
use Rattle.std.proofs.Common.{length-append}
use Rattle.mufom_build_text.specs.Errors.{IsSound, Fails}
use Rattle.mufom_build_text.specs.Loosely.{Moves, Passes, Goes, ReadsWords, ReadsFigure, NoFigure}
use Rattle.mufom_build_text.specs.Pieces.{Piece, gap, figure, MOST_NUMBER, words, number_piece}
use Rattle.mufom_build_text.specs.Reads.{Place, IsRight}
use Rattle.mufom_build_text.proofs.Loosely.{moves_nowhere, moves_then, moves_failed, failed_bad, passes_then}
use Rattle.mufom_build.proofs.NextBytes.{ended_figure, goes_figure}
use Rattle.mufom_build.proofs.Joining.{reads_bad}
use Rattle.mufom_build.specs.Lines.{spaced_pieces}
use Rattle.mufom_build.specs.ReadKinds.{HasFigureAhead, ReadsNumbers}

-- Numbers are read, and further ones may follow.
pub record HasNumbers (most : ℕ) (items : List ℕ) (before now : Place) : Type 0 where
  pub value : List ℕ
  pub moves : Moves before now
  pub passes : IsSound now → Passes (spaced_pieces value) before now
  pub many : length value ≡ length items
  pub same : IsRight now → items ≡ value
  pub takes : (ns : List ℕ) → length ns ≤ most → Goes (spaced_pieces ns) before
      → (others : List ℕ) × (ns ≡ value ++ others) × Goes (spaced_pieces others) now

pub no_numbers : (most : ℕ) (items : List ℕ) (a : Place) → items ≡ [] → HasNumbers most items a a
no_numbers most items a none = record {
  value = [];
  moves = moves_nowhere a;
  passes = λ sound. refl;
  many = sym (ap length none);
  same = λ right. none;
  takes = λ ns few goes. (ns, refl, goes);
}

spaced_more : (ns : List ℕ) (n : ℕ) → spaced_pieces (ns ++ n ∷ []) ≡ spaced_pieces ns ++ spaced_pieces (n ∷ [])
spaced_more [] n = refl
spaced_more (m ∷ ns) n = ap (λ l. gap ∷ figure MOST_NUMBER m ∷ l) (spaced_more ns n)

-- where there is room for one more
pub numbers_fit : (items others : List ℕ) (n most : ℕ) → false ≡ (length items == most) → length items ≤ most → others ≡ items ++ n ∷ []
    → length others ≤ most
numbers_fit items others n most differ within is =
    let all : length others ≡ length items + 1 = ap length is ∙ length-append items (n ∷ []) in
    fits (length items) (length others) most differ within all
  where
    fits : (k l m : ℕ) → false ≡ (k == m) → k ≤ m → l ≡ k + 1 → l ≤ m
    fits k l m differ within all = grind arith

-- after a number
numbers_end : (ns : List ℕ) → NoFigure (spaced_pieces ns)
numbers_end [] = refl
numbers_end (n ∷ ns) = refl

pub number_more : {most : ℕ} {items : List ℕ} (n : ℕ) (others : List ℕ) {a b c d : Place} → HasNumbers most items a b → HasFigureAhead b.rest
    → ReadsWords (codes " ") b c → ReadsFigure MOST_NUMBER n c d → others ≡ items ++ n ∷ [] → HasNumbers most others a d
number_more {most} {items} n others {a} {b} {c} {d} p ahead space number is = record {
  value = p.value ++ number.value ∷ [];
  moves = moves_then p.moves (moves_then space.moves number.moves);
  passes = λ sound.
      let before : IsSound c = number.moves.sound sound in
      let here = passes_then (words (codes " ")) (number_piece number.value) b c d (space.passes before) (number.passes sound) in
      subst (λ (l : List Piece). Passes l a d) (sym (spaced_more p.value number.value))
      (passes_then (spaced_pieces p.value) (spaced_pieces (number.value ∷ [])) a b d (p.passes (space.moves.sound before)) here);
  many = length-append p.value (number.value ∷ []) ∙ ap (λ k. k + 1) p.many ∙ sym (length-append items (n ∷ [])) ∙ ap length (sym is);
  same = λ right. is ∙ ap (λ l. l ++ n ∷ []) (p.same (space.moves.right (number.moves.right right)))
      ∙ ap (λ k. p.value ++ k ∷ []) (number.same right);
  takes = λ ns few goes.
      let (left, e, on) = p.takes ns few goes in
      further left e on;
}
  where
    further : {ns : List ℕ} (left : List ℕ) → ns ≡ p.value ++ left → Goes (spaced_pieces left) b
        → (more : List ℕ) × (ns ≡ (p.value ++ number.value ∷ []) ++ more) × Goes (spaced_pieces more) d
    further [] e on = absurd (ended_figure ahead on)
    further (m ∷ left) e on =
        let after = (space.takes tt (figure MOST_NUMBER m ∷ spaced_pieces left) refl on).1 in
        let (same, last) = number.takes m (spaced_pieces left) (numbers_end left) after in
        (left, e ∙ ap (λ k. p.value ++ k ∷ left) same ∙ sym (append_assoc p.value (number.value ∷ []) left), last)

-- where no digit is next, these are all
pub numbers_read : {most : ℕ} {items : List ℕ} {a b : Place} → length items ≤ most → HasNumbers most items a b → (HasFigureAhead b.rest → ⊥)
    → ReadsNumbers most spaced_pieces items a b
numbers_read {most} {items} {a} {b} small p none = record {
  value = p.value;
  moves = p.moves;
  passes = p.passes;
  few = λ sound. let many = p.many in omega (arith, small, many);
  same = p.same;
  takes = λ ns more few tail goes.
      let (left, e, on) = p.takes ns few (subst (λ (l : List Piece). Goes l a) (ap (λ l. spaced_pieces ns ++ l) tail ∙ append-nil (spaced_pieces ns)) goes) in
      ended left more tail e on;
}
  where
    ended : {ns : List ℕ} (left : List ℕ) (more : List Piece) → more ≡ [] → ns ≡ p.value ++ left → Goes (spaced_pieces left) b
        → (ns ≡ p.value) × Goes more b
    ended [] more tail e on = (e ∙ append-nil p.value, subst (λ (l : List Piece). Goes l b) (sym tail) on)
    ended (m ∷ left) more tail e on = absurd (none (goes_figure MOST_NUMBER m (spaced_pieces left) on))

-- where there is a number too many
pub too_many_read : {most : ℕ} {items : List ℕ} (n : ℕ) {a b c d e : Place} → HasNumbers most items a b → length items ≡ most → HasFigureAhead b.rest
    → ReadsWords (codes " ") b c → ReadsFigure MOST_NUMBER n c d → Fails d e → ReadsNumbers most spaced_pieces items a e
too_many_read {most} {items} n {a} {b} {c} {d} {e} p full ahead space number fails = reads_bad items
    (moves_then p.moves (moves_then space.moves (moves_then number.moves (moves_failed fails)))) (failed_bad fails)
    (λ ns more few tail goes.
    let on = subst (λ (l : List Piece). Goes l a) (ap (λ l. spaced_pieces ns ++ l) tail ∙ append-nil (spaced_pieces ns)) goes in
    let (left, is, later) = p.takes ns few on in
    none ns left few is later)
  where
    none : (ns left : List ℕ) → length ns ≤ most → ns ≡ p.value ++ left → Goes (spaced_pieces left) b → ⊥
    none ns [] few is later = ended_figure ahead later
    none ns (m ∷ left) few is later =
        let all : length ns ≡ length p.value + length (m ∷ left) = ap length is ∙ length-append p.value (m ∷ left) in
        let many = p.many in
        omega (arith, all, many, full, few)

-- where a number is missing
pub no_number_read : {most : ℕ} {items : List ℕ} (n : ℕ) {a b c d : Place} → HasNumbers most items a b → HasFigureAhead b.rest
    → ReadsWords (codes " ") b c → ReadsFigure MOST_NUMBER n c d → (IsSound d → ⊥) → ReadsNumbers most spaced_pieces items a d
no_number_read {most} {items} n {a} {b} {c} {d} p ahead space number bad = reads_bad items
    (moves_then p.moves (moves_then space.moves number.moves)) bad
    (λ ns more few tail goes.
    let on = subst (λ (l : List Piece). Goes l a) (ap (λ l. spaced_pieces ns ++ l) tail ∙ append-nil (spaced_pieces ns)) goes in
    let (left, is, later) = p.takes ns few on in
    none left later)
  where
    none : (left : List ℕ) → Goes (spaced_pieces left) b → ⊥
    none [] later = ended_figure ahead later
    none (m ∷ left) later =
        let after = (space.takes tt (figure MOST_NUMBER m ∷ spaced_pieces left) refl later).1 in
        bad (number.takes m (spaced_pieces left) (numbers_end left) after).1.sound
