-- What is read by one reader and another, up to a whole line.
use Rattle.std.proofs.Common.{◌≡◌, ℕ, List, [], ◌++◌, refl, sym, ap, subst, ◌∙◌, append_assoc, append-nil}
use Rattle.mufom_build_text.specs.Errors.{IsSound}
use Rattle.mufom_build_text.specs.Loosely.{Moves, Passes, Goes, ReadsLoosely, ReadsPosition, Nothing}
use Rattle.mufom_build_text.specs.Pieces.{Piece}
use Rattle.mufom_build_text.specs.Reads.{Place}
use Rattle.mufom_build_text.proofs.Loosely.{moves_then, passes_then}
use Rattle.mufom_build.specs.declared.row.Row.{Row as ReadRow}
use Rattle.mufom_build.specs.Order.{State, kind_of, row_pieces, IsFew}
use Rattle.mufom_build.specs.ReadKinds.{ReadsFew, ReadsOf}
use Rattle.mufom_build.specs.Rows.{Keyword, Payload}
use Rattle.mufom_build.specs.Shown.{Shows, shown_kind}

-- ---- one reader and another

-- a reader of which any value may be stated
pub all_few : {X : Type 0} {f : X → List Piece} {P : List Piece → Type 0} {x : X} {a b : Place} → ReadsLoosely f P x a b
    → ReadsFew f (λ (z : X). Unit {0}) P x a b
all_few p = record {
  value = p.value;
  moves = p.moves;
  passes = p.passes;
  few = λ sound. tt;
  same = p.same;
  takes = λ x more few tail goes. p.takes x more tail goes;
}

-- at the end of a line
pub at_last : {X : Type 0} {f : X → List Piece} {M : X → Type 0} {P : List Piece → Type 0} {x : X} {a b : Place} → P [] → ReadsFew f M P x a b
    → ReadsFew f M Nothing x a b
at_last {X} {f} {M} {P} nothing p = record {
  value = p.value;
  moves = p.moves;
  passes = p.passes;
  few = p.few;
  same = p.same;
  takes = λ x more few none goes. p.takes x more few (subst P (sym none) nothing) goes;
}

-- a position that another number is
pub position_at : {m n : ℕ} {a b : Place} → m ≡ n → ReadsPosition n a b → ReadsPosition m a b
position_at {m} {n} {a} {b} same p = subst (λ (k : ℕ). ReadsPosition k a b) (sym same) p

-- after pieces that state nothing
pub past : {X : Type 0} {f : X → List Piece} {M : X → Type 0} {P Q : List Piece → Type 0} {x : X} {a b c : Place} (ps : List Piece)
    → ReadsLoosely (λ (u : Unit {0}). ps) P tt a b → ((z : X) (more : List Piece) → Q more → P (f z ++ more)) → ReadsFew f M Q x b c
    → ReadsFew (λ (z : X). ps ++ f z) M Q x a c
past {X} {f} {M} {P} {Q} {x} {a} {b} {c} ps p tails q = record {
  value = q.value;
  moves = moves_then p.moves q.moves;
  passes = λ sound. passes_then ps (f q.value) a b c (p.passes (q.moves.sound sound)) (q.passes sound);
  few = q.few;
  same = q.same;
  takes = λ z more few tail goes.
      let on = subst (λ (l : List Piece). Goes l a) (append_assoc ps (f z) more) goes in
      q.takes z more few tail (p.takes tt (f z ++ more) (tails z more tail) on).1;
}

-- one value and another
pub and_then : {X Y : Type 0} {f : X → List Piece} {g : Y → List Piece} {M : Y → Type 0} {P Q : List Piece → Type 0} {x : X} {y : Y} {a b c : Place}
    → ReadsLoosely f P x a b → ((z : Y) (more : List Piece) → Q more → P (g z ++ more)) → ReadsFew g M Q y b c
    → ReadsFew (λ (z : X × Y). f z.0 ++ g z.1) (λ (z : X × Y). M z.1) Q (x, y) a c
and_then {X} {Y} {f} {g} {M} {P} {Q} {x} {y} {a} {b} {c} p tails q = record {
  value = (p.value, q.value);
  moves = moves_then p.moves q.moves;
  passes = λ sound. passes_then (f p.value) (g q.value) a b c (p.passes (q.moves.sound sound)) (q.passes sound);
  few = q.few;
  same = λ right. pair (p.same (q.moves.right right)) (q.same right);
  takes = λ z more few tail goes.
      let on = subst (λ (l : List Piece). Goes l a) (append_assoc (f z.0) (g z.1) more) goes in
      let (first, later) = p.takes z.0 (g z.1 ++ more) (tails z.1 more tail) on in
      let (second, last) = q.takes z.1 more few tail later in
      (pair first second, last);
}
  where
    pair : {p q : X × Y} → p.0 ≡ q.0 → p.1 ≡ q.1 → p ≡ q
    pair e f = λ i. (e i, f i)

-- the same value in another form
pub as_read : {X Y : Type 0} {f : X → List Piece} {g : Y → List Piece} {M : X → Type 0} {N : Y → Type 0} {P : List Piece → Type 0} {x : X}
    {a b : Place} (to : X → Y) (from : Y → X) → ((y : Y) → to (from y) ≡ y) → ((z : X) → f z ≡ g (to z)) → ((y : Y) → g y ≡ f (from y))
    → ((z : X) → M z → N (to z)) → ((y : Y) → N y → M (from y)) → ReadsFew f M P x a b → ReadsFew g N P (to x) a b
as_read {X} {Y} {f} {g} {M} {N} {P} {x} {a} {b} to from back there here keeps kept p = record {
  value = to p.value;
  moves = p.moves;
  passes = λ sound. subst (λ (l : List Piece). Passes l a b) (there p.value) (p.passes sound);
  few = λ sound. keeps p.value (p.few sound);
  same = λ right. ap to (p.same right);
  takes = λ y more few tail goes.
      let on = subst (λ (l : List Piece). Goes (l ++ more) a) (here y) goes in
      let (same, left) = p.takes (from y) more (kept y few) tail on in
      (sym (back y) ∙ ap to same, left);
}

-- where a piece is missing and no value has the pieces that come
pub reads_bad : {X : Type 0} {f : X → List Piece} {M : X → Type 0} {P : List Piece → Type 0} (x : X) {a b : Place} → Moves a b → (IsSound b → ⊥)
    → ((z : X) (more : List Piece) → M z → P more → Goes (f z ++ more) a → ⊥) → ReadsFew f M P x a b
reads_bad x {a} {b} moves bad none = record {
  value = x;
  moves = moves;
  passes = λ sound. absurd (bad sound);
  few = λ sound. absurd (bad sound);
  same = λ right. refl;
  takes = λ z more few tail goes. absurd (none z more few tail goes);
}

-- ---- the line of a row

-- the line of a row of one first word, by what else it states
pub row_read : (s : State) (k : Keyword) (row : ReadRow) (p : Payload k) {a b : Place}
    (read : ReadsFew (λ (q : Payload k). row_pieces s (k, q)) (λ (q : Payload k). IsFew (k, q)) Nothing p a b)
    → Shows row (k, p) → (IsSound b → shown_kind row ≡ kind_of (k, read.value)) → ReadsOf s k row a b
row_read s k row p {a} {b} read shows kind = record {
  payload = read.value;
  moves = read.moves;
  passes = read.passes;
  few = read.few;
  kind = kind;
  same = λ right. subst (λ (q : Payload k). Shows row (k, q)) (read.same right) shows;
  takes = λ q few goes. read.takes q [] few refl (subst (λ (l : List Piece). Goes l a) (sym (append-nil (row_pieces s (k, q)))) goes);
}
