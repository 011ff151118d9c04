-- The errors of a line are those that are noted while its pieces are passed.
use Rattle.std.proofs.Common.{◌≡◌, ℕ, ◌+◌, ◌<◌, ◌≤◌, nat_le, ◌&&◌, Bool, true, false, List, [], ◌∷◌, ◌++◌, length, Option, Some, None, refl, sym, ap, subst}
use Rattle.std.proofs.Common.{◌∙◌, inl, inr, ◌⊎◌, append_assoc, append-nil, arith, if◌then◌else◌, length-append}
use Rattle.mufom_text.specs.Words.{Text}
use Rattle.mufom_build_text.specs.declared.cursor.LineError.{LineError}
use Rattle.mufom_refusals.specs.declared.build.BuildReason.{BuildReason}
use Rattle.mufom_build_text.specs.Pieces.{Piece, loose, Spells, SpellsPiece, AreSpaces}
use Rattle.mufom_build_text.specs.Errors.{error_at, first_error, noted, piece_error}
use Rattle.mufom_build_text.specs.Loosely.{PassesOne, Passes}
use Rattle.mufom_build_text.specs.Reads.{Place, IsLineEnd}
use Rattle.mufom_build_text.proofs.Noted.{le_true, le_false}
use Rattle.mufom_build_text.proofs.Spelling.{spells-one}
use Rattle.mufom_build.proofs.Certain.{certain, IsTail, tail_more, one_piece, one_front, certain_rest, same_rest}

-- ---- what is noted

-- an error at this column or before it
abbrev pub IsNotedBy : Option LineError → ℕ → Type 0
IsNotedBy noted column = (e : LineError) × (noted ≡ Some e) × (e.column ≤ column)

first_kept : (o : Option LineError) (x : LineError) → IsNotedBy (first_error o x) x.column
first_kept None x = (x, refl, omega arith)
first_kept (Some f) x = go (nat_le f.column x.column) refl
  where
    go : (b : Bool) → nat_le f.column x.column ≡ b → IsNotedBy (if b then Some f else Some x) x.column
    go true h = (f, refl, le_true f.column x.column h)
    go false h = (x, refl, omega arith)

first_keeps : (f x : LineError) → IsNotedBy (first_error (Some f) x) f.column
first_keeps f x = go (nat_le f.column x.column) refl
  where
    go : (b : Bool) → nat_le f.column x.column ≡ b → IsNotedBy (if b then Some f else Some x) f.column
    go true h = (f, refl, omega arith)
    go false h = let great = le_false f.column x.column h in (x, refl, omega (arith, great))

noted_keeps : (f : LineError) (column : ℕ) (error : Option BuildReason) → IsNotedBy (noted (Some f) column error) f.column
noted_keeps f column None = (f, refl, omega arith)
noted_keeps f column (Some reason) = first_keeps f (error_at column reason)

-- what is noted was so before, or is noted here
noted_from : (o : Option LineError) (column : ℕ) (error : Option BuildReason) (e : LineError) → noted o column error ≡ Some e
    → (o ≡ Some e) ⊎ ((error ≡ Some e.reason) × (e.column ≡ column))
noted_from o column None e h = inl h
noted_from None column (Some reason) e h =
    let same : error_at column reason ≡ e = cc in inr (ap (λ (x : LineError). Some x.reason) same, ap (λ (x : LineError). x.column) (sym same))
noted_from (Some f) column (Some reason) e h = go (nat_le f.column column) h
  where
    go : (b : Bool) → (if b then Some f else Some (error_at column reason)) ≡ Some e
        → (Some f ≡ Some e) ⊎ ((Some reason ≡ Some e.reason) × (e.column ≡ column))
    go true h = inl h
    go false h = let same : error_at column reason ≡ e = cc in
        inr (ap (λ (x : LineError). Some x.reason) same, ap (λ (x : LineError). x.column) (sym same))

-- ---- what is passed

-- the bytes that are passed over
pub record IsPassed (pieces : List Piece) (a b : Place) : Type 0 where
  pub front : Text
  pub is : a.rest ≡ front ++ b.rest
  pub spelled : Spells loose pieces front
  pub line : b.line ≡ a.line
  pub column : b.column ≡ a.column + length front

pub passed : (pieces : List Piece) (a b : Place) → Passes pieces a b → IsPassed pieces a b
passed [] a b same = record {
  front = [];
  is = ap (λ (p : Place). p.rest) same;
  spelled = refl;
  line = ap (λ (p : Place). p.line) (sym same);
  column = ap (λ (p : Place). p.column) (sym same) ∙ (let e : a.column ≡ a.column + 0 = omega arith in e);
}
passed (piece ∷ pieces) a b (next, one, more) =
    let p = passed pieces next b more in
    let long = length-append one.front p.front in
    record {
      front = one.front ++ p.front;
      is = one.is ∙ ap (λ l. one.front ++ l) p.is ∙ sym (append_assoc one.front p.front b.rest);
      spelled = (one.front, p.front, refl, one.spelled, p.spelled);
      line = p.line ∙ one.line;
      column = omega (arith, p.column, one.column, long);
    }

-- One of the pieces, with the bytes before, of and after it, has this error.
pub record IsFault (pieces : List Piece) (a b : Place) (e : LineError) : Type 0 where
  pub earlier : List Piece
  pub piece : Piece
  pub later : List Piece
  pub made_of : pieces ≡ earlier ++ piece ∷ later
  pub front : Text
  pub bytes : Text
  pub back : Text
  pub is : a.rest ≡ front ++ (bytes ++ (back ++ b.rest))
  pub spells_front : Spells loose earlier front
  pub spells_piece : SpellsPiece loose piece bytes
  pub spells_back : Spells loose later back
  pub error : piece_error piece bytes ≡ Some e.reason
  pub place : e.column ≡ a.column + length front

-- what is noted behind pieces was noted before them, or is an error of one of them
pub fault_of : (pieces : List Piece) (a b : Place) (e : LineError) → Passes pieces a b → b.error ≡ Some e → (a.error ≡ Some e) ⊎ IsFault pieces a b e
fault_of [] a b e same h = inl (ap (λ (p : Place). p.error) same ∙ h)
fault_of (piece ∷ pieces) a b e (next, one, more) h = go (fault_of pieces next b e more h)
  where
    here : (next.error ≡ Some e) → (a.error ≡ Some e) ⊎ IsFault (piece ∷ pieces) a b e
    here k = by (noted_from a.error a.column (piece_error piece one.front) e (sym one.error ∙ k))
      where
        by : (a.error ≡ Some e) ⊎ ((piece_error piece one.front ≡ Some e.reason) × (e.column ≡ a.column))
            → (a.error ≡ Some e) ⊎ IsFault (piece ∷ pieces) a b e
        by (inl same) = inl same
        by (inr (error, column)) = let p = passed pieces next b more in inr (record {
          earlier = [];
          piece = piece;
          later = pieces;
          made_of = refl;
          front = [];
          bytes = one.front;
          back = p.front;
          is = one.is ∙ ap (λ l. one.front ++ l) p.is;
          spells_front = refl;
          spells_piece = one.spelled;
          spells_back = p.spelled;
          error = error;
          place = column ∙ (let sum : a.column ≡ a.column + 0 = omega arith in sum);
        })

    go : (next.error ≡ Some e) ⊎ IsFault pieces next b e → (a.error ≡ Some e) ⊎ IsFault (piece ∷ pieces) a b e
    go (inl k) = here k
    go (inr f) =
        let long = length-append one.front f.front in
        inr (record {
          earlier = piece ∷ f.earlier;
          piece = f.piece;
          later = f.later;
          made_of = ap (λ l. piece ∷ l) f.made_of;
          front = one.front ++ f.front;
          bytes = f.bytes;
          back = f.back;
          is = one.is ∙ ap (λ l. one.front ++ l) f.is ∙ sym (append_assoc one.front f.front (f.bytes ++ (f.back ++ b.rest)));
          spells_front = (one.front, f.front, refl, one.spelled, f.spells_front);
          spells_piece = f.spells_piece;
          spells_back = f.spells_back;
          error = f.error;
          place = omega (arith, f.place, one.column, long);
        })

-- what is noted stays, or an error before it is noted
pub still_noted : (pieces : List Piece) (a b : Place) (column : ℕ) → Passes pieces a b → IsNotedBy a.error column → IsNotedBy b.error column
still_noted [] a b column same n = subst (λ (p : Place). IsNotedBy p.error column) same n
still_noted (piece ∷ pieces) a b column (next, one, more) (e, is, small) =
    let (f, k, less) = noted_keeps e a.column (piece_error piece one.front) in
    still_noted pieces next b column more
    (f, one.error ∙ ap (λ (o : Option LineError). noted o a.column (piece_error piece one.front)) is ∙ k, omega (arith, small, less))

-- the rest of a line behind pieces that are passed
rest_is_tail : (pieces : List Piece) (a b : Place) → Passes pieces a b → IsTail [] b.rest → IsTail pieces a.rest
rest_is_tail pieces a b passes end =
    let p = passed pieces a b passes in
    subst (λ (l : Text). IsTail pieces l) (sym p.is) (subst (λ (l : List Piece). IsTail l (p.front ++ b.rest)) (append-nil pieces)
    (tail_more pieces [] p.front b.rest p.spelled end))

-- An error of a piece is noted, or one before it.
pub fault_noted : (earlier : List Piece) (piece : Piece) (later : List Piece) (a b : Place) (front bytes rest : Text) (reason : BuildReason)
    → certain (earlier ++ piece ∷ later) ≡ true → Passes (earlier ++ piece ∷ later) a b → a.rest ≡ front ++ (bytes ++ rest)
    → Spells loose earlier front → SpellsPiece loose piece bytes → IsTail later rest → IsTail [] b.rest → piece_error piece bytes ≡ Some reason
    → IsNotedBy b.error (a.column + length front)
fault_noted [] piece later a b front bytes rest reason h (next, one, more) is none spelled tail end error =
    let all : one.front ++ next.rest ≡ bytes ++ rest = sym one.is ∙ is ∙ ap (λ l. l ++ (bytes ++ rest)) none in
    let same = one_piece piece later one.front bytes next.rest rest h one.spelled spelled (rest_is_tail later next b more end) tail all in
    let wrong : piece_error piece one.front ≡ Some reason = ap (λ l. piece_error piece l) same ∙ error in
    let (e, k, small) = first_kept a.error (error_at a.column reason) in
    let noted_here : next.error ≡ Some e = one.error ∙ ap (λ (r : Option BuildReason). noted a.error a.column r) wrong ∙ k in
    still_noted later next b (a.column + length front) more (e, noted_here, omega (arith, small))
fault_noted (x ∷ earlier) piece later a b front bytes rest reason h (next, one, more) is (first, others, f, spelled_first, spelled_others) spelled tail
    end error =
    let all : one.front ++ next.rest ≡ first ++ (others ++ (bytes ++ rest)) =
    sym one.is ∙ is ∙ ap (λ l. l ++ (bytes ++ rest)) f ∙ append_assoc first others (bytes ++ rest) in
    let further = tail_more earlier (piece ∷ later) others (bytes ++ rest) spelled_others (tail_more (piece ∷ []) later bytes rest
    (spells-one loose piece bytes spelled) tail) in
    let same = one_piece x (earlier ++ piece ∷ later) one.front first next.rest (others ++ (bytes ++ rest)) h one.spelled spelled_first
    (rest_is_tail (earlier ++ piece ∷ later) next b more end) further all in
    let left = same_rest one.front first next.rest (others ++ (bytes ++ rest)) all same in
    let (e, k, small) = fault_noted earlier piece later next b others bytes rest reason (certain_rest x (earlier ++ piece ∷ later) h) more left
    spelled_others spelled tail end error in
    let long : length front ≡ length first + length others = ap length f ∙ length-append first others in
    let begun : length one.front ≡ length first = ap length same in
    (e, k, omega (arith, small, long, begun, one.column))
