-- The first line with an error, found by a walk over the lines, is the line that is wrong after lines with which nothing is wrong.
use Rattle.std.proofs.Common.{◌≡◌, ◌≢◌, ℕ, zero, suc, ◌+◌, ◌<◌, ◌≤◌, List, [], ◌∷◌, ◌++◌, length, map, replicate, Option, Some, None, option_map, Bool}
use Rattle.std.proofs.Common.{true, false, ◌||◌, ◌^◌, ◌⊎◌, inl, inr, refl, sym, ◌∙◌, ap, subst, arith}
use Rattle.std.specs.Prelude.{◌==◌, nat_lt, if◌then◌else◌}
use Rattle.std.specs.List.{All}
use Rattle.std.proofs.lemmas.List.{map-append}
use Rattle.std.proofs.lemmas.List.Elements.{All-nil, All-cons, All-head, All-tail, All-append}
use Rattle.mufom_place.specs.Facts.{◌or_else◌}
use Rattle.mufom_meaning.specs.AddressMap.{Cell, cells_from}
use Rattle.mufom_meaning.specs.Facts.{loaded_twice}
use Rattle.mufom_meaning.specs.Walk.{has_number, first_twice}
use Rattle.mufom_numbers.proofs.Choices.{equal_numbers, some_same, of_lt, is_lt, of_not_lt, not_lt}
use Rattle.mufom_image_bytes.proofs.TwiceLaws.{passed, twice-append}
use Rattle.mufom_refusals.specs.declared.text.TxtReason.{TxtReason}
use Rattle.mufom_refusals.specs.declared.text.TxtReason.TheVariants.{BadLine, NoAddress, Beyond, Twice, AfterEnd, NoEnd}
use Rattle.mufom_refusals.specs.declared.text.TxtRefusal.{TxtRefusal}
use Rattle.mufom_titxt.specs.Lines.{Line, blank_line, address_line, byte_line, end_line, line_of, lines_of}
use Rattle.mufom_titxt.specs.Texts.{SoFar, nothing_stated, next_after, cells_of_lines, AreInside, byte_fault, taken_after, refusal_at}
use Rattle.mufom_titxt.specs.Texts.{refusal_after, txt_refusal}
use Rattle.mufom_titxt.specs.FirstErrors.{addresses_from, addresses_of, address_after, MayBegin, IsFree, IsBarred, HasBarredByte}
use Rattle.mufom_titxt.specs.FirstErrors.{IsWrongLine, IsErrorOf, IsTxtError}

-- another number
apart : (a m : ℕ) → a < m → (a == m) ≡ false
apart a m less = by_case (a == m) refl where
  by_case : (b : Bool) → (a == m) ≡ b → (a == m) ≡ false
  by_case false e = e
  by_case true e = let same = equal_numbers a m e in absurd (omega (arith, same, less))

-- the numbers from the next one on
next_up : (x a : ℕ) → x ≤ a → (x == a) ≡ false → suc x ≤ a
next_up x a low other = grind (arith, low, other)

right_false : (a b : Bool) → (a || b) ≡ false → b ≡ false
right_false true b e = absurd (cc e)
right_false false b e = e

or_none : (b : Bool) → (b || false) ≡ b
or_none true = refl
or_none false = refl

none_left : {A : Type 0} (a b : Option A) → (a or_else b) ≡ None → a ≡ None
none_left None b e = refl
none_left (Some x) b e = absurd (cc e)

none_right : {A : Type 0} (a b : Option A) → (a or_else b) ≡ None → b ≡ None
none_right None b e = e
none_right (Some x) b e = absurd (cc e)

-- lines of which none is bad
abbrev good : List Line → List (Option Line)
good lines = map (λ line. Some line) lines

one_line : (count n : ℕ) → suc count + n ≡ count + suc n
one_line count n = omega arith

-- ---- membership

has-passed : (xs earlier : List ℕ) (n : ℕ) → has_number (passed earlier xs) n ≡ (has_number xs n || has_number earlier n)
has-passed [] earlier n = refl
has-passed (x ∷ xs) earlier n = has-passed xs (x ∷ earlier) n ∙ regroup (x == n) (has_number xs n) (has_number earlier n) where
  regroup : (a b c : Bool) → (b || (a || c)) ≡ ((a || b) || c)
  regroup true true c = refl
  regroup true false c = refl
  regroup false b c = refl

passed-taken : (cells : List Cell) (taken : List ℕ) → taken_after taken cells ≡ passed taken (map (λ (cell : Cell). cell.0) cells)
passed-taken [] taken = refl
passed-taken (cell ∷ cells) taken = passed-taken cells (cell.0 ∷ taken)

-- numbers with the same members
abbrev Same : List ℕ → List ℕ → Type 0
Same given other = (n : ℕ) → has_number given n ≡ has_number other n

module _ (modulus : ℕ) where
  same-barred : (given other : List ℕ) → Same given other → (a : ℕ) (reason : TxtReason) → IsBarred modulus given a reason → IsBarred modulus other a reason
  same-barred given other same a Beyond h = h
  same-barred given other same a (Twice b) (low, had, is) = (low, sym (same a) ∙ had, is)
  same-barred given other same a BadLine h = h
  same-barred given other same a NoAddress h = h
  same-barred given other same a AfterEnd h = h
  same-barred given other same a NoEnd h = h

  same-byte : (given other : List ℕ) → Same given other → (at : ℕ) (bytes : List ℕ) (reason : TxtReason) → HasBarredByte modulus given at bytes reason
      → HasBarredByte modulus other at bytes reason
  same-byte given other same at bytes reason h = record {
    address = h.address;
    from = h.from;
    to = h.to;
    free = λ a low high. let f = h.free a low high in (f.0, sym (same a) ∙ f.1);
    barred = same-barred given other same h.address reason h.barred;
  }

  same-line : (given other : List ℕ) → Same given other → (next : Option ℕ) (line : Option Line) (reason : TxtReason)
      → IsWrongLine modulus given next line reason → IsWrongLine modulus other next line reason
  same-line given other same next None reason h = h
  same-line given other same next (Some blank_line) reason h = h
  same-line given other same next (Some (address_line address)) reason h = h
  same-line given other same None (Some (byte_line bytes)) reason h = h
  same-line given other same (Some at) (Some (byte_line bytes)) reason h = same-byte given other same at bytes reason h
  same-line given other same next (Some end_line) reason h = h

  -- ---- the bytes of a line

  byte-to : (bytes taken : List ℕ) (at : ℕ) (reason : TxtReason) → byte_fault modulus taken at bytes ≡ Some reason
      → HasBarredByte modulus taken at bytes reason
  byte-to [] taken at reason e = absurd (cc e)
  byte-to (b ∷ bytes) taken at reason e = by_case (byte-to bytes (at ∷ taken) (suc at) reason) (nat_lt at modulus) (has_number taken at) refl refl e where
    by_case : (byte_fault modulus (at ∷ taken) (suc at) bytes ≡ Some reason → HasBarredByte modulus (at ∷ taken) (suc at) bytes reason)
        → (low had : Bool) → nat_lt at modulus ≡ low → has_number taken at ≡ had
        → (if low then (if had then Some (Twice at) else byte_fault modulus (at ∷ taken) (suc at) bytes) else Some Beyond) ≡ Some reason
        → HasBarredByte modulus taken at (b ∷ bytes) reason
    by_case later false had l h e = record {
      address = at;
      from = omega arith;
      to = omega arith;
      free = λ a low high. absurd (omega (arith, low, high));
      barred = subst (IsBarred modulus taken at) (some_same Beyond reason e) (of_not_lt at modulus l);
    }
    by_case later true true l h e = record {
      address = at;
      from = omega arith;
      to = omega arith;
      free = λ a low high. absurd (omega (arith, low, high));
      barred = subst (IsBarred modulus taken at) (some_same (Twice at) reason e) (of_lt at modulus l, h, refl);
    }
    by_case later true false l h e =
        let r = later e in
        let from = r.from in
        let to = r.to in
        record {
          address = r.address;
          from = omega (arith, from);
          to = omega (arith, to);
          free = λ a low high. free-at r a low high;
          barred = barred-at r.address reason from r.barred;
        } where
          free-at : (r : HasBarredByte modulus (at ∷ taken) (suc at) bytes reason) (a : ℕ) → at ≤ a → a < r.address → IsFree modulus taken a
          free-at r a low high = at-first (at == a) refl where
            at-first : (c : Bool) → (at == a) ≡ c → IsFree modulus taken a
            at-first true same = subst (IsFree modulus taken) (equal_numbers at a same) (of_lt at modulus l, h)
            at-first false other =
                let next : suc at ≤ a = next_up at a low other in
                let f = r.free a next high in
                (f.0, right_false (at == a) (has_number taken a) f.1)

          barred-at : (a : ℕ) (why : TxtReason) → suc at ≤ a → IsBarred modulus (at ∷ taken) a why → IsBarred modulus taken a why
          barred-at a Beyond low h = h
          barred-at a (Twice c) low (below, had, is) = (below, sym (ap (λ x. x || has_number taken a) (apart at a (omega (arith, low)))) ∙ had, is)
          barred-at a BadLine low h = h
          barred-at a NoAddress low h = h
          barred-at a AfterEnd low h = h
          barred-at a NoEnd low h = h

  -- a step over a byte that may have its address
  over : (at : ℕ) (b : ℕ) (bytes taken : List ℕ) → IsFree modulus taken at
      → byte_fault modulus taken at (b ∷ bytes) ≡ byte_fault modulus (at ∷ taken) (suc at) bytes
  over at b bytes taken (low, none) =
      ap
      (λ t. if t then (if has_number taken at then Some (Twice at) else byte_fault modulus (at ∷ taken) (suc at) bytes)
      else Some Beyond) (is_lt at modulus low)
      ∙ ap (λ t. if t then Some (Twice at) else byte_fault modulus (at ∷ taken) (suc at) bytes) none

  -- the first byte may not have its address
  barred-first : (at b : ℕ) (bytes taken : List ℕ) (reason : TxtReason) → IsBarred modulus taken at reason
      → byte_fault modulus taken at (b ∷ bytes) ≡ Some reason
  barred-first at b bytes taken Beyond high =
      ap
      (λ t. if t then (if has_number taken at then Some (Twice at) else byte_fault modulus (at ∷ taken) (suc at) bytes)
      else Some Beyond) (not_lt at modulus high)
  barred-first at b bytes taken (Twice c) (low, had, is) =
      ap
      (λ t. if t then (if has_number taken at then Some (Twice at) else byte_fault modulus (at ∷ taken) (suc at) bytes)
      else Some Beyond) (is_lt at modulus low)
      ∙ (ap (λ t. if t then Some (Twice at) else byte_fault modulus (at ∷ taken) (suc at) bytes) had ∙ ap (λ x. Some (Twice x)) (sym is))
  barred-first at b bytes taken BadLine h = absurd h
  barred-first at b bytes taken NoAddress h = absurd h
  barred-first at b bytes taken AfterEnd h = absurd h
  barred-first at b bytes taken NoEnd h = absurd h

  byte-from : (bytes taken : List ℕ) (at : ℕ) (reason : TxtReason) → HasBarredByte modulus taken at bytes reason
      → byte_fault modulus taken at bytes ≡ Some reason
  byte-from [] taken at reason h = let from = h.from in let to = h.to in absurd (omega (arith, from, to))
  byte-from (b ∷ bytes) taken at reason h = by_case (byte-from bytes (at ∷ taken) (suc at) reason) (at == h.address) refl where
    by_case : (HasBarredByte modulus (at ∷ taken) (suc at) bytes reason → byte_fault modulus (at ∷ taken) (suc at) bytes ≡ Some reason)
        → (c : Bool) → (at == h.address) ≡ c → byte_fault modulus taken at (b ∷ bytes) ≡ Some reason
    by_case later true same =
        barred-first at b bytes taken reason (subst (λ a. IsBarred modulus taken a reason) (sym (equal_numbers at h.address same)) h.barred)
    by_case later false other =
        let from = h.from in
        let to = h.to in
        let next : suc at ≤ h.address = next_up at h.address from other in
        over at b bytes taken (h.free at (omega arith) (omega (arith, next)))
        ∙ later record {
          address = h.address;
          from = next;
          to = omega (arith, to);
          free = λ a low high.
              let f = h.free a (omega (arith, low)) high in
              (f.0, ap (λ x. x || has_number taken a) (apart at a (omega (arith, low))) ∙ f.1);
          barred = barred-at h.address reason next h.barred;
        } where
          barred-at : (a : ℕ) (why : TxtReason) → suc at ≤ a → IsBarred modulus taken a why → IsBarred modulus (at ∷ taken) a why
          barred-at a Beyond low h = h
          barred-at a (Twice c) low (below, had, is) = (below, ap (λ x. x || has_number taken a) (apart at a (omega (arith, low))) ∙ had, is)
          barred-at a BadLine low h = h
          barred-at a NoAddress low h = h
          barred-at a AfterEnd low h = h
          barred-at a NoEnd low h = h

  -- ---- lines with which nothing is wrong

  record Follow (taken : List ℕ) (next : Option ℕ) (lines : List Line) : Type 0 where
    inside : AreInside next lines
    below : All (λ a. a < modulus) (addresses_from next lines)
    once : first_twice taken (addresses_from next lines) ≡ None

  nothing : (taken : List ℕ) (next : Option ℕ) → Follow taken next []
  nothing taken next = record { inside = tt; below = All-nil (λ a. a < modulus); once = refl }

  abbrev addresses_at : ℕ → List ℕ → List ℕ
  addresses_at at bytes = map (λ (cell : Cell). cell.0) (cells_from at bytes)

  abbrev after_bytes : List ℕ → ℕ → List ℕ → List ℕ
  after_bytes taken at bytes = passed taken (addresses_at at bytes)

  -- the addresses of a line with bytes and of more lines
  bytes-more : (at : ℕ) (bytes : List ℕ) (lines : List Line)
      → addresses_from (Some at) (byte_line bytes ∷ lines) ≡ addresses_at at bytes ++ addresses_from (Some (at + length bytes)) lines
  bytes-more at bytes lines = map-append (λ (cell : Cell). cell.0) (cells_from at bytes) (cells_of_lines (Some (at + length bytes)) lines)

  All-left : (xs ys : List ℕ) → All (λ a. a < modulus) (xs ++ ys) → All (λ a. a < modulus) xs
  All-left [] ys h = All-nil (λ a. a < modulus)
  All-left (x ∷ xs) ys h =
      All-cons (λ a. a < modulus) x xs (All-head (λ a. a < modulus) x (xs ++ ys) h) (All-left xs ys (All-tail (λ a. a < modulus) x (xs ++ ys) h))

  All-right : (xs ys : List ℕ) → All (λ a. a < modulus) (xs ++ ys) → All (λ a. a < modulus) ys
  All-right [] ys h = h
  All-right (x ∷ xs) ys h = All-right xs ys (All-tail (λ a. a < modulus) x (xs ++ ys) h)

  -- bytes that may have their addresses
  good-bytes : (bytes taken : List ℕ) (at : ℕ) → byte_fault modulus taken at bytes ≡ None
      → All (λ a. a < modulus) (addresses_at at bytes) × (first_twice taken (addresses_at at bytes) ≡ None)
  good-bytes [] taken at e = (All-nil (λ a. a < modulus), refl)
  good-bytes (b ∷ bytes) taken at e = by_case (good-bytes bytes (at ∷ taken) (suc at)) (nat_lt at modulus) (has_number taken at) refl refl e where
    by_case : (byte_fault modulus (at ∷ taken) (suc at) bytes ≡ None
        → All (λ a. a < modulus) (addresses_at (suc at) bytes) × (first_twice (at ∷ taken) (addresses_at (suc at) bytes) ≡ None))
        → (low had : Bool) → nat_lt at modulus ≡ low → has_number taken at ≡ had
        → (if low then (if had then Some (Twice at) else byte_fault modulus (at ∷ taken) (suc at) bytes) else Some Beyond) ≡ None
        → All (λ a. a < modulus) (at ∷ addresses_at (suc at) bytes)
        × ((if had then Some (loaded_twice at) else first_twice (at ∷ taken) (addresses_at (suc at) bytes)) ≡ None)
    by_case later false had l h e = absurd (cc e)
    by_case later true true l h e = absurd (cc e)
    by_case later true false l h e =
        let r = later e in
        (All-cons (λ a. a < modulus) at (addresses_at (suc at) bytes) (of_lt at modulus l) r.0, r.1)

  bytes-good : (bytes taken : List ℕ) (at : ℕ) → All (λ a. a < modulus) (addresses_at at bytes) → first_twice taken (addresses_at at bytes) ≡ None
      → byte_fault modulus taken at bytes ≡ None
  bytes-good [] taken at below once = refl
  bytes-good (b ∷ bytes) taken at below once = by_case (bytes-good bytes (at ∷ taken) (suc at)) (has_number taken at) refl once where
    by_case : (All (λ a. a < modulus) (addresses_at (suc at) bytes) → first_twice (at ∷ taken) (addresses_at (suc at) bytes) ≡ None
        → byte_fault modulus (at ∷ taken) (suc at) bytes ≡ None)
        → (had : Bool) → has_number taken at ≡ had
        → (if had then Some (loaded_twice at) else first_twice (at ∷ taken) (addresses_at (suc at) bytes)) ≡ None
        → byte_fault modulus taken at (b ∷ bytes) ≡ None
    by_case later true h e = absurd (cc e)
    by_case later false h e =
        over at b bytes taken (All-head (λ a. a < modulus) at (addresses_at (suc at) bytes) below, h)
        ∙ later (All-tail (λ a. a < modulus) at (addresses_at (suc at) bytes) below) e

  -- a line with bytes, and lines after it
  more-bytes : (taken : List ℕ) (at : ℕ) (bytes : List ℕ) (lines : List Line) → byte_fault modulus taken at bytes ≡ None
      → Follow (after_bytes taken at bytes) (Some (at + length bytes)) lines → Follow taken (Some at) (byte_line bytes ∷ lines)
  more-bytes taken at bytes lines none f =
      let good = good-bytes bytes taken at none in
      let later : List ℕ = addresses_from (Some (at + length bytes)) lines in
      record {
        inside = (tt, f.inside);
        below = subst (All (λ a. a < modulus)) (sym (bytes-more at bytes lines)) (All-append (λ a. a < modulus) (addresses_at at bytes) later good.0 f.below);
        once = ap (first_twice taken) (bytes-more at bytes lines)
            ∙ (twice-append (addresses_at at bytes) taken later
            ∙ (ap (λ o. o or_else first_twice (after_bytes taken at bytes) later) good.1 ∙ f.once));
      }

  -- the lines after a line with bytes
  less-bytes : (taken : List ℕ) (at : ℕ) (bytes : List ℕ) (lines : List Line) → Follow taken (Some at) (byte_line bytes ∷ lines)
      → (byte_fault modulus taken at bytes ≡ None) × Follow (after_bytes taken at bytes) (Some (at + length bytes)) lines
  less-bytes taken at bytes lines f =
      let later : List ℕ = addresses_from (Some (at + length bytes)) lines in
      let below = subst (All (λ a. a < modulus)) (bytes-more at bytes lines) f.below in
      let once = sym (twice-append (addresses_at at bytes) taken later) ∙ (sym (ap (first_twice taken) (bytes-more at bytes lines)) ∙ f.once) in
      let first = none_left (first_twice taken (addresses_at at bytes)) (first_twice (after_bytes taken at bytes) later) once in (
        bytes-good bytes taken at (All-left (addresses_at at bytes) later below) first,
        record {
          inside = f.inside.1;
          below = All-right (addresses_at at bytes) later below;
          once = none_right (first_twice taken (addresses_at at bytes)) (first_twice (after_bytes taken at bytes) later) once;
        },
      )

  -- ---- the first line with an error

  abbrev started : Option ℕ → SoFar
  started next = record { ended = false; next = next }

  abbrev stopped : Option ℕ → SoFar
  stopped next = record { ended = true; next = next }

  record AtLine (count : ℕ) (next : Option ℕ) (taken : List ℕ) (lines : List (Option Line)) (r : TxtRefusal) : Type 0 where
    before : List Line
    line : Option Line
    after : List (Option Line)
    split : lines ≡ good before ++ line ∷ after
    fine : Follow taken next before
    number : r.line ≡ suc (count + length before)
    wrong : IsWrongLine modulus (passed taken (addresses_from next before)) (address_after next before) line r.reason

  record AtEnd (count : ℕ) (lines : List (Option Line)) (r : TxtRefusal) : Type 0 where
    blanks : ℕ
    line : Option Line
    after : List (Option Line)
    split : lines ≡ good (replicate blanks blank_line) ++ line ∷ after
    number : r.line ≡ suc (count + blanks)
    wrong : line ≢ Some blank_line
    reason : r.reason ≡ AfterEnd

  record Late (count : ℕ) (next : Option ℕ) (taken : List ℕ) (lines : List (Option Line)) (r : TxtRefusal) : Type 0 where
    before : List Line
    rest : List (Option Line)
    split : lines ≡ good before ++ Some end_line ∷ rest
    fine : Follow taken next before
    end : AtEnd (suc (count + length before)) rest r

  record Open (count : ℕ) (next : Option ℕ) (taken : List ℕ) (lines : List (Option Line)) (r : TxtRefusal) : Type 0 where
    before : List Line
    split : lines ≡ good before
    fine : Follow taken next before
    number : r.line ≡ count + length before
    reason : r.reason ≡ NoEnd

  abbrev Found : ℕ → Option ℕ → List ℕ → List (Option Line) → TxtRefusal → Type 0
  Found count next taken lines r = AtLine count next taken lines r ⊎ (Late count next taken lines r ⊎ Open count next taken lines r)

  -- a line more before it
  record IsStep (taken : List ℕ) (next : Option ℕ) (line : Line) (over : List ℕ) : Type 0 where
    fine : (lines : List Line) → Follow over (next_after next line) lines → Follow taken next (line ∷ lines)
    members : (lines : List Line) → passed over (addresses_from (next_after next line) lines) ≡ passed taken (addresses_from next (line ∷ lines))

  one_more : (count : ℕ) (next : Option ℕ) (taken over : List ℕ) (line : Line) (lines : List (Option Line)) (r : TxtRefusal) → IsStep taken next line over
      → Found (suc count) (next_after next line) over lines r → Found count next taken (Some line ∷ lines) r
  one_more count next taken over line lines r step (inl f) =
      let number = f.number in
      inl record {
        before = line ∷ f.before;
        line = f.line;
        after = f.after;
        split = ap (λ (l : List (Option Line)). Some line ∷ l) f.split;
        fine = step.fine f.before f.fine;
        number = number ∙ omega arith;
        wrong = subst (λ given. IsWrongLine modulus given (address_after (next_after next line) f.before) f.line r.reason) (step.members f.before) f.wrong;
      }
  one_more count next taken over line lines r step (inr (inl f)) = inr (inl record {
    before = line ∷ f.before;
    rest = f.rest;
    split = ap (λ (l : List (Option Line)). Some line ∷ l) f.split;
    fine = step.fine f.before f.fine;
    end = subst (λ n. AtEnd n f.rest r) (let same : suc (suc count + length f.before) ≡ suc (count + suc (length f.before)) = omega arith in same) f.end;
  })
  one_more count next taken over line lines r step (inr (inr f)) = inr (inr record {
    before = line ∷ f.before;
    split = ap (λ (l : List (Option Line)). Some line ∷ l) f.split;
    fine = step.fine f.before f.fine;
    number = f.number ∙ omega arith;
    reason = f.reason;
  })

  empty-step : (taken : List ℕ) (next : Option ℕ) → IsStep taken next blank_line taken
  empty-step taken next = record {
    fine = λ lines f. record { inside = (tt, f.inside); below = f.below; once = f.once };
    members = λ lines. refl;
  }

  address-step : (taken : List ℕ) (next : Option ℕ) (address : ℕ) → IsStep taken next (address_line address) taken
  address-step taken next address = record {
    fine = λ lines f. record { inside = (tt, f.inside); below = f.below; once = f.once };
    members = λ lines. refl;
  }

  passed-append : (xs ys taken : List ℕ) → passed taken (xs ++ ys) ≡ passed (passed taken xs) ys
  passed-append [] ys taken = refl
  passed-append (x ∷ xs) ys taken = passed-append xs ys (x ∷ taken)

  bytes-step : (taken : List ℕ) (at : ℕ) (bytes : List ℕ) → byte_fault modulus taken at bytes ≡ None
      → IsStep taken (Some at) (byte_line bytes) (after_bytes taken at bytes)
  bytes-step taken at bytes none = record {
    fine = λ lines f. more-bytes taken at bytes lines none f;
    members = λ lines. sym (ap (passed taken) (bytes-more at bytes lines)
        ∙ passed-append (addresses_at at bytes) (addresses_from (Some (at + length bytes)) lines) taken);
  }

  -- this line, with no line before it
  here : (count : ℕ) (next : Option ℕ) (taken : List ℕ) (line : Option Line) (lines : List (Option Line)) (reason : TxtReason) (r : TxtRefusal)
      → IsWrongLine modulus taken next line reason → ◌≡◌ {A = Option TxtRefusal} (Some (refusal_at (suc count) reason)) (Some r)
      → Found count next taken (line ∷ lines) r
  here count next taken line lines reason r wrong e =
      let same : refusal_at (suc count) reason ≡ r = some_same (refusal_at (suc count) reason) r e in
      inl (subst (AtLine count next taken (line ∷ lines)) same record {
        before = [];
        line = line;
        after = lines;
        split = refl;
        fine = nothing taken next;
        number = omega arith;
        wrong = wrong;
      })

  -- a line after the end that is not blank
  late-here : (count : ℕ) (line : Option Line) (lines : List (Option Line)) (r : TxtRefusal) → line ≢ Some blank_line
      → ◌≡◌ {A = Option TxtRefusal} (Some (refusal_at (suc count) AfterEnd)) (Some r) → AtEnd count (line ∷ lines) r
  late-here count line lines r other e =
      subst (AtEnd count (line ∷ lines)) (some_same (refusal_at (suc count) AfterEnd) r e) record {
        blanks = 0;
        line = line;
        after = lines;
        split = refl;
        number = omega arith;
        wrong = other;
        reason = refl;
      }

  -- after the end
  late-to : (lines : List (Option Line)) (count : ℕ) (next : Option ℕ) (taken : List ℕ) (r : TxtRefusal)
      → refusal_after modulus count (stopped next) taken lines ≡ Some r → AtEnd count lines r
  late-to [] count next taken r e = absurd (cc e)
  late-to (Some blank_line ∷ lines) count next taken r e =
      let f = late-to lines (suc count) next taken r e in
      record {
        blanks = suc f.blanks;
        line = f.line;
        after = f.after;
        split = ap (λ (l : List (Option Line)). Some blank_line ∷ l) f.split;
        number = f.number ∙ omega arith;
        wrong = f.wrong;
        reason = f.reason;
      }
  late-to (None ∷ lines) count next taken r e = late-here count None lines r (λ same. cc same) e
  late-to (Some (address_line address) ∷ lines) count next taken r e = late-here count (Some (address_line address)) lines r (λ same. cc same) e
  late-to (Some (byte_line bytes) ∷ lines) count next taken r e = late-here count (Some (byte_line bytes)) lines r (λ same. cc same) e
  late-to (Some end_line ∷ lines) count next taken r e = late-here count (Some end_line) lines r (λ same. cc same) e

  find : (lines : List (Option Line)) (count : ℕ) (next : Option ℕ) (taken : List ℕ) (r : TxtRefusal)
      → refusal_after modulus count (started next) taken lines ≡ Some r → Found count next taken lines r
  find [] count next taken r e = inr (inr (subst (Open count next taken []) (some_same (refusal_at count NoEnd) r e) record {
    before = [];
    split = refl;
    fine = nothing taken next;
    number = omega arith;
    reason = refl;
  }))
  find (None ∷ lines) count next taken r e = here count next taken None lines BadLine r refl e
  find (Some blank_line ∷ lines) count next taken r e =
      one_more count next taken taken blank_line lines r (empty-step taken next) (find lines (suc count) next taken r e)
  find (Some (address_line address) ∷ lines) count next taken r e =
      one_more count next taken taken (address_line address) lines r (address-step taken next address) (find lines (suc count) (Some address) taken r e)
  find (Some (byte_line bytes) ∷ lines) count None taken r e = here count None taken (Some (byte_line bytes)) lines NoAddress r refl e
  find (Some (byte_line bytes) ∷ lines) count (Some at) taken r e =
      by_case (λ same. find lines (suc count) (Some (at + length bytes)) (taken_after taken (cells_from at bytes)) r same) (byte_fault modulus taken at bytes)
      refl e where
        after : List ℕ → Type 0
        after over = Found (suc count) (Some (at + length bytes)) over lines r

        by_case : (refusal_after modulus (suc count) (started (Some (at + length bytes))) (taken_after taken (cells_from at bytes)) lines ≡ Some r
            → after (taken_after taken (cells_from at bytes)))
            → (fault : Option TxtReason) → byte_fault modulus taken at bytes ≡ fault
            → (option_map (refusal_at (suc count)) fault
            or_else refusal_after modulus (suc count) (started (Some (at + length bytes))) (taken_after taken (cells_from at bytes)) lines) ≡ Some r
            → Found count (Some at) taken (Some (byte_line bytes) ∷ lines) r
        by_case later (Some reason) fault same =
            here count (Some at) taken (Some (byte_line bytes)) lines reason r (byte-to bytes taken at reason fault) same
        by_case later None fault same =
            one_more count (Some at) taken (after_bytes taken at bytes) (byte_line bytes) lines r (bytes-step taken at bytes fault)
            (subst after (passed-taken (cells_from at bytes) taken) (later same))
  find (Some end_line ∷ lines) count next taken r e = inr (inl record {
    before = [];
    rest = lines;
    split = refl;
    fine = nothing taken next;
    end = subst (λ n. AtEnd n lines r) (let same : suc count ≡ suc (count + 0) = omega arith in same) (late-to lines (suc count) next taken r e);
  })

  -- ---- the way back

  abbrev walk : ℕ → Option ℕ → List ℕ → List (Option Line) → Option TxtRefusal
  walk count next taken lines = refusal_after modulus count (started next) taken lines

  -- the walk over lines with which nothing is wrong
  walk-over : (before : List Line) (count : ℕ) (next : Option ℕ) (taken : List ℕ) (lines : List (Option Line)) → Follow taken next before
      → walk count next taken (good before ++ lines)
      ≡ walk (count + length before) (address_after next before) (passed taken (addresses_from next before)) lines
  walk-over [] count next taken lines f = ap (λ n. walk n next taken lines) (let same : count ≡ count + 0 = omega arith in same)
  walk-over (blank_line ∷ before) count next taken lines f =
      walk-over before (suc count) next taken lines (record { inside = f.inside.1; below = f.below; once = f.once })
      ∙ ap (λ n. walk n (address_after next before) (passed taken (addresses_from next before)) lines) (one_line count (length before))
  walk-over (address_line address ∷ before) count next taken lines f =
      walk-over before (suc count) (Some address) taken lines (record { inside = f.inside.1; below = f.below; once = f.once })
      ∙ ap (λ n. walk n (address_after (Some address) before) (passed taken (addresses_from (Some address) before)) lines) (one_line count (length before))
  walk-over (byte_line bytes ∷ before) count None taken lines f = absurd f.inside.0
  walk-over (byte_line bytes ∷ before) count (Some at) taken lines f =
      let less = less-bytes taken at bytes before f in
      let next : Option ℕ = Some (at + length bytes) in
      let over : List ℕ = after_bytes taken at bytes in
      ap (λ (o : Option TxtReason). option_map (refusal_at (suc count)) o
      or_else walk (suc count) next (taken_after taken (cells_from at bytes)) (good before ++ lines)) less.0
      ∙ (ap (λ these. walk (suc count) next these (good before ++ lines)) (passed-taken (cells_from at bytes) taken)
      ∙ (walk-over before (suc count) next over lines less.1
      ∙ (ap (λ n. walk n (address_after next before) (passed over (addresses_from next before)) lines) (one_line count (length before))
      ∙ ap (λ these. walk (count + suc (length before)) (address_after next before) these lines)
      (sym (ap (passed taken) (bytes-more at bytes before) ∙ passed-append (addresses_at at bytes) (addresses_from next before) taken)))))
  walk-over (end_line ∷ before) count next taken lines f = absurd f.inside.0

  -- a line that is wrong
  walk-wrong : (count : ℕ) (next : Option ℕ) (taken : List ℕ) (line : Option Line) (lines : List (Option Line)) (reason : TxtReason)
      → IsWrongLine modulus taken next line reason → walk count next taken (line ∷ lines) ≡ Some (refusal_at (suc count) reason)
  walk-wrong count next taken None lines reason wrong = ap (λ why. Some (refusal_at (suc count) why)) (sym wrong)
  walk-wrong count next taken (Some blank_line) lines reason wrong = absurd wrong
  walk-wrong count next taken (Some (address_line address)) lines reason wrong = absurd wrong
  walk-wrong count None taken (Some (byte_line bytes)) lines reason wrong = ap (λ why. Some (refusal_at (suc count) why)) (sym wrong)
  walk-wrong count (Some at) taken (Some (byte_line bytes)) lines reason wrong =
      ap (λ (o : Option TxtReason). option_map (refusal_at (suc count)) o
      or_else walk (suc count) (Some (at + length bytes)) (taken_after taken (cells_from at bytes)) lines) (byte-from bytes taken at reason wrong)
  walk-wrong count next taken (Some end_line) lines reason wrong = absurd wrong

  -- blank lines after the end, and one that is not blank
  walk-late : (blanks count : ℕ) (next : Option ℕ) (taken : List ℕ) (line : Option Line) (lines : List (Option Line))
      → line ≢ Some blank_line
      → refusal_after modulus count (stopped next) taken (good (replicate blanks blank_line) ++ line ∷ lines) ≡ Some (refusal_at (suc (count + blanks)) AfterEnd)
  walk-late (suc blanks) count next taken line lines wrong =
      walk-late blanks (suc count) next taken line lines wrong
      ∙ ap (λ n. Some (refusal_at (suc n) AfterEnd)) (let same : suc count + blanks ≡ count + suc blanks = omega arith in same)
  walk-late zero count next taken line lines wrong =
      at_line line wrong ∙ ap (λ n. Some (refusal_at (suc n) AfterEnd)) (let same : count ≡ count + 0 = omega arith in same) where
        at_line : (line : Option Line) → line ≢ Some blank_line
            → refusal_after modulus count (stopped next) taken (line ∷ lines) ≡ Some (refusal_at (suc count) AfterEnd)
        at_line None wrong = refl
        at_line (Some blank_line) wrong = absurd (wrong refl)
        at_line (Some (address_line address)) wrong = refl
        at_line (Some (byte_line bytes)) wrong = refl
        at_line (Some end_line) wrong = refl

  -- an error with its parts
  made : (r : TxtRefusal) (line : ℕ) (reason : TxtReason) → r.line ≡ line → r.reason ≡ reason
      → ◌≡◌ {A = Option TxtRefusal} (Some (refusal_at line reason)) (Some r)
  made r line reason l w = ap Some (sym (λ i. record { line = l i; reason = w i }))

-- ---- the error of lines

begun-follow : (width : ℕ) (lines : List Line) → MayBegin width lines → Follow (2 ^ width) [] None lines
begun-follow width lines b = record { inside = b.inside; below = b.below; once = b.once }

follow-begun : (width : ℕ) (lines : List Line) → Follow (2 ^ width) [] None lines → MayBegin width lines
follow-begun width lines f = record { inside = f.inside; below = f.below; once = f.once }

members : (lines : List Line) → Same (passed [] (addresses_of lines)) (addresses_of lines)
members lines n = has-passed (addresses_of lines) [] n ∙ or_none (has_number (addresses_of lines) n)

-- the lines up to the end, and those after it
joined : (before : List Line) (blanks : ℕ) (more : List (Option Line))
    → good before ++ Some end_line ∷ (good (replicate blanks blank_line) ++ more) ≡ good (before ++ end_line ∷ replicate blanks blank_line) ++ more
joined [] blanks more = refl
joined (line ∷ before) blanks more = ap (λ (l : List (Option Line)). Some line ∷ l) (joined before blanks more)

-- what the walk finds is the error
error_to : (width : ℕ) (lines : List (Option Line)) (r : TxtRefusal) → Found (2 ^ width) 0 None [] lines r → IsErrorOf lines width r
error_to width lines r (inl f) = inl record {
  before = f.before;
  line = f.line;
  after = f.after;
  split = f.split;
  begun = follow-begun width f.before f.fine;
  number = f.number ∙ omega arith;
  wrong = same-line (2 ^ width) (passed [] (addresses_of f.before)) (addresses_of f.before) (members f.before)
      (address_after None f.before) f.line r.reason f.wrong;
}
error_to width lines r (inr (inl f)) = inr (inl record {
  before = f.before;
  blanks = f.end.blanks;
  line = f.end.line;
  after = f.end.after;
  split = f.split ∙ (ap (λ (l : List (Option Line)). good f.before ++ Some end_line ∷ l) f.end.split ∙ joined f.before f.end.blanks (f.end.line ∷ f.end.after));
  begun = follow-begun width f.before f.fine;
  number = f.end.number ∙ omega arith;
  wrong = f.end.wrong;
  reason = f.end.reason;
})
error_to width lines r (inr (inr f)) = inr (inr record {
  before = f.before;
  split = f.split;
  begun = follow-begun width f.before f.fine;
  number = f.number ∙ omega arith;
  reason = f.reason;
})

-- and the walk finds it
error_from : (width : ℕ) (lines : List (Option Line)) (r : TxtRefusal) → IsErrorOf lines width r
    → refusal_after (2 ^ width) 0 nothing_stated [] lines ≡ Some r
error_from width lines r (inl f) =
    let given : List ℕ = passed [] (addresses_of f.before) in
    let next : Option ℕ = address_after None f.before in
    ap (walk (2 ^ width) 0 None []) f.split
    ∙ (walk-over (2 ^ width) f.before 0 None [] (f.line ∷ f.after) (begun-follow width f.before f.begun)
    ∙ (walk-wrong (2 ^ width) (0 + length f.before) next given f.line f.after r.reason
    (same-line (2 ^ width) (addresses_of f.before) given (λ n. sym (members f.before n)) next f.line r.reason f.wrong)
    ∙ made (2 ^ width) r (suc (0 + length f.before)) r.reason (f.number ∙ omega arith) refl))
error_from width lines r (inr (inl f)) =
    let given : List ℕ = passed [] (addresses_of f.before) in
    let next : Option ℕ = address_after None f.before in
    let number = f.number in
    ap (walk (2 ^ width) 0 None []) (f.split ∙ sym (joined f.before f.blanks (f.line ∷ f.after)))
    ∙ (walk-over (2 ^ width) f.before 0 None [] (Some end_line ∷ (good (replicate f.blanks blank_line) ++ f.line ∷ f.after))
    (begun-follow width f.before f.begun)
    ∙ (walk-late (2 ^ width) f.blanks (suc (0 + length f.before)) next given f.line f.after f.wrong
    ∙ made (2 ^ width) r (suc (suc (0 + length f.before) + f.blanks)) AfterEnd (number ∙ omega arith) f.reason))
error_from width lines r (inr (inr f)) =
    let given : List ℕ = passed [] (addresses_of f.before) in
    ap (walk (2 ^ width) 0 None []) (f.split ∙ sym (end f.before))
    ∙ (walk-over (2 ^ width) f.before 0 None [] [] (begun-follow width f.before f.begun)
    ∙ made (2 ^ width) r (0 + length f.before) NoEnd (f.number ∙ omega arith) f.reason) where
      end : (before : List Line) → good before ++ [] ≡ good before
      end [] = refl
      end (line ∷ before) = ap (λ (l : List (Option Line)). Some line ∷ l) (end before)

pub refusal-to : (text : List ℕ) (width : ℕ) (r : TxtRefusal) → txt_refusal text width ≡ Some r → IsTxtError text width r
refusal-to text width r e = error_to width (map line_of (lines_of text)) r (find (2 ^ width) (map line_of (lines_of text)) 0 None [] r e)

pub refusal-from : (text : List ℕ) (width : ℕ) (r : TxtRefusal) → IsTxtError text width r → txt_refusal text width ≡ Some r
refusal-from text width r e = error_from width (map line_of (lines_of text)) r e
