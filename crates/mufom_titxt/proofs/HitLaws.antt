-- The line at which an address gets its second byte.
use Rattle.std.proofs.Common.{◌≡◌, ℕ, zero, suc, ◌+◌, ◌-◌, ◌^◌, ◌<◌, ◌≤◌, List, [], ◌∷◌, ◌++◌, map, Option, Some, None, IsSome, is_some, Bool, true}
use Rattle.std.proofs.Common.{false, refl, sym, ◌∙◌, ap, arith}
use Rattle.std.specs.Prelude.{◌==◌, min, nat_lt, if◌then◌else◌}
use Rattle.mufom_meaning.specs.AddressMap.{Cell}
use Rattle.mufom_refusals.specs.declared.text.TxtReason.{TxtReason}
use Rattle.mufom_titxt.specs.Lines.{lines_of, line_of}
use Rattle.mufom_titxt.specs.Scans.{lines_later}
use Rattle.mufom_titxt.specs.Texts.{SoFar, so_far}
use Rattle.mufom_titxt.specs.Reading.{Place, line_read, line_stop, unless, places_read, places_at, is_watched, hits_after, second_line}

-- the count does not fall
pub hits_rise : (watched : Option ℕ) (hits : ℕ) (cells : List Cell) → hits ≤ 2 ^ 32 - 1 → hits ≤ hits_after watched hits cells
hits_rise watched hits [] most = omega arith
hits_rise watched hits (cell ∷ cells) most =
    by_case (hits_rise watched hits cells most) (hits_rise watched (min (hits + 1) (2 ^ 32 - 1)) cells (omega arith)) (is_watched watched cell.0) where
      by_case : hits ≤ hits_after watched hits cells → min (hits + 1) (2 ^ 32 - 1) ≤ hits_after watched (min (hits + 1) (2 ^ 32 - 1)) cells
          → (b : Bool) → hits ≤ hits_after watched (if b then min (hits + 1) (2 ^ 32 - 1) else hits) cells
      by_case same more true = omega (arith, more, most)
      by_case same more false = same

-- a number above 1
above_one : (n : ℕ) → 2 ≤ n → nat_lt 1 n ≡ true
above_one n h = grind (arith, h)

-- the places of a line, before others
pub second_line-places : (a n : ℕ) (cells : List Cell) (more : List Place) (hits : ℕ) → hits ≤ 1
    → second_line a hits (places_at n cells ++ more)
    ≡ (if nat_lt 1 (hits_after (Some a) hits cells) then n else second_line a (hits_after (Some a) hits cells) more)
second_line-places a n [] more zero low = refl
second_line-places a n [] more (suc zero) low = refl
second_line-places a n [] more (suc (suc hits)) low = absurd (omega (arith, low))
second_line-places a n (cell ∷ cells) more (suc (suc hits)) low = absurd (omega (arith, low))
second_line-places a n (cell ∷ cells) more zero low =
    by_case (second_line-places a n cells more 0 (omega arith)) (second_line-places a n cells more 1 (omega arith)) (a == cell.0) where
      by_case : second_line a 0 (places_at n cells ++ more) ≡ (if nat_lt 1 (hits_after (Some a) 0 cells) then n
          else second_line a (hits_after (Some a) 0 cells) more)
          → second_line a 1 (places_at n cells ++ more) ≡ (if nat_lt 1 (hits_after (Some a) 1 cells) then n
          else second_line a (hits_after (Some a) 1 cells) more)
          → (b : Bool) → (if b then (if nat_lt 0 0 then n else second_line a 1 (places_at n cells ++ more)) else second_line a 0 (places_at n cells ++ more))
          ≡ (if nat_lt 1 (hits_after (Some a) (if b then min (0 + 1) (2 ^ 32 - 1) else 0) cells) then n
          else second_line a (hits_after (Some a) (if b then min (0 + 1) (2 ^ 32 - 1) else 0) cells) more)
      by_case same once true = once
      by_case same once false = same
second_line-places a n (cell ∷ cells) more (suc zero) low =
    by_case (second_line-places a n cells more 1 (omega arith)) (above_one (hits_after (Some a) 2 cells) (hits_rise (Some a) 2 cells (omega arith)))
    (a == cell.0) where
      by_case : second_line a 1 (places_at n cells ++ more) ≡ (if nat_lt 1 (hits_after (Some a) 1 cells) then n
          else second_line a (hits_after (Some a) 1 cells) more)
          → nat_lt 1 (hits_after (Some a) 2 cells) ≡ true
          → (b : Bool) → (if b then (if nat_lt 0 1 then n else second_line a 1 (places_at n cells ++ more)) else second_line a 1 (places_at n cells ++ more))
          ≡ (if nat_lt 1 (hits_after (Some a) (if b then min (1 + 1) (2 ^ 32 - 1) else 1) cells) then n
          else second_line a (hits_after (Some a) (if b then min (1 + 1) (2 ^ 32 - 1) else 1) cells) more)
      by_case same twice true = rw twice refl
      by_case same twice false = same

module _ (a count n all : ℕ) (s : SoFar) (stop : Option TxtReason) (places : List Place) where
  -- it gets its second byte there
  second_line-here : 1 < n → (if nat_lt 1 n then suc count else second_line a n (unless stop places)) ≡ all → suc count ≡ all
  second_line-here more e = sym (ap (λ b. if b then suc count else second_line a n (unless stop places)) (above_one n more)) ∙ e

  -- nothing more is read
  second_line-stopped : n ≤ 1 → IsSome stop → (if nat_lt 1 n then suc count else second_line a n (unless stop places)) ≡ all → 0 ≡ all
  second_line-stopped few some e =
      let low : nat_lt 1 n ≡ false = grind (arith, few) in
      by_stop stop some (sym (ap (λ b. if b then suc count else second_line a n (unless stop places)) low) ∙ e) where
        by_stop : (o : Option TxtReason) → IsSome o → second_line a n (unless o places) ≡ all → 0 ≡ all
        by_stop None some e = absurd (cc some)
        by_stop (Some reason) some e = e

  -- more is read
  second_line-more : n ≤ 1 → None ≡ stop → (if nat_lt 1 n then suc count else second_line a n (unless stop places)) ≡ all → second_line a n places ≡ all
  second_line-more few none e =
      let low : nat_lt 1 n ≡ false = grind (arith, few) in
      ap (λ o. second_line a n (unless o places)) none ∙ (sym (ap (λ b. if b then suc count else second_line a n (unless stop places)) low) ∙ e)

-- a line more: it gets its second byte there, or nothing more is read, or more is read
pub second_line-line : (a modulus count : ℕ) (s : SoFar) (left : Option (List ℕ)) (text line : List ℕ) (rest : Option (List ℕ)) (watched : Option ℕ)
    (hits n all : ℕ)
    → left ≡ Some text → lines_of text ≡ line ∷ lines_later rest → hits ≤ 1 → watched ≡ Some a
    → n ≡ hits_after watched hits (line_read modulus s (line_of line))
    → second_line a hits (places_read modulus count s (map line_of (lines_later left))) ≡ all
    → (1 < n → suc count ≡ all)
    × (n ≤ 1 → IsSome (line_stop modulus s (line_of line)) → 0 ≡ all)
    × (n ≤ 1 → None ≡ line_stop modulus s (line_of line)
    → second_line a n (places_read modulus (suc count) (so_far s (line_of line)) (map line_of (lines_later rest))) ≡ all)
second_line-line a modulus count s left text line rest watched hits n all is-left cut low is-watched counted found =
    let cells : List Cell = line_read modulus s (line_of line) in
    let stop : Option TxtReason = line_stop modulus s (line_of line) in
    let places : List Place = places_read modulus (suc count) (so_far s (line_of line)) (map line_of (lines_later rest)) in
    let same : n ≡ hits_after (Some a) hits cells = counted ∙ ap (λ w. hits_after w hits cells) is-watched in
    let here : (if nat_lt 1 n then suc count else second_line a n (unless stop places)) ≡ all
    = ap (λ k. if nat_lt 1 k then suc count else second_line a k (unless stop places)) same
    ∙ (sym (second_line-places a (suc count) cells (unless stop places) hits low)
    ∙ (sym (ap (λ lines. second_line a hits (places_read modulus count s (map line_of lines))) (ap lines_later is-left ∙ cut)) ∙ found)) in (
      λ more. second_line-here a count n all s stop places more here,
      λ few some. second_line-stopped a count n all s stop places few some here,
      λ few none. second_line-more a count n all s stop places few none here,
    )

-- what is not an error
pub none_of : (o : Option TxtReason) → is_some o ≡ false → o ≡ None
none_of None e = refl
none_of (Some reason) e = absurd (cc e)
