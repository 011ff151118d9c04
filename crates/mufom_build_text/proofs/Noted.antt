-- What is noted of a line, and whether it shows a missing piece.
use Rattle.std.proofs.Common.{◌≡◌, ℕ, ◌<◌, ◌≤◌, ◌^◌, ◌==◌, nat_le, nat_lt, Bool, true, false, Option, Some, None, MatchOption}
use Rattle.std.proofs.Common.{refl, sym, ap, ◌∙◌, arith, if◌then◌else◌, eqb-true}
use Rattle.std.specs.Str.Parse.{digits_value}
use Rattle.mufom_text.specs.Words.{Text}
use Rattle.mufom_build_text.specs.declared.cursor.LineError.{LineError}
use Rattle.mufom_refusals.specs.declared.build.BuildReason.{BuildReason}
use Rattle.mufom_refusals.specs.declared.build.BuildReason.TheVariants.{BadText, TooGreat}
use Rattle.mufom_build_text.specs.Errors.{error_at, first_error, noted, is_bad, limited, judged, stated_error}

-- ---- tests of numbers

pub le_true : (a b : ℕ) → nat_le a b ≡ true → a ≤ b
le_true a b h = grind arith

pub le_false : (a b : ℕ) → nat_le a b ≡ false → b < a
le_false a b h = grind arith

pub lt_yes : (a b : ℕ) → a < b → nat_lt a b ≡ true
lt_yes a b h = grind arith

pub lt_no : (a b : ℕ) → b ≤ a → nat_lt a b ≡ false
lt_no a b h = grind arith

pub le_yes : (a b : ℕ) → a ≤ b → nat_le a b ≡ true
le_yes a b h = grind arith

pub le_no : (a b : ℕ) → b < a → nat_le a b ≡ false
le_no a b h = grind arith

pub none_is : (n : ℕ) → (n == 0) ≡ true → n ≡ 0
none_is n h = grind arith

pub some_is : (n : ℕ) → (n == 0) ≡ false → 0 < n
some_is n h = grind arith

pub eq_no : (a b : ℕ) → a < b → (b == a) ≡ false
eq_no a b h = grind arith

-- ---- one error more

pub some_first_error : (e : Option LineError) (x : LineError) → first_error e x ≡ None → ⊥
some_first_error None x h = cc
some_first_error (Some f) x h = go (nat_le f.column x.column) h
  where
    go : (b : Bool) → (if b then Some f else Some x) ≡ None → ⊥
    go true h = cc
    go false h = cc

-- an error within the line hides no missing piece, and shows none
pub same_bad : (e : Option LineError) (column : ℕ) (reason : BuildReason) → 0 < column → is_bad (first_error e (error_at column reason)) ≡ is_bad e
same_bad None column reason some = eq_no 0 column some
same_bad (Some f) column reason some = go (nat_le f.column column) refl
  where
    go : (b : Bool) → nat_le f.column column ≡ b → is_bad (if b then Some f else Some (error_at column reason)) ≡ is_bad (Some f)
    go true h = refl
    go false h = let great : column < f.column = le_false f.column column h in
        eq_no 0 column some ∙ sym (eq_no 0 f.column (omega (arith, great, some)))

-- a missing piece is not hidden
pub bad_stays : (e : Option LineError) → is_bad (first_error e (error_at 0 BadText)) ≡ true
bad_stays None = refl
bad_stays (Some f) = go (nat_le f.column 0) refl
  where
    zero_is : (n : ℕ) → n ≤ 0 → (n == 0) ≡ true
    zero_is n h = grind arith

    go : (b : Bool) → nat_le f.column 0 ≡ b → is_bad (if b then Some f else Some (error_at 0 BadText)) ≡ true
    go true h = zero_is f.column (le_true f.column 0 h)
    go false h = refl

pub noted_bad : (e : Option LineError) (column : ℕ) (error : Option BuildReason) → 0 < column → is_bad (noted e column error) ≡ is_bad e
noted_bad e column None some = refl
noted_bad e column (Some reason) some = same_bad e column reason some

pub noted_right : (e : Option LineError) (column : ℕ) (error : Option BuildReason) → noted e column error ≡ None → (e ≡ None) × (error ≡ None)
noted_right e column None h = (h, refl)
noted_right e column (Some reason) h = absurd (some_first_error e (error_at column reason) h)

-- ---- what is noted of a number

-- the number of digits, where 64 bits hold it
abbrev pub IsStated : Option ℕ → ℕ → Type 0
IsStated stated value = MatchOption stated (2 ^ 64 ≤ value) (λ n. value ≡ n)

pub limited_is : (e : Option LineError) (column most : ℕ) (stated : Option ℕ) (value : ℕ) → most < 2 ^ 64 → IsStated stated value
    → limited e column stated most ≡ noted e column (if nat_lt most value then Some TooGreat else None)
limited_is e column most None value small great =
    ap (λ (b : Bool). noted e column (if b then Some TooGreat else None)) (sym (lt_yes most value (omega (arith, small, great))))
limited_is e column most (Some n) value small is = go (nat_le n most) refl
  where
    go : (b : Bool) → nat_le n most ≡ b → (if b then e else first_error e (error_at column TooGreat))
        ≡ noted e column (if nat_lt most value then Some TooGreat else None)
    go true h = let below : n ≤ most = le_true n most h in
        ap (λ (b : Bool). noted e column (if b then Some TooGreat else None)) (sym (lt_no most value (omega (arith, below, is))))
    go false h = let above : most < n = le_false n most h in
        ap (λ (b : Bool). noted e column (if b then Some TooGreat else None)) (sym (lt_yes most value (omega (arith, above, is))))

pub judged_is : (e : Option LineError) (column most right : ℕ) (reason : BuildReason) (stated : Option ℕ) (text : Text) → most < 2 ^ 64
    → IsStated stated (digits_value 10 text) → judged e column stated most right reason ≡ noted e column (stated_error most right reason text)
judged_is e column most right reason None text small great =
    ap (λ (b : Bool). noted e column (if b then Some TooGreat else if digits_value 10 text == right then None else Some reason))
    (sym (lt_yes most (digits_value 10 text) (omega (arith, small, great))))
judged_is e column most right reason (Some n) text small is = go (nat_le n most) refl
  where
    same : (b : Bool) → (if b then e else first_error e (error_at column reason)) ≡ noted e column (if b then None else Some reason)
    same true = refl
    same false = refl

    go : (b : Bool) → nat_le n most ≡ b
        → (if b then (if n == right then e else first_error e (error_at column reason)) else first_error e (error_at column TooGreat))
        ≡ noted e column (stated_error most right reason text)
    go true h = let below : n ≤ most = le_true n most h in
        same (n == right) ∙ ap (λ k. noted e column (if k == right then None else Some reason)) (sym is)
        ∙ ap (λ (b : Bool). noted e column (if b then Some TooGreat else if digits_value 10 text == right then None else Some reason))
        (sym (lt_no most (digits_value 10 text) (omega (arith, below, is))))
    go false h = let above : most < n = le_false n most h in
        ap (λ (b : Bool). noted e column (if b then Some TooGreat else if digits_value 10 text == right then None else Some reason))
        (sym (lt_yes most (digits_value 10 text) (omega (arith, above, is))))

pub limited_small : (e : Option LineError) (column n most : ℕ) → n ≤ most → limited e column (Some n) most ≡ e
limited_small e column n most small =
    ap (λ (b : Bool). if b then e else first_error e (error_at column TooGreat)) (le_yes n most small)

pub limited_great : (e : Option LineError) (column n most : ℕ) → most < n → limited e column (Some n) most ≡ first_error e (error_at column TooGreat)
limited_great e column n most great =
    ap (λ (b : Bool). if b then e else first_error e (error_at column TooGreat)) (le_no n most great)

pub limited_bad : (e : Option LineError) (column : ℕ) (stated : Option ℕ) (most : ℕ) → 0 < column → is_bad (limited e column stated most) ≡ is_bad e
limited_bad e column None most some = same_bad e column TooGreat some
limited_bad e column (Some n) most some = go (nat_le n most)
  where
    go : (b : Bool) → is_bad (if b then e else first_error e (error_at column TooGreat)) ≡ is_bad e
    go true = refl
    go false = same_bad e column TooGreat some

pub limited_right : (e : Option LineError) (column : ℕ) (stated : Option ℕ) (most : ℕ) → limited e column stated most ≡ None → e ≡ None
limited_right e column None most h = absurd (some_first_error e (error_at column TooGreat) h)
limited_right e column (Some n) most h = go (nat_le n most) h
  where
    go : (b : Bool) → (if b then e else first_error e (error_at column TooGreat)) ≡ None → e ≡ None
    go true h = h
    go false h = absurd (some_first_error e (error_at column TooGreat) h)

pub judged_bad : (e : Option LineError) (column : ℕ) (stated : Option ℕ) (most right : ℕ) (reason : BuildReason) → 0 < column
    → is_bad (judged e column stated most right reason) ≡ is_bad e
judged_bad e column None most right reason some = same_bad e column TooGreat some
judged_bad e column (Some n) most right reason some = go (nat_le n most) (n == right)
  where
    go : (b c : Bool) → is_bad (if b then (if c then e else first_error e (error_at column reason)) else first_error e (error_at column TooGreat))
        ≡ is_bad e
    go true true = refl
    go true false = same_bad e column reason some
    go false c = same_bad e column TooGreat some

pub judged_right : (e : Option LineError) (column : ℕ) (stated : Option ℕ) (most right : ℕ) (reason : BuildReason)
    → judged e column stated most right reason ≡ None → e ≡ None
judged_right e column None most right reason h = absurd (some_first_error e (error_at column TooGreat) h)
judged_right e column (Some n) most right reason h = go (nat_le n most) (n == right) h
  where
    go : (b c : Bool) → (if b then (if c then e else first_error e (error_at column reason)) else first_error e (error_at column TooGreat)) ≡ None
        → e ≡ None
    go true true h = h
    go true false h = absurd (some_first_error e (error_at column reason) h)
    go false c h = absurd (some_first_error e (error_at column TooGreat) h)

-- where nothing is wrong with a number that is stated, it is the right one
pub stated_right : (most right : ℕ) (reason : BuildReason) (text : Text) → stated_error most right reason text ≡ None → digits_value 10 text ≡ right
stated_right most right reason text h = go (nat_lt most (digits_value 10 text)) (digits_value 10 text == right) (eqb-true (digits_value 10 text) right) h
  where
    go : (b c : Bool) → (c ≡ true → digits_value 10 text ≡ right) → (if b then Some TooGreat else if c then None else Some reason) ≡ None
        → digits_value 10 text ≡ right
    go true c is h = absurd (let k : Some TooGreat ≡ None = h in cc)
    go false true is h = is refl
    go false false is h = absurd (let k : Some reason ≡ None = h in cc)
