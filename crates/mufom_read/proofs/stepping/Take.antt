-- Steps that are taken one after another.
use Rattle.std.proofs.Common.{◌≡◌, inl, inr, ℕ, zero, suc, ◌+◌, ◌-◌, Bool, true, false, true≢false, List, [], ◌∷◌, ◌++◌, length, drop, None, refl}
use Rattle.std.proofs.Common.{sym, ap, subst, ◌∙◌, arith, append-nil, append_assoc, length-drop, Ok, Err}
use Rattle.std.specs.Option.{option_or}
use Rattle.mufom_numbers.specs.declared.taken.Taken.TheVariants.{More}
use Rattle.mufom_read.specs.declared.refusal.ReadStop.TheVariants as stop
use Rattle.mufom_read.specs.declared.prefix.Prefix.{Prefix}
use Rattle.mufom_read.specs.declared.prefix.Next.TheVariants as next
use Rattle.mufom_read.specs.declared.refusal.ReadRefusal.{ReadRefusal}
use Rattle.mufom_judging.specs.Prefixes.{Step, step_bytes, size_of, is_ended, next_step}
use Rattle.mufom_judging.specs.Faults.{ended_part_fault, step_fault, fault_after}
use Rattle.mufom_judging.specs.Judging.{IsSoundFrom}
use Rattle.mufom_read.specs.PrefixOfCode.{IsPrefixOf, HasAdvanced}
use Rattle.mufom_read.specs.Reader.{HasTakenAll, HasGoneOn}
use Rattle.mufom_read.proofs.stepping.PrefixLaws.{size-append}
use Rattle.mufom_records.specs.declared.options.ReadOptions.{ReadOptions}

drop-none : (n : ℕ) → ◌≡◌ {A = List ℕ} [] (drop n [])
drop-none zero = refl
drop-none (suc n) = refl

pub drop-drop : (n m : ℕ) (xs : List ℕ) → drop m (drop n xs) ≡ drop (n + m) xs
drop-drop zero m xs = let same : m ≡ zero + m = omega arith in ap (λ k. drop k xs) same
drop-drop (suc n) zero [] = drop-none (suc n + zero)
drop-drop (suc n) (suc m) [] = drop-none (suc n + suc m)
drop-drop (suc n) m (x ∷ xs) = drop-drop n m xs ∙ ap (λ k. drop k (x ∷ xs)) more where
  more : suc (n + m) ≡ suc n + m
  more = omega arith

pub size-one : (s : Step) (steps : List Step) → size_of (s ∷ steps) ≡ length (step_bytes s) + size_of steps
size-one s steps = size-append (s ∷ []) steps ∙ ap (λ n. n + size_of steps) (ap length (append-nil (step_bytes s)))

-- sound steps, and sound steps after them
pub sound-append : (options : ReadOptions) (before steps more : List Step) (rest : List ℕ) → IsSoundFrom options before steps rest
    → IsSoundFrom options (before ++ steps) more (drop (size_of steps) rest) → IsSoundFrom options before (steps ++ more) rest
sound-append options before [] more rest sound after = subst (λ (prefix : List Step). IsSoundFrom options prefix more rest) (append-nil before) after
sound-append options before (s ∷ steps) more rest (unended, clean, got, sound) after =
    let here : IsSoundFrom options (before ++ s ∷ steps) more (drop (size_of steps) (drop (length (step_bytes s)) rest)) =
    subst (λ (r : List ℕ). IsSoundFrom options (before ++ s ∷ steps) more r) (ap (λ n. drop n rest) (size-one s steps)
    ∙ sym (drop-drop (length (step_bytes s)) (size_of steps) rest)) after in (
      unended,
      clean,
      got,
      sound-append options (before ++ s ∷ []) steps more (drop (length (step_bytes s)) rest) sound
          (subst (λ (prefix : List Step). IsSoundFrom options prefix more (drop (size_of steps) (drop (length (step_bytes s)) rest)))
          (sym (append_assoc before (s ∷ []) steps)) here),
    )

-- none yet
pub gone-none : (options : ReadOptions) (before : List Step) (rest : List ℕ) (f : Prefix) → IsPrefixOf f before
    → (is_ended before ≡ false → ended_part_fault before ≡ None) → HasGoneOn options before rest f 0
gone-none options before rest f is whole = record {
  steps = [];
  is = subst (λ (prefix : List Step). IsPrefixOf f prefix) (sym (append-nil before)) is;
  sound = tt;
  size = refl;
  within = omega arith;
  whole = subst (λ (prefix : List Step). is_ended prefix ≡ false → ended_part_fault prefix ≡ None) (sym (append-nil before)) whole;
}

-- and some more
pub gone-more : (options : ReadOptions) (before : List Step) (rest after : List ℕ) (f new : Prefix) (taken n : ℕ)
    → HasGoneOn options before rest f taken → after ≡ drop taken rest
    → ((prefix : List Step) → IsPrefixOf f prefix → is_ended prefix ≡ false → ended_part_fault prefix ≡ None
    → HasAdvanced options prefix after new (next.Took n))
    → ((prefix : List Step) → IsPrefixOf f prefix → is_ended prefix ≡ false) → HasGoneOn options before rest new (taken + n)
gone-more options before rest after f new taken n gone at step unended =
    let prefix = before ++ gone.steps in
    let open_ = unended prefix gone.is in
    let more = step prefix gone.is open_ (gone.whole open_) in
    let same : prefix ++ more.0 ≡ before ++ (gone.steps ++ more.0) = append_assoc before gone.steps more.0 in
    let left : length (drop taken rest) ≡ length rest - taken = length-drop taken rest in
    record {
      steps = gone.steps ++ more.0;
      is = subst (λ (fr : List Step). IsPrefixOf new fr) same more.1;
      sound = sound-append options before gone.steps more.0 rest gone.sound
          (subst (λ (r : List ℕ). IsSoundFrom options prefix more.0 r) (at ∙ ap (λ k. drop k rest) (sym gone.size)) more.2);
      size = size-append gone.steps more.0 ∙ ap (λ k. k + size_of more.0) gone.size ∙ ap (λ k. taken + k) more.3;
      within = omega (arith, gone.within, more.5, ap length at, left);
      whole = subst (λ (fr : List Step). is_ended fr ≡ false → ended_part_fault fr ≡ None) same more.6;
    }

-- the module has ended
pub all-ended : (options : ReadOptions) (before : List Step) (rest : List ℕ) (f : Prefix) (taken : ℕ) → HasGoneOn options before rest f taken
    → ((prefix : List Step) → IsPrefixOf f prefix → is_ended prefix ≡ true)
    → HasTakenAll options before rest f (Ok taken)
all-ended options before rest f taken gone ended = (gone.steps, gone.is, gone.sound, gone.size, gone.within, inl (ended (before ++ gone.steps) gone.is))

-- more bytes are needed
pub all-wanting : (options : ReadOptions) (before : List Step) (rest after : List ℕ) (f new : Prefix) (taken : ℕ)
    → HasGoneOn options before rest f taken → after ≡ drop taken rest
    → ((prefix : List Step) → IsPrefixOf f prefix → is_ended prefix ≡ false → ended_part_fault prefix ≡ None
    → HasAdvanced options prefix after new next.More)
    → ((prefix : List Step) → IsPrefixOf f prefix → is_ended prefix ≡ false) → HasTakenAll options before rest new (Ok taken)
all-wanting options before rest after f new taken gone at step unended =
    let prefix = before ++ gone.steps in
    let open_ = unended prefix gone.is in
    let more = step prefix gone.is open_ (gone.whole open_) in
    let here : next_step options prefix (drop taken rest) ≡ More = subst (λ (r : List ℕ). next_step options prefix r ≡ More) at more.1 in (
      gone.steps,
      more.0,
      gone.sound,
      gone.size,
      gone.within,
      inr (record {
        unended = open_;
        faultless = ap (λ o. option_or o (step_fault prefix (next_step options prefix (drop taken rest)))) (gone.whole open_) ∙ ap (step_fault prefix) here;
        wanting = here;
      }),
    )

-- there is an error
pub all-refused : (options : ReadOptions) (before : List Step) (rest after : List ℕ) (f new : Prefix) (taken : ℕ) (fault : ReadRefusal)
    → HasGoneOn options before rest f taken → after ≡ drop taken rest
    → ((prefix : List Step) → IsPrefixOf f prefix → is_ended prefix ≡ false → ended_part_fault prefix ≡ None
    → HasAdvanced options prefix after new (next.Refused fault))
    → ((prefix : List Step) → IsPrefixOf f prefix → is_ended prefix ≡ false) → HasTakenAll options before rest new (Err (stop.Refused fault))
all-refused options before rest after f new taken fault gone at step unended =
    let prefix = before ++ gone.steps in
    let open_ = unended prefix gone.is in
    let more = step prefix gone.is open_ (gone.whole open_) in
    let same : prefix ++ more.0 ≡ before ++ (gone.steps ++ more.0) = append_assoc before gone.steps more.0 in
    let offset : drop (size_of more.0) after ≡ drop (size_of (gone.steps ++ more.0)) rest =
    ap (drop (size_of more.0)) at ∙ drop-drop taken (size_of more.0) rest ∙ ap (λ k. drop (k + size_of more.0) rest) (sym gone.size)
    ∙ ap (λ k. drop k rest) (sym (size-append gone.steps more.0)) in (
      gone.steps ++ more.0,
      sound-append options before gone.steps more.0 rest gone.sound
          (subst (λ (r : List ℕ). IsSoundFrom options prefix more.0 r) (at ∙ ap (λ k. drop k rest) (sym gone.size)) more.1),
      subst (λ (fr : List Step). is_ended fr ≡ false) same more.2,
      ap (λ (fr : List Step). fault_after options fr (drop (size_of (gone.steps ++ more.0)) rest)) (sym same)
          ∙ ap (fault_after options (prefix ++ more.0)) (sym offset) ∙ more.3,
    )

-- what has not ended cannot have ended
pub never : {A : Type 0} (ended : Bool) → false ≡ ended → ended ≡ true → A
never ended no_end end = absurd (true≢false (sym end ∙ sym no_end))
