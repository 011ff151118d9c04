-- The verdicts on one file: it has one, and one with modules is the same within each limit that the file keeps.
use Rattle.std.proofs.Common.{◌≡◌, ℕ, ◌≤◌, Bool, true, false, ◌||◌, if◌then◌else◌, List, [], ◌∷◌, length, take}
use Rattle.std.proofs.Common.{Option, Some, None, refl, sym, ap, subst, ◌∙◌, inl, inr, arith}
use Rattle.std.proofs.lemmas.List.{take_all}
use Rattle.mufom_numbers.specs.Spelling.{AreBytes}
use Rattle.mufom_numbers.proofs.SpellingLaws.{AreBytes-take}
use Rattle.mufom_records.specs.declared.options.ReadOptions.{ReadOptions}
use Rattle.mufom_numbers.specs.declared.reason.Reason.{Reason}
use Rattle.mufom_module.specs.declared.module.Parts.{Parts}
use Rattle.mufom_read.specs.declared.refusal.ReadRefusal.{ReadRefusal}
use Rattle.mufom_judging.specs.Judging.{IsJudged, IsModule, module_of, refusal}
use Rattle.mufom_judging.specs.Laws.{HasOneJudgment}
use Rattle.mufom_judging.specs.Limited.{IsPastLimit, IsRefusedWithin}
use Rattle.mufom_archive.specs.Entries.{lacks_header}
use Rattle.mufom_archive.specs.Listings.{lacks_long_name}
use Rattle.mufom_members.specs.Files.{IsPlainVerdict, IsVerdict, Verdict, accepted, bad_archive, past_limit, refused, verdict_on_prefix}
use Rattle.mufom_members.proofs.OneVerdict.{one_verdict as one_members_verdict}
use Rattle.mufom_task.specs.Inputs.{HasFileModules, IsFilePast, IsFileRefused, IsFileVerdict}

-- ---- the same modules within another limit

plain-within : (options : ReadOptions) (limit other : ℕ) (bytes : List ℕ) (names : Option (List (List ℕ))) (ms : List Parts)
    → IsPlainVerdict options limit bytes (accepted names ms) → length bytes ≤ other → IsPlainVerdict options other bytes (accepted names ms)
plain-within options limit other bytes None [] is fits = absurd is
plain-within options limit other bytes None (m ∷ []) is fits = (is.0, fits)
plain-within options limit other bytes None (m ∷ n ∷ ms) is fits = absurd is
plain-within options limit other bytes (Some names) ms is fits = absurd is

plain-fits : (options : ReadOptions) (limit : ℕ) (bytes : List ℕ) (names : Option (List (List ℕ))) (ms : List Parts)
    → IsPlainVerdict options limit bytes (accepted names ms) → length bytes ≤ limit
plain-fits options limit bytes None [] is = absurd is
plain-fits options limit bytes None (m ∷ []) is = is.1
plain-fits options limit bytes None (m ∷ n ∷ ms) is = absurd is
plain-fits options limit bytes (Some names) ms is = absurd is

-- a file whose first bytes alone may be read has no modules
pub never-prefix : (bytes : List ℕ) (names : Option (List (List ℕ))) (ms : List Parts) (first : Verdict) → accepted names ms ≡ verdict_on_prefix bytes first → ⊥
never-prefix bytes names ms (accepted others more) same = cc
never-prefix bytes names ms (refused offset reason) same = cc
never-prefix bytes names ms past_limit same = cc
never-prefix bytes names ms (bad_archive offset) same =
    by_test (lacks_header bytes offset || lacks_long_name bytes offset) same where
      by_test : (b : Bool) → accepted names ms ≡ (if b then bad_archive offset else past_limit) → ⊥
      by_test true is = cc
      by_test false is = cc

members-within : (options : ReadOptions) (limit other : ℕ) (bytes : List ℕ) (names : Option (List (List ℕ))) (ms : List Parts)
    → IsVerdict options limit bytes (accepted names ms) → length bytes ≤ other → IsVerdict options other bytes (accepted names ms)
members-within options limit other bytes names ms (inl (begins, inl is)) fits = inl (begins, inl (fits, is.1))
members-within options limit other bytes names ms (inl (begins, inr (many, (first, whole, same)))) fits =
    absurd (never-prefix (take limit bytes) names ms first same)
members-within options limit other bytes names ms (inr is) fits = inr (is.0, plain-within options limit other bytes names ms is.1 fits)

members-fits : (options : ReadOptions) (limit : ℕ) (bytes : List ℕ) (names : Option (List (List ℕ))) (ms : List Parts)
    → IsVerdict options limit bytes (accepted names ms) → length bytes ≤ limit
members-fits options limit bytes names ms (inl (begins, inl is)) = is.0
members-fits options limit bytes names ms (inl (begins, inr (many, (first, whole, same)))) = absurd (never-prefix (take limit bytes) names ms first same)
members-fits options limit bytes names ms (inr is) = plain-fits options limit bytes names ms is.1

pub verdict-within : (options : ReadOptions) (root : Bool) (limit other : ℕ) (bytes : List ℕ) (names : Option (List (List ℕ))) (ms : List Parts)
    → IsFileVerdict options root limit bytes (accepted names ms) → length bytes ≤ other → IsFileVerdict options root other bytes (accepted names ms)
verdict-within options true = plain-within options
verdict-within options false = members-within options

pub verdict-fits : (options : ReadOptions) (root : Bool) (limit : ℕ) (bytes : List ℕ) (names : Option (List (List ℕ))) (ms : List Parts)
    → IsFileVerdict options root limit bytes (accepted names ms) → length bytes ≤ limit
verdict-fits options true = plain-fits options
verdict-fits options false = members-fits options

-- the modules of a file that was read within a limit
pub modules-of : (options : ReadOptions) (root : Bool) (limit : ℕ) (bytes : List ℕ) (names : Option (List (List ℕ))) (ms : List Parts)
    → IsFileVerdict options root limit bytes (accepted names ms) → HasFileModules options root bytes ms
modules-of options root limit bytes names ms is =
    (names, verdict-within options root limit (length bytes) bytes names ms is (let own : length bytes ≤ length bytes = omega arith in own))

-- ---- one verdict

module _ (options : ReadOptions) (judged : HasOneJudgment) (bytes : List ℕ) (fits : AreBytes bytes) where
  -- what is refused within a limit is a refusal of the given number of its first bytes
  judged_within : (limit : ℕ) (place : ℕ) (reason : Reason) → IsRefusedWithin options limit bytes place reason
      → IsJudged options (take limit bytes) (refusal place reason)
  judged_within limit place reason (inl prefix) = inl prefix
  judged_within limit place reason (inr (few, whole)) =
      subst (λ (l : List ℕ). IsJudged options l (refusal place reason)) (sym (take_all limit bytes few)) whole

  module_within : (limit : ℕ) (m : Parts) → IsModule options bytes m → length bytes ≤ limit → IsJudged options (take limit bytes) (module_of m)
  module_within limit m is few = subst (λ (l : List ℕ). IsJudged options l (module_of m)) (sym (take_all limit bytes few)) is

  -- a verdict on a file that is not an archive is one on its first bytes, or it has more than it may have
  data IsPlain (limit : ℕ) : Verdict → Type 0 where
    of_module : (m : Parts) → IsJudged options (take limit bytes) (module_of m) → length bytes ≤ limit → IsPlain limit (accepted None (m ∷ []))
    of_refusal : (place : ℕ) (reason : Reason) → IsRefusedWithin options limit bytes place reason → IsPlain limit (refused place reason)
    of_past : IsPastLimit options limit bytes → IsPlain limit past_limit

  plain_of : (limit : ℕ) (v : Verdict) → IsPlainVerdict options limit bytes v → IsPlain limit v
  plain_of limit (accepted None []) is = absurd is
  plain_of limit (accepted None (m ∷ [])) is = of_module m (module_within limit m is.0 is.1) is.1
  plain_of limit (accepted None (m ∷ n ∷ ms)) is = absurd is
  plain_of limit (accepted (Some names) ms) is = absurd is
  plain_of limit (refused place reason) is = of_refusal place reason is
  plain_of limit (bad_archive place) is = absurd is
  plain_of limit past_limit is = of_past is

  never_refused_past : (limit place : ℕ) (reason : Reason) → IsRefusedWithin options limit bytes place reason → IsPastLimit options limit bytes → ⊥
  never_refused_past limit place reason (inl prefix) past = past.1 place reason prefix
  never_refused_past limit place reason (inr whole) past = let few = whole.0 in let more = past.0 in omega (arith, few, more)

  never_module_past : (limit : ℕ) → length bytes ≤ limit → IsPastLimit options limit bytes → ⊥
  never_module_past limit few past = let more = past.0 in omega (arith, few, more)

  never_module_refused : (limit place : ℕ) (reason : Reason) (m : Parts) → IsJudged options (take limit bytes) (module_of m)
      → IsRefusedWithin options limit bytes place reason → ⊥
  never_module_refused limit place reason m is refused_is =
      let same : module_of m ≡ refusal place reason = judged options (take limit bytes) (module_of m) (refusal place reason)
      (AreBytes-take limit bytes fits) is (judged_within limit place reason refused_is) in cc

  both_plain : (limit : ℕ) (a b : Verdict) → IsPlain limit a → IsPlain limit b → a ≡ b
  both_plain limit _ _ (of_module m is few) (of_module n other _) =
      let same : module_of m ≡ module_of n = judged options (take limit bytes) (module_of m) (module_of n) (AreBytes-take limit bytes fits) is other in
      let modules : m ≡ n = cc in ap (λ (p : Parts). accepted None (p ∷ [])) modules
  both_plain limit _ _ (of_module m is few) (of_refusal place reason other) = absurd (never_module_refused limit place reason m is other)
  both_plain limit _ _ (of_module m is few) (of_past past) = absurd (never_module_past limit few past)
  both_plain limit _ _ (of_refusal place reason is) (of_module n other _) = absurd (never_module_refused limit place reason n other is)
  both_plain limit _ _ (of_refusal place reason is) (of_refusal second why other) =
      let same : refusal place reason ≡ refusal second why = judged options (take limit bytes) (refusal place reason) (refusal second why)
      (AreBytes-take limit bytes fits) (judged_within limit place reason is) (judged_within limit second why other) in
      let places : place ≡ second = cc in
      let reasons : reason ≡ why = cc in (λ i. refused (places i) (reasons i))
  both_plain limit _ _ (of_refusal place reason is) (of_past past) = absurd (never_refused_past limit place reason is past)
  both_plain limit _ _ (of_past past) (of_module n other few) = absurd (never_module_past limit few past)
  both_plain limit _ _ (of_past past) (of_refusal place reason is) = absurd (never_refused_past limit place reason is past)
  both_plain limit _ _ (of_past past) (of_past other) = refl

  pub one_file : (root : Bool) (limit : ℕ) (a b : Verdict) → IsFileVerdict options root limit bytes a → IsFileVerdict options root limit bytes b → a ≡ b
  one_file true limit a b is other = both_plain limit a b (plain_of limit a is) (plain_of limit b other)
  one_file false limit a b is other = one_members_verdict options limit bytes a b fits is other

  -- ---- what follows from it

  pub same_modules_of : (root : Bool) (ms ns : List Parts) → HasFileModules options root bytes ms → HasFileModules options root bytes ns → ms ≡ ns
  same_modules_of root ms ns (names, is) (others, other) =
      let same : accepted names ms ≡ accepted others ns = one_file root (length bytes) (accepted names ms) (accepted others ns) is other in cc

  pub refused_not_accepted : (root : Bool) (limit : ℕ) (ms : List Parts) (r : ReadRefusal) → HasFileModules options root bytes ms → length bytes ≤ limit
      → IsFileRefused options root limit bytes r → ⊥
  refused_not_accepted root limit ms r (names, is) few (inl wrong) =
      let same : accepted names ms ≡ refused r.offset r.reason = one_file root limit (accepted names ms) (refused r.offset r.reason)
      (verdict-within options root (length bytes) limit bytes names ms is few) wrong in cc
  refused_not_accepted root limit ms r (names, is) few (inr (reason, wrong)) =
      let same : accepted names ms ≡ bad_archive r.offset = one_file root limit (accepted names ms) (bad_archive r.offset)
      (verdict-within options root (length bytes) limit bytes names ms is few) wrong in cc

  pub past_not_accepted : (root : Bool) (limit : ℕ) (ms : List Parts) → HasFileModules options root bytes ms → length bytes ≤ limit
      → IsFilePast options root limit bytes → ⊥
  past_not_accepted root limit ms (names, is) few wrong =
      let same : accepted names ms ≡ past_limit = one_file root limit (accepted names ms) past_limit
      (verdict-within options root (length bytes) limit bytes names ms is few) wrong in cc

  pub refused_not_past : (root : Bool) (limit : ℕ) (r : ReadRefusal) → IsFileRefused options root limit bytes r → IsFilePast options root limit bytes → ⊥
  refused_not_past root limit r (inl wrong) past =
      let same : refused r.offset r.reason ≡ past_limit = one_file root limit (refused r.offset r.reason) past_limit wrong past in cc
  refused_not_past root limit r (inr (reason, wrong)) past =
      let same : bad_archive r.offset ≡ past_limit = one_file root limit (bad_archive r.offset) past_limit wrong past in cc

  pub one_refused : (root : Bool) (limit : ℕ) (r q : ReadRefusal) → IsFileRefused options root limit bytes r → IsFileRefused options root limit bytes q → r ≡ q
  one_refused root limit r q (inl is) (inl other) =
      let same : refused r.offset r.reason ≡ refused q.offset q.reason = one_file root limit (refused r.offset r.reason) (refused q.offset q.reason) is other in
      let offset : r.offset ≡ q.offset = cc in
      let reason : r.reason ≡ q.reason = cc in (λ i. record { offset = offset i; reason = reason i })
  one_refused root limit r q (inl is) (inr (why, other)) =
      let same : refused r.offset r.reason ≡ bad_archive q.offset = one_file root limit (refused r.offset r.reason) (bad_archive q.offset) is other in
      absurd (cc)
  one_refused root limit r q (inr (why, is)) (inl other) =
      let same : bad_archive r.offset ≡ refused q.offset q.reason = one_file root limit (bad_archive r.offset) (refused q.offset q.reason) is other in
      absurd (cc)
  one_refused root limit r q (inr (why, is)) (inr (because, other)) =
      let same : bad_archive r.offset ≡ bad_archive q.offset = one_file root limit (bad_archive r.offset) (bad_archive q.offset) is other in
      let offset : r.offset ≡ q.offset = cc in
      (λ i. record { offset = offset i; reason = (why ∙ sym because) i })
