-- No file has two verdicts.
use Rattle.std.proofs.Common.{◌≡◌, ◌⊎◌, inl, inr, ℕ, ◌+◌, ◌<◌, ◌≤◌, ◌∙◌, sym, ap, refl, List}
use Rattle.std.proofs.Common.{[], ◌∷◌, ◌++◌, ◌-◌, length, take, drop, map, Option, Some, None, subst, arith}
use Rattle.std.proofs.lemmas.List.{take_all}
use Rattle.mufom_numbers.specs.declared.reason.Reason.{Reason}
use Rattle.mufom_numbers.specs.Spelling.{AreBytes}
use Rattle.mufom_records.specs.declared.options.ReadOptions.{ReadOptions}
use Rattle.mufom_module.specs.declared.module.Parts.{Parts}
use Rattle.mufom_archive.specs.declared.listing.BadArchive.{BadArchive}
use Rattle.mufom_archive.specs.Listings.{IsListing, Member}
use Rattle.mufom_archive.proofs.ListingLaws.{one_listing}
use Rattle.mufom_judging.specs.Judging.{IsJudged, IsModule, IsRefusedAt, Judgment, module_of, refusal}
use Rattle.mufom_judging.specs.Limited.{IsUnrefused}
use Rattle.mufom_judging.proofs.judged.PrefixJudged.{has_one_judgment}
use Rattle.mufom_judging.proofs.judged.PrefixesOne.{refusal_is_single}
use Rattle.mufom_judging.proofs.judged.Stays.{AreBytes-drop, AreBytes-take}
use Rattle.mufom_judging.proofs.spelled.Judged.{judgments_exclude_each_other}
use Rattle.mufom_members.specs.Files.{AreModulesOf, IsArchiveVerdict, IsFirstRefused, IsPlainVerdict, IsVerdictWithin, Verdict, accepted}
use Rattle.mufom_members.specs.Files.{bad_archive, contents_at, past_limit, refused, verdict_on_prefix}
use Rattle.mufom_members.specs.Laws.{HaveOneVerdict}
use Rattle.mufom_members.proofs.Gathering.{le_or_above}

-- ---- files that are not archives

module _ (options : ReadOptions) (limit : ℕ) (bytes : List ℕ) (fits : AreBytes bytes) where
  abbrev verdict_of : Judgment → Verdict
  verdict_of (module_of m) = accepted None (m ∷ [])
  verdict_of (refusal offset reason) = refused offset reason

  abbrev IsOf : Verdict → Type 0
  IsOf v = (j : Judgment) × IsJudged options bytes j × (v ≡ verdict_of j)

  judged_of : length bytes ≤ limit → (v : Verdict) → IsPlainVerdict options limit bytes v → IsOf v
  judged_of few (accepted None []) is = absurd is
  judged_of few (accepted None (m ∷ [])) is = (module_of m, is.0, refl)
  judged_of few (accepted None (m ∷ n ∷ ms)) is = absurd is
  judged_of few (accepted (Some names) ms) is = absurd is
  judged_of few (refused offset reason) (inl is) =
      (refusal offset reason, inl (subst (λ l. IsRefusedAt options l offset reason) (take_all limit bytes few) is), refl)
  judged_of few (refused offset reason) (inr is) = (refusal offset reason, is.1, refl)
  judged_of few (bad_archive offset) is = absurd is
  judged_of few past_limit is = absurd (let many = is.0 in omega (arith, few, many))

  abbrev IsCut : Verdict → Type 0
  IsCut v = ((offset : ℕ) × (reason : Reason) × IsRefusedAt options (take limit bytes) offset reason × (v ≡ refused offset reason))
      ⊎ (IsUnrefused options (take limit bytes) × (v ≡ past_limit))

  cut_of : limit < length bytes → (v : Verdict) → IsPlainVerdict options limit bytes v → IsCut v
  cut_of many (accepted None []) is = absurd is
  cut_of many (accepted None (m ∷ [])) is = absurd (let few = is.1 in omega (arith, few, many))
  cut_of many (accepted None (m ∷ n ∷ ms)) is = absurd is
  cut_of many (accepted (Some names) ms) is = absurd is
  cut_of many (refused offset reason) (inl is) = inl (offset, reason, is, refl)
  cut_of many (refused offset reason) (inr is) = absurd (let few = is.0 in omega (arith, few, many))
  cut_of many (bad_archive offset) is = absurd is
  cut_of many past_limit is = inr (is.1, refl)

  one_cut : (a b : Verdict) → IsCut a → IsCut b → a ≡ b
  one_cut a b (inl x) (inl y) =
      let same = refusal_is_single options (take limit bytes) x.0 y.0 x.1 y.1 (AreBytes-take limit bytes fits) x.2 y.2 in
      x.3 ∙ (λ i. refused (same.0 i) (same.1 i)) ∙ sym y.3
  one_cut a b (inl x) (inr y) = absurd (y.0 x.0 x.1 x.2)
  one_cut a b (inr x) (inl y) = absurd (x.0 y.0 y.1 y.2)
  one_cut a b (inr x) (inr y) = x.1 ∙ sym y.1

  one_plain : (a b : Verdict) → IsPlainVerdict options limit bytes a → IsPlainVerdict options limit bytes b → a ≡ b
  one_plain a b one other = by_length (le_or_above (length bytes) limit) where
    by_length : (length bytes ≤ limit) ⊎ (limit + 1 ≤ length bytes) → a ≡ b
    by_length (inl few) =
        let x = judged_of few a one in let y = judged_of few b other in
        x.2 ∙ ap verdict_of (has_one_judgment judgments_exclude_each_other options bytes x.0 y.0 fits x.1 y.1) ∙ sym y.2
    by_length (inr many) =
        let more : limit < length bytes = omega (arith, many) in
        one_cut a b (cut_of more a one) (cut_of more b other)

-- ---- archives

module _ (options : ReadOptions) (bytes : List ℕ) (fits : AreBytes bytes) where
  abbrev contents : Member → List ℕ
  contents m = contents_at bytes m

  contents_fit : (m : Member) → AreBytes (contents_at bytes m)
  contents_fit m = AreBytes-take (m.end - m.start) (drop m.start bytes) (AreBytes-drop m.start bytes fits)

  one_judged : (m : Member) (a b : Judgment) → IsJudged options (contents_at bytes m) a → IsJudged options (contents_at bytes m) b → a ≡ b
  one_judged m a b one other = has_one_judgment judgments_exclude_each_other options (contents_at bytes m) a b (contents_fit m) one other

  no_both : (m : Member) (p : Parts) (offset : ℕ) (reason : Reason) → IsModule options (contents_at bytes m) p
      → IsJudged options (contents_at bytes m) (refusal offset reason) → ⊥
  no_both m p offset reason is wrong = let same = one_judged m (module_of p) (refusal offset reason) is wrong in cc

  one_modules : (members : List Member) (ms ns : List Parts) → AreModulesOf options bytes members ms → AreModulesOf options bytes members ns → ms ≡ ns
  one_modules [] [] [] a b = refl
  one_modules [] [] (n ∷ ns) a b = absurd b
  one_modules [] (m ∷ ms) ns a b = absurd a
  one_modules (x ∷ members) [] ns a b = absurd a
  one_modules (x ∷ members) (m ∷ ms) [] a b = absurd b
  one_modules (x ∷ members) (m ∷ ms) (n ∷ ns) a b =
      let same = (judgments_exclude_each_other options (contents_at bytes x) (contents_fit x)).one_module m n a.0 b.0 in
      let rest = one_modules members ms ns a.1 b.1 in (λ i. same i ∷ rest i)

  -- the first of these members that is refused, found by going through them
  abbrev IsAmong : List Member → ℕ → Reason → Type 0
  IsAmong [] offset reason = ⊥
  IsAmong (m ∷ members) offset reason =
      ((inside : ℕ) × (offset ≡ m.start + inside) × IsJudged options (contents_at bytes m) (refusal inside reason))
      ⊎ (((p : Parts) × IsModule options (contents_at bytes m) p) × IsAmong members offset reason)

  among : (before : List Member) (m : Member) (after : List Member) (ms : List Parts) (inside offset : ℕ) (reason : Reason)
      → AreModulesOf options bytes before ms → offset ≡ m.start + inside → IsJudged options (contents_at bytes m) (refusal inside reason)
      → IsAmong (before ++ m ∷ after) offset reason
  among [] m after ms inside offset reason is place judged = inl (inside, place, judged)
  among (x ∷ before) m after [] inside offset reason is place judged = absurd is
  among (x ∷ before) m after (p ∷ ms) inside offset reason is place judged =
      inr ((p, is.0), among before m after ms inside offset reason is.1 place judged)

  is_among : (members : List Member) (offset : ℕ) (reason : Reason) → IsFirstRefused options bytes members offset reason → IsAmong members offset reason
  is_among members offset reason is = subst (λ l. IsAmong l offset reason) (sym is.split)
      (among is.before is.member is.after is.modules is.inside offset reason is.accepted is.place is.judged)

  one_among : (members : List Member) (offset other : ℕ) (reason why_ : Reason) → IsAmong members offset reason → IsAmong members other why_
      → (offset ≡ other) × (reason ≡ why_)
  one_among [] offset other reason why_ a b = absurd a
  one_among (m ∷ members) offset other reason why_ (inl a) (inl b) =
      let same = one_judged m (refusal a.0 reason) (refusal b.0 why_) a.2 b.2 in
      let places : a.0 ≡ b.0 = cc in let reasons : reason ≡ why_ = cc in
      (a.1 ∙ ap (λ n. m.start + n) places ∙ sym b.1, reasons)
  one_among (m ∷ members) offset other reason why_ (inl a) (inr b) = absurd (no_both m b.0.0 a.0 reason b.0.1 a.2)
  one_among (m ∷ members) offset other reason why_ (inr a) (inl b) = absurd (no_both m a.0.0 b.0 why_ a.0.1 b.2)
  one_among (m ∷ members) offset other reason why_ (inr a) (inr b) = one_among members offset other reason why_ a.1 b.1

  none_among : (members : List Member) (ms : List Parts) (offset : ℕ) (reason : Reason) → AreModulesOf options bytes members ms
      → IsAmong members offset reason → ⊥
  none_among [] ms offset reason is wrong = wrong
  none_among (m ∷ members) [] offset reason is wrong = absurd is
  none_among (m ∷ members) (p ∷ ms) offset reason is (inl a) = no_both m p a.0 reason is.0 a.2
  none_among (m ∷ members) (p ∷ ms) offset reason is (inr a) = none_among members ms offset reason is.1 a.1

  not_refused : (ms ns : List Member) (a b : Option BadArchive) (modules : List Parts) (offset : ℕ) (reason : Reason) → IsListing bytes ms a
      → AreModulesOf options bytes ms modules → IsListing bytes ns b → IsFirstRefused options bytes ns offset reason → ⊥
  not_refused ms ns a b modules offset reason one all other wrong =
      let same = one_listing bytes ms ns a b one other in
      none_among ns modules offset reason (subst (λ l. AreModulesOf options bytes l modules) same.0 all) (is_among ns offset reason wrong)

  one_archive : (a b : Verdict) → IsArchiveVerdict options bytes a → IsArchiveVerdict options bytes b → a ≡ b
  one_archive (accepted None ms) b one other = absurd one
  one_archive past_limit b one other = absurd one
  one_archive (accepted (Some names) ms) (accepted None ns) one other = absurd other
  one_archive (refused offset reason) (accepted None ns) one other = absurd other
  one_archive (bad_archive offset) (accepted None ns) one other = absurd other
  one_archive (accepted (Some names) ms) past_limit one other = absurd other
  one_archive (refused offset reason) past_limit one other = absurd other
  one_archive (bad_archive offset) past_limit one other = absurd other
  one_archive (accepted (Some names) ms) (accepted (Some others) ns) one other =
      let same = one_listing bytes one.0 other.0 None None one.2 other.2 in
      let modules = one_modules other.0 ms ns (subst (λ l. AreModulesOf options bytes l ms) same.0 one.3) other.3 in
      let names_same = one.1 ∙ ap (map (λ (m : Member). m.name)) same.0 ∙ sym other.1 in
      (λ i. accepted (Some (names_same i)) (modules i))
  one_archive (accepted (Some names) ms) (refused offset reason) one other =
      absurd (not_refused one.0 other.0 None other.1 ms offset reason one.2 one.3 other.2 other.3)
  one_archive (accepted (Some names) ms) (bad_archive offset) one other =
      let same = (one_listing bytes one.0 other.0 None (Some (record { offset = offset })) one.2 other.2).1 in absurd (cc)
  one_archive (refused offset reason) (accepted (Some names) ms) one other =
      absurd (not_refused other.0 one.0 None one.1 ms offset reason other.2 other.3 one.2 one.3)
  one_archive (refused offset reason) (refused further why_) one other =
      let same = (one_listing bytes one.0 other.0 one.1 other.1 one.2 other.2).0 in
      let both = one_among other.0 offset further reason why_
      (subst (λ l. IsAmong l offset reason) same (is_among one.0 offset reason one.3)) (is_among other.0 further why_ other.3) in
      (λ i. refused (both.0 i) (both.1 i))
  one_archive (refused offset reason) (bad_archive further) one other =
      absurd (not_refused other.0 one.0 (Some (record { offset = further })) one.1 other.1 offset reason other.2 other.3 one.2 one.3)
  one_archive (bad_archive offset) (accepted (Some names) ms) one other =
      let same = (one_listing bytes one.0 other.0 (Some (record { offset = offset })) None one.2 other.2).1 in absurd (cc)
  one_archive (bad_archive offset) (refused further reason) one other =
      absurd (not_refused one.0 other.0 (Some (record { offset = offset })) other.1 one.1 further reason one.2 one.3 other.2 other.3)
  one_archive (bad_archive offset) (bad_archive further) one other =
      let same = (one_listing bytes one.0 other.0 (Some (record { offset = offset })) (Some (record { offset = further })) one.2 other.2).1 in
      let errors : record { offset = offset } ≡ record { offset = further } = cc in
      ap (λ (e : BadArchive). bad_archive e.offset) errors

one_within : (options : ReadOptions) (bytes : List ℕ) → AreBytes bytes → (limit : ℕ) (a b : Verdict) → IsVerdictWithin options limit bytes a
    → IsVerdictWithin options limit bytes b → a ≡ b
one_within options bytes fits limit a b (inl one) (inl other) = one_archive options bytes fits a b one.1 other.1
one_within options bytes fits limit a b (inl one) (inr other) = absurd (let few = one.0 in let many = other.0 in omega (arith, few, many))
one_within options bytes fits limit a b (inr one) (inl other) = absurd (let many = one.0 in let few = other.0 in omega (arith, few, many))
one_within options bytes fits limit a b (inr one) (inr other) =
    let front = one.1 in let same = other.1 in
    front.2 ∙ ap (verdict_on_prefix (take limit bytes))
    (one_archive options (take limit bytes) (AreBytes-take limit bytes fits) front.0 same.0 front.1 same.1) ∙ sym same.2

pub one_verdict : HaveOneVerdict
one_verdict options limit bytes a b fits (inl one) (inl other) = one_within options bytes fits limit a b one.1 other.1
one_verdict options limit bytes a b fits (inl one) (inr other) = absurd (other.0 one.0)
one_verdict options limit bytes a b fits (inr one) (inl other) = absurd (one.0 other.0)
one_verdict options limit bytes a b fits (inr one) (inr other) = one_plain options limit bytes fits a b one.1 other.1
