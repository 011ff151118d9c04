-- Each file has a verdict.
use Rattle.std.proofs.Common.{◌≡◌, ◌⊎◌, inl, inr, ℕ, ◌+◌, ◌-◌, ◌<◌, ◌≤◌, ap, refl, Bool, true, false, List, [], ◌∷◌, length, take, drop, map}
use Rattle.std.proofs.Common.{nat_eq, Option, Some, None, arith}
use Rattle.std.proofs.lemmas.Bool.Decides.{nat_tests}
use Rattle.mufom_numbers.specs.declared.reason.Reason.{Reason}
use Rattle.mufom_numbers.specs.Spelling.{AreBytes}
use Rattle.mufom_records.specs.declared.options.ReadOptions.{ReadOptions}
use Rattle.mufom_module.specs.declared.module.Parts.{Parts}
use Rattle.mufom_archive.specs.declared.listing.BadArchive.{BadArchive}
use Rattle.mufom_archive.specs.Entries.{BeginsArchive, signature}
use Rattle.mufom_archive.specs.Listings.{IsListing, Member}
use Rattle.mufom_archive.proofs.ListingLaws.{each_listing}
use Rattle.mufom_judging.specs.Judging.{IsJudged, Judgment, module_of, refusal}
use Rattle.mufom_judging.proofs.ended.Prefix.{ended_prefix}
use Rattle.mufom_judging.proofs.judged.PrefixJudged.{has_judgment}
use Rattle.mufom_judging.proofs.judged.Stays.{AreBytes-drop, AreBytes-take}
use Rattle.mufom_judging.proofs.spelled.Judged.{judgments_exclude_each_other}
use Rattle.mufom_judging.proofs.weighing.Files.{files_weigh}
use Rattle.mufom_members.specs.Files.{AreModulesOf, IsArchiveVerdict, IsFirstRefused, IsPlainVerdict, IsVerdict, IsVerdictWithin, Verdict, accepted}
use Rattle.mufom_members.specs.Files.{bad_archive, contents_at, past_limit, refused, verdict_on_prefix}
use Rattle.mufom_members.specs.Laws.{HaveVerdict}
use Rattle.mufom_members.proofs.Gathering.{le_or_above}

judgment : (options : ReadOptions) (bytes : List ℕ) → AreBytes bytes → (j : Judgment) × IsJudged options bytes j
judgment options bytes fits = has_judgment (ended_prefix files_weigh) options bytes fits

-- ---- files that are not archives

plain_few : (options : ReadOptions) (limit : ℕ) (bytes : List ℕ) → length bytes ≤ limit → (j : Judgment) → IsJudged options bytes j
    → (v : Verdict) × IsPlainVerdict options limit bytes v
plain_few options limit bytes few (module_of m) is = (accepted None (m ∷ []), (is, few))
plain_few options limit bytes few (refusal offset reason) is = (refused offset reason, inr (few, is))

plain_many : (options : ReadOptions) (limit : ℕ) (bytes : List ℕ) → AreBytes bytes → limit < length bytes → (j : Judgment)
    → IsJudged options (take limit bytes) j → (v : Verdict) × IsPlainVerdict options limit bytes v
plain_many options limit bytes fits many (module_of m) is = (
  past_limit,
  (
    many,
    λ offset reason wrong.
        (judgments_exclude_each_other options (take limit bytes) (AreBytes-take limit bytes fits)).not_module m offset reason is wrong,
  ),
)
plain_many options limit bytes fits many (refusal offset reason) (inl is) = (refused offset reason, inl is)
plain_many options limit bytes fits many (refusal offset reason) (inr is) = (
  past_limit,
  (
    many,
    λ other why_ wrong.
        (judgments_exclude_each_other options (take limit bytes) (AreBytes-take limit bytes fits)).not_cut other why_ is.2 wrong,
  ),
)

each_plain : (options : ReadOptions) (limit : ℕ) (bytes : List ℕ) → AreBytes bytes → (v : Verdict) × IsPlainVerdict options limit bytes v
each_plain options limit bytes fits = by_length (le_or_above (length bytes) limit) where
  by_length : (length bytes ≤ limit) ⊎ (limit + 1 ≤ length bytes) → (v : Verdict) × IsPlainVerdict options limit bytes v
  by_length (inl few) = let j = judgment options bytes fits in plain_few options limit bytes few j.0 j.1
  by_length (inr many) =
      let j = judgment options (take limit bytes) (AreBytes-take limit bytes fits) in
      plain_many options limit bytes fits (omega (arith, many)) j.0 j.1

-- ---- archives

module _ (options : ReadOptions) (bytes : List ℕ) (fits : AreBytes bytes) where
  abbrev Found : List Member → Type 0
  Found members = ((modules : List Parts) × AreModulesOf options bytes members modules)
      ⊎ ((offset : ℕ) × (reason : Reason) × IsFirstRefused options bytes members offset reason)

  found : (members : List Member) → Found members
  found [] = inl ([], tt)
  found (m ∷ members) = by_judgment j.0 j.1 (found members) where
    j : (j : Judgment) × IsJudged options (contents_at bytes m) j
    j = judgment options (contents_at bytes m) (AreBytes-take (m.end - m.start) (drop m.start bytes) (AreBytes-drop m.start bytes fits))

    by_judgment : (j : Judgment) → IsJudged options (contents_at bytes m) j → Found members → Found (m ∷ members)
    by_judgment (refusal offset reason) is rest = inr (
      m.start + offset,
      reason,
      record {
        before = [];
        member = m;
        after = members;
        split = refl;
        modules = [];
        accepted = tt;
        inside = offset;
        place = refl;
        judged = is;
      },
    )
    by_judgment (module_of p) is (inl rest) = inl (p ∷ rest.0, (is, rest.1))
    by_judgment (module_of p) is (inr rest) = inr (
      rest.0,
      rest.1,
      record {
        before = m ∷ rest.2.before;
        member = rest.2.member;
        after = rest.2.after;
        split = ap (λ l. m ∷ l) rest.2.split;
        modules = p ∷ rest.2.modules;
        accepted = (is, rest.2.accepted);
        inside = rest.2.inside;
        place = rest.2.place;
        judged = rest.2.judged;
      },
    )

  by_found : (members : List Member) (error : Option BadArchive) → IsListing bytes members error → Found members
      → (v : Verdict) × IsArchiveVerdict options bytes v
  by_found members None l (inl all) = (accepted (Some (map (λ m. m.name) members)) all.0, (members, refl, l, all.1))
  by_found members (Some bad) l (inl all) = (bad_archive bad.offset, (members, all.0, l, all.1))
  by_found members error l (inr one) = (refused one.0 one.1, (members, error, l, one.2))

  each_archive : (v : Verdict) × IsArchiveVerdict options bytes v
  each_archive = let l = each_listing bytes in by_found l.0 l.1 l.2 (found l.0)

each_within : (options : ReadOptions) (bytes : List ℕ) → AreBytes bytes → (limit : ℕ) → (v : Verdict) × IsVerdictWithin options limit bytes v
each_within options bytes fits limit = by_length (le_or_above (length bytes) limit) where
  by_length : (length bytes ≤ limit) ⊎ (limit + 1 ≤ length bytes) → (v : Verdict) × IsVerdictWithin options limit bytes v
  by_length (inl few) = let v = each_archive options bytes fits in (v.0, inl (few, v.1))
  by_length (inr many) =
      let v = each_archive options (take limit bytes) (AreBytes-take limit bytes fits) in
      (verdict_on_prefix (take limit bytes) v.0, inr (omega (arith, many), (v.0, v.1, refl)))

-- whether a file begins as an archive can be told
begins : (bytes : List ℕ) → BeginsArchive bytes ⊎ (BeginsArchive bytes → ⊥)
begins bytes = same (take 8 bytes) signature where
  same : (xs ys : List ℕ) → (xs ≡ ys) ⊎ ((xs ≡ ys) → ⊥)
  same [] [] = inl refl
  same [] (y ∷ ys) = inr (λ e. cc)
  same (x ∷ xs) [] = inr (λ e. cc)
  same (x ∷ xs) (y ∷ ys) = by_head (nat_eq x y) refl (same xs ys) where
    by_head : (b : Bool) → nat_eq x y ≡ b → (xs ≡ ys) ⊎ ((xs ≡ ys) → ⊥) → (◌≡◌ {A = List ℕ} (x ∷ xs) (y ∷ ys)) ⊎ ((◌≡◌ {A = List ℕ} (x ∷ xs) (y ∷ ys)) → ⊥)
    by_head true is (inl rest) = let heads : x ≡ y = grind (arith, nat_tests) in inl (λ i. heads i ∷ rest i)
    by_head true is (inr rest) = inr (λ e. rest (let tails : xs ≡ ys = cc in tails))
    by_head false is rest = inr (λ e. let heads : x ≡ y = cc in absurd (grind (arith, nat_tests)))

pub each_verdict : HaveVerdict
each_verdict options limit bytes fits = by_begin (begins bytes) where
  by_begin : BeginsArchive bytes ⊎ (BeginsArchive bytes → ⊥) → (v : Verdict) × IsVerdict options limit bytes v
  by_begin (inl is) = let v = each_within options bytes fits limit in (v.0, inl (is, v.1))
  by_begin (inr other) = let v = each_plain options limit bytes fits in (v.0, inr (other, v.1))
