-- Files that exist have a result when they are read in order: each file has a verdict.
use Rattle.std.proofs.Common.{◌≡◌, ℕ, ◌<◌, ◌≤◌, inl, inr, Bool, true, false, nat_lt, List, [], ◌∷◌, ◌++◌, length, take, Option, Some, None}
use Rattle.std.proofs.Common.{IsSome, refl, sym, subst, append-nil, append_assoc, ltb-true, ltb-false, true≢false}
use Rattle.std.specs.List.{AllByRecursion}
use Rattle.mufom_numbers.specs.declared.reason.Reason.TheVariants as why
use Rattle.mufom_numbers.specs.Spelling.{AreBytes}
use Rattle.mufom_numbers.proofs.SpellingLaws.{AreBytes-take}
use Rattle.mufom_host.specs.World.{HoldBytes, NamedFile, file_named}
use Rattle.mufom_records.specs.declared.options.ReadOptions.{ReadOptions}
use Rattle.mufom_module.specs.declared.module.Parts.{Parts}
use Rattle.mufom_judging.specs.Judging.{IsJudged, Judgment, module_of, refusal}
use Rattle.mufom_judging.specs.Laws.{HasJudgment}
use Rattle.mufom_judging.proofs.ended.Prefix.{ended_prefix}
use Rattle.mufom_judging.proofs.judged.PrefixJudged.{has_judgment}
use Rattle.mufom_judging.proofs.spelled.Judged.{judgments_exclude_each_other}
use Rattle.mufom_judging.proofs.weighing.Files.{files_weigh}
use Rattle.mufom_members.specs.Files as one
use Rattle.mufom_members.specs.Files.{IsPlainVerdict}
use Rattle.mufom_members.proofs.EachVerdict.{each_verdict}
use Rattle.mufom_task.specs.Inputs.{AreAccepted, ComeTo, IsFileVerdict, Verdict, accepted, past_limit, refused, room_after}
use Rattle.mufom_task.proofs.FileLaws.{modules-of, verdict-fits}
use Rattle.mufom_task.proofs.InputLaws.{none_accepted, one_accepted}
use Rattle.mufom_task.specs.declared.task.Inputs.{Inputs}
use Rattle.mufom_task.specs.Inputs.{root_count}
use Rattle.mufom_task.specs.Reading.{modules_in}
use Rattle.mufom_outcome.specs.Stop.{Stop, file_refused, past_limit as too_long, too_many_modules}
use Rattle.mufom_groups.specs.Work.{Reached, gives, stops}
use Rattle.mufom_numbers.specs.declared.limits.TheConstants.{MOST_MODULES}
use Rattle.mufom_run_laws.specs.Exist.{FilesHaveAVerdict, ReadingHasAResult}

-- ---- one file

has-judgment : HasJudgment
has-judgment = has_judgment (ended_prefix files_weigh)

-- the verdict on a root, whose length is within the limit or not
module _ (options : ReadOptions) (limit : ℕ) (bytes : List ℕ) where
  abbrev HasPlain : Type 0
  HasPlain = (v : one.Verdict) × IsPlainVerdict options limit bytes v

  within : length bytes ≤ limit → (j : Judgment) → IsJudged options bytes j → HasPlain
  within fits (module_of m) is = (one.accepted None (m ∷ []), (is, fits))
  within fits (refusal offset reason) is = (one.refused offset reason, inr (fits, is))

  beyond : AreBytes bytes → limit < length bytes → (j : Judgment) → IsJudged options (take limit bytes) j → HasPlain
  beyond are less (module_of m) is =
      let exclude = judgments_exclude_each_other options (take limit bytes) (AreBytes-take limit bytes are) in
      (one.past_limit, (less, λ offset reason bad. exclude.not_module m offset reason is bad))
  beyond are less (refusal offset reason) (inl is) = (one.refused offset reason, inl is)
  beyond are less (refusal offset reason) (inr (cause, there, cut)) =
      let exclude = judgments_exclude_each_other options (take limit bytes) (AreBytes-take limit bytes are) in
      (one.past_limit, (less, λ other because bad. exclude.not_cut other because cut bad))

  plain-verdict : AreBytes bytes → HasPlain
  plain-verdict are = by (nat_lt limit (length bytes)) refl where
    by : (b : Bool) → nat_lt limit (length bytes) ≡ b → HasPlain
    by true is =
        let (j, judged) = has-judgment options (take limit bytes) (AreBytes-take limit bytes are) in
        beyond are (ltb-true limit (length bytes) is) j judged
    by false is = let (j, judged) = has-judgment options bytes are in within (ltb-false limit (length bytes) is) j judged

file-verdict : (options : ReadOptions) (root : Bool) (limit : ℕ) (bytes : List ℕ) → AreBytes bytes
    → (v : one.Verdict) × IsFileVerdict options root limit bytes v
file-verdict options true limit bytes are = plain-verdict options limit bytes are
file-verdict options false limit bytes are = each_verdict options limit bytes are

-- ---- files in order

module _ (options : ReadOptions) (roots : ℕ) (files : List NamedFile) where
  -- the files with these names have a result
  abbrev HaveVerdict : List (List ℕ) → Type 0
  HaveVerdict names = (v : Verdict) × ComeTo options roots files names v

  -- One file more, given the result of those after it: the files before it are accepted.
  one-more : (before after : List (List ℕ)) (name : List ℕ) (contents : List (List ℕ)) (ms : List Parts) (bytes : List ℕ)
      → AreAccepted options roots files before contents ms
      → file_named name files ≡ Some bytes
      → (v : one.Verdict) → IsFileVerdict options (nat_lt (length before) roots) (room_after contents) bytes v
      → ((contents : List (List ℕ)) (ms : List Parts) → AreAccepted options roots files (before ++ name ∷ []) contents ms
      → HaveVerdict ((before ++ name ∷ []) ++ after))
      → HaveVerdict (before ++ name ∷ after)
  one-more before after name contents ms bytes are there (one.accepted names own) is later =
      let root : Bool = nat_lt (length before) roots in
      subst HaveVerdict (append_assoc before (name ∷ []) after)
      (later (contents ++ bytes ∷ []) (ms ++ own)
      (one_accepted options roots files before contents ms name bytes own are there
      (modules-of options root (room_after contents) bytes names own is) (verdict-fits options root (room_after contents) bytes names own is)))
  one-more before after name contents ms bytes are there (one.refused offset reason) is later = (
    refused (length before) (record { offset = offset; reason = reason }),
    record {
      before = before;
      name = name;
      after = after;
      split = refl;
      place = refl;
      contents = contents;
      modules = ms;
      accepted = are;
      bytes = bytes;
      there = there;
      stops = inl is;
    },
  )
  one-more before after name contents ms bytes are there (one.bad_archive offset) is later = (
    refused (length before) (record { offset = offset; reason = why.BadArchive }),
    record {
      before = before;
      name = name;
      after = after;
      split = refl;
      place = refl;
      contents = contents;
      modules = ms;
      accepted = are;
      bytes = bytes;
      there = there;
      stops = inr (refl, is);
    },
  )
  one-more before after name contents ms bytes are there one.past_limit is later = (
    past_limit (length before),
    record {
      before = before;
      name = name;
      after = after;
      split = refl;
      place = refl;
      contents = contents;
      modules = ms;
      accepted = are;
      bytes = bytes;
      there = there;
      stops = is;
    },
  )

  module _ (bytes : HoldBytes files) where
    verdict-from : (before after : List (List ℕ)) (contents : List (List ℕ)) (ms : List Parts) → AreAccepted options roots files before contents ms
        → AllByRecursion (λ name. IsSome (file_named name files)) after → HaveVerdict (before ++ after)
    verdict-from before [] contents ms are all =
        (accepted ms, (contents, subst (λ (names : List (List ℕ)). AreAccepted options roots files names contents ms) (sym (append-nil before)) are))
    verdict-from before (name ∷ after) contents ms are all =
        by (file_named name files) refl all.0
        (λ contents ms are. verdict-from (before ++ name ∷ []) after contents ms are all.1) where
          by : (o : Option (List ℕ)) → file_named name files ≡ o → IsSome o
              → ((contents : List (List ℕ)) (ms : List Parts) → AreAccepted options roots files (before ++ name ∷ []) contents ms
              → HaveVerdict ((before ++ name ∷ []) ++ after))
              → HaveVerdict (before ++ name ∷ after)
          by None there some later = absurd (true≢false (sym some))
          by (Some content) there some later =
              let v = file-verdict options (nat_lt (length before) roots) (room_after contents) content (bytes name content there) in
              one-more before after name contents ms content are there v.0 v.1 later

pub files-have-a-verdict : FilesHaveAVerdict
files-have-a-verdict options roots files names bytes all =
    verdict-from options roots files bytes [] names [] [] (none_accepted options roots files) all

-- ---- the modules of a task

module _ (files : List NamedFile) (inputs : Inputs) where
  abbrev HasResult : Type 0
  HasResult = (reached : Reached Stop (List Parts)) × modules_in files inputs reached

  -- they may be too many
  counted : (ms : List Parts) → ComeTo inputs.options (root_count inputs) files inputs.files (accepted ms) → HasResult
  counted ms come = by (nat_lt MOST_MODULES (length ms)) refl where
    by : (b : Bool) → nat_lt MOST_MODULES (length ms) ≡ b → HasResult
    by true is = (stops (too_many_modules (length ms)), (ms, come, refl, ltb-true MOST_MODULES (length ms) is))
    by false is = (gives ms, (come, ltb-false MOST_MODULES (length ms) is))

  result-of : (v : Verdict) → ComeTo inputs.options (root_count inputs) files inputs.files v → HasResult
  result-of (accepted ms) come = counted ms come
  result-of (refused n r) come = (stops (file_refused n r), come)
  result-of (past_limit n) come = (stops (too_long n), come)

pub reading-has-a-result : ReadingHasAResult
reading-has-a-result files inputs bytes all =
    let (v, come) = files-have-a-verdict inputs.options (root_count inputs) files inputs.files bytes all in result-of files inputs v come
