-- The modules of one file have no defect and weigh at most ten times as much as the file has bytes.
use Rattle.std.proofs.Common.{◌≡◌, ℕ, ◌-◌, ◌*◌, ◌≤◌, Bool, true, false, nat_lt, if◌then◌else◌, List, [], ◌∷◌, length}
use Rattle.std.proofs.Common.{take, drop, Option, Some, None, option_map, refl, sym, ap, subst, inl, inr, arith}
use Rattle.std.specs.List.{before_first, cons_option}
use Rattle.std.proofs.lemmas.List.{length-drop, length-take}
use Rattle.mufom_numbers.specs.Spelling.{AreBytes}
use Rattle.mufom_archive.specs.declared.entry.Entry.{Entry}
use Rattle.mufom_archive.specs.declared.listing.BadArchive.{BadArchive}
use Rattle.mufom_archive.specs.Names.{is_member, name_of}
use Rattle.mufom_archive.specs.Entries.{AreEntries, contents_of, long_names, next_offset}
use Rattle.mufom_archive.specs.Listings.{IsListing, Member, is_refused, members_of}
use Rattle.mufom_archive.proofs.EntryLaws.{entry_parts}
use Rattle.mufom_records.specs.declared.options.ReadOptions.{ReadOptions}
use Rattle.mufom_module.specs.declared.module.Parts.{Parts}
use Rattle.mufom_judging.proofs.judged.Stays.{AreBytes-drop, AreBytes-take}
use Rattle.mufom_judging.proofs.weighing.Files.{modules_weigh}
use Rattle.mufom_members.specs.Files.{AreModulesOf, IsArchiveVerdict, IsPlainVerdict, IsVerdictWithin, accepted}
use Rattle.mufom_members.proofs.EntryOrder.{contents_length}
use Rattle.mufom_members.proofs.Walk.{first_fails, first_passes}
use Rattle.mufom_meaning.specs.Staging.{AreValid}
use Rattle.mufom_meaning.specs.StagingLaws.{total_weight}
use Rattle.mufom_groups.proofs.LinkWalk.{valid-append, weight-append}
use Rattle.mufom_task.specs.Inputs.{AreModules, HasFileModules}
use Rattle.mufom_task.proofs.FileLaws.{never-prefix}
use Rattle.mufom_task.proofs.RootLaws.{root-module}

-- an archive that is accepted is accepted as a whole
pub archive-whole : (options : ReadOptions) (limit : ℕ) (bytes : List ℕ) (names : Option (List (List ℕ))) (ms : List Parts)
    → IsVerdictWithin options limit bytes (accepted names ms) → IsArchiveVerdict options bytes (accepted names ms)
archive-whole options limit bytes names ms (inl is) = is.1
archive-whole options limit bytes names ms (inr cut) = absurd (never-prefix (take limit bytes) names ms cut.1.0 cut.1.2)

-- ---- the members of an archive

members-valid : (options : ReadOptions) (bytes : List ℕ) (members : List Member) (ms : List Parts) → AreModulesOf options bytes members ms
    → AreValid ms
members-valid options bytes [] [] are = tt
members-valid options bytes [] (m ∷ ms) are = absurd are
members-valid options bytes (e ∷ members) [] are = absurd are
members-valid options bytes (e ∷ members) (m ∷ ms) are = (are.0.4, members-valid options bytes members ms are.1)

module _ (options : ReadOptions) (bytes names : List ℕ) (fits : AreBytes bytes) where
  -- the modules of the entries from an offset on weigh at most ten times as much as there are bytes from there
  members-weigh : (at : ℕ) (es : List Entry) (next : ℕ) (ms : List Parts) → AreEntries bytes at es next
      → AreModulesOf options bytes (members_of names (before_first (is_refused names (length bytes)) es)) ms
      → total_weight ms ≤ 10 * (length bytes - at)
  members-weigh at [] next [] found are = omega arith
  members-weigh at [] next (m ∷ ms) found are = absurd are
  members-weigh at (e ∷ es) next ms found are =
      by-test (is_refused names (length bytes) e) refl ms are (λ ns is. members-weigh (next_offset e) es next ns found.1 is) where
        lighter : (ms : List Parts) → total_weight ms ≤ 10 * (length bytes - next_offset e) → total_weight ms ≤ 10 * (length bytes - at)
        lighter ms light =
            let parts = entry_parts at (take 60 (drop at bytes)) e found.0 in
            let start = parts.start in
            let order = parts.order in
            omega (arith, start, order, light)

        by-kind : (member : Bool) (name : Option (List ℕ)) (rest : List Member) (ms : List Parts)
            → AreModulesOf options bytes (cons_option (if member
            then option_map {U = Member} (λ n. record { name = n; start = e.start; end = e.end }) name else None) rest) ms
            → ((ns : List Parts) → AreModulesOf options bytes rest ns → total_weight ns ≤ 10 * (length bytes - next_offset e))
            → total_weight ms ≤ 10 * (length bytes - at)
        by-kind true (Some n) rest [] are further = absurd are
        by-kind true (Some n) rest (m ∷ ms) are further =
            let parts = entry_parts at (take 60 (drop at bytes)) e found.0 in
            let start = parts.start in
            let order = parts.order in
            let its_bytes = AreBytes-take (e.end - e.start) (drop e.start bytes) (AreBytes-drop e.start bytes fits) in
            let own = modules_weigh options (contents_of bytes e) m its_bytes are.0 in
            let few = contents_length bytes e in
            let there = length-take (e.end - e.start) (drop e.start bytes) in
            let left = length-drop e.start bytes in
            let later = further ms are.1 in
            let sum = weight-append (m ∷ []) ms in
            omega (arith, start, order, own, few, there, left, later, sum)
        by-kind true None rest ms are further = lighter ms (further ms are)
        by-kind false name rest ms are further = lighter ms (further ms are)

        none : (ms : List Parts) → AreModulesOf options bytes [] ms → total_weight ms ≤ 10 * (length bytes - at)
        none [] are = omega arith
        none (m ∷ ms) are = absurd are

        by-test : (b : Bool) → is_refused names (length bytes) e ≡ b → (ms : List Parts)
            → AreModulesOf options bytes (members_of names (before_first (is_refused names (length bytes)) (e ∷ es))) ms
            → ((ns : List Parts) → AreModulesOf options bytes (members_of names (before_first (is_refused names (length bytes)) es)) ns
            → total_weight ns ≤ 10 * (length bytes - next_offset e))
            → total_weight ms ≤ 10 * (length bytes - at)
        by-test true is ms are further =
            none ms (subst (λ (l : List Entry). AreModulesOf options bytes (members_of names l) ms)
            (first_passes (is_refused names (length bytes)) e es is) are)
        by-test false is ms are further =
            by-kind (is_member e.label) (name_of names e.label) (members_of names (before_first (is_refused names (length bytes)) es)) ms
            (subst (λ (l : List Entry). AreModulesOf options bytes (members_of names l) ms)
            (first_fails (is_refused names (length bytes)) e es is) are) further

listing-light : (options : ReadOptions) (bytes : List ℕ) (members : List Member) (error : Option BadArchive) (ms : List Parts) → AreBytes bytes
    → IsListing bytes members error → AreModulesOf options bytes members ms → total_weight ms ≤ 10 * length bytes
listing-light options bytes members error ms fits l are =
    let light = members-weigh options bytes (long_names bytes l.entries) fits 8 l.entries l.next ms l.found
    (subst (λ (es : List Member). AreModulesOf options bytes es ms) l.listed are) in
    omega (arith, light)

-- ---- the modules of a file

plain-valid : (options : ReadOptions) (bytes : List ℕ) (names : Option (List (List ℕ))) (ms : List Parts)
    → IsPlainVerdict options (length bytes) bytes (accepted names ms) → AreValid ms
plain-valid options bytes names ms is =
    let (m, same, has) = root-module options bytes ms (names, is) in subst AreValid (sym same) (has.4, tt)

archive-valid : (options : ReadOptions) (bytes : List ℕ) (names : Option (List (List ℕ))) (ms : List Parts)
    → IsArchiveVerdict options bytes (accepted names ms) → AreValid ms
archive-valid options bytes None ms is = absurd is
archive-valid options bytes (Some names) ms (members, named, l, are) = members-valid options bytes members ms are

-- they have no defect
pub modules-valid : (options : ReadOptions) (root : Bool) (bytes : List ℕ) (ms : List Parts) → HasFileModules options root bytes ms → AreValid ms
modules-valid options true bytes ms (names, is) = plain-valid options bytes names ms is
modules-valid options false bytes ms (names, inl (begins, is)) =
    archive-valid options bytes names ms (archive-whole options (length bytes) bytes names ms is)
modules-valid options false bytes ms (names, inr (other, is)) = plain-valid options bytes names ms is

plain-light : (options : ReadOptions) (bytes : List ℕ) (names : Option (List (List ℕ))) (ms : List Parts) → AreBytes bytes
    → IsPlainVerdict options (length bytes) bytes (accepted names ms) → total_weight ms ≤ 10 * length bytes
plain-light options bytes names ms fits is =
    let (m, same, has) = root-module options bytes ms (names, is) in
    let own = modules_weigh options bytes m fits has in
    let one : total_weight ms ≡ total_weight (m ∷ []) = ap total_weight same in
    omega (arith, own, one)

archive-light : (options : ReadOptions) (bytes : List ℕ) (names : Option (List (List ℕ))) (ms : List Parts) → AreBytes bytes
    → IsArchiveVerdict options bytes (accepted names ms) → total_weight ms ≤ 10 * length bytes
archive-light options bytes None ms fits is = absurd is
archive-light options bytes (Some names) ms fits (members, named, l, are) = listing-light options bytes members None ms fits l are

-- they weigh at most ten times as much as the file has bytes
pub modules-light : (options : ReadOptions) (root : Bool) (bytes : List ℕ) (ms : List Parts) → AreBytes bytes → HasFileModules options root bytes ms
    → total_weight ms ≤ 10 * length bytes
modules-light options true bytes ms fits (names, is) = plain-light options bytes names ms fits is
modules-light options false bytes ms fits (names, inl (begins, is)) =
    archive-light options bytes names ms fits (archive-whole options (length bytes) bytes names ms is)
modules-light options false bytes ms fits (names, inr (other, is)) = plain-light options bytes names ms fits is

-- ---- the modules of files

pub files-valid : (options : ReadOptions) (roots : ℕ) (contents : List (List ℕ)) (ms : List Parts) → AreModules options roots contents ms
    → AreValid ms
files-valid options roots [] ms are = subst AreValid (sym are) tt
files-valid options roots (bytes ∷ contents) ms (own, later, split, has, rest) =
    subst AreValid (sym split)
    (valid-append own later (modules-valid options (nat_lt 0 roots) bytes own has) (files-valid options (roots - 1) contents later rest))
