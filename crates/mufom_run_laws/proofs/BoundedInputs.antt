-- The modules of accepted files that hold bytes are within the bounds of their parts, and so are those of their flat list.
use Rattle.std.proofs.Common.{◌≡◌, ℕ, zero, suc, ◌-◌, Bool, true, false, nat_lt, List, [], ◌∷◌, length, take, drop, Option, Some, None, sym}
use Rattle.std.proofs.Common.{subst, inl, inr}
use Rattle.std.specs.Prelude.{slice_get}
use Rattle.std.specs.List.{AllByRecursion}
use Rattle.mufom_numbers.specs.Spelling.{AreBytes}
use Rattle.mufom_host.specs.World.{HoldBytes, NamedFile, file_named}
use Rattle.mufom_archive.specs.Listings.{Member}
use Rattle.mufom_records.specs.declared.options.ReadOptions.{ReadOptions}
use Rattle.mufom_words.specs.Tree.{Forest, leaves}
use Rattle.mufom_module.specs.declared.module.Parts.{Parts}
use Rattle.mufom_judging.proofs.judged.Stays.{AreBytes-drop, AreBytes-take}
use Rattle.mufom_members.specs.Files.{AreModulesOf, IsArchiveVerdict, IsPlainVerdict, accepted}
use Rattle.mufom_meaning.specs.Selection.{member_at, members_at}
use Rattle.mufom_groups.specs.Linked.{IsFlatList, members, roots}
use Rattle.mufom_task.specs.Inputs.{AreModules, HasFileModules, HaveBytes}
use Rattle.mufom_task.proofs.RootLaws.{root-module}
use Rattle.mufom_bounds.specs.Bounded.{IsBounded}
use Rattle.mufom_bounds.proofs.Bounded.{all-append}
use Rattle.mufom_bounds.proofs.BoundedFiles.{file-bounded}
use Rattle.mufom_run_laws.proofs.Members.{archive-whole}

abbrev pub AreBounded : List Parts → Type 0
AreBounded ms = AllByRecursion IsBounded ms

-- ---- the modules of a file

module _ (options : ReadOptions) (bytes : List ℕ) (fits : AreBytes bytes) where
  members-bounded : (entries : List Member) (ms : List Parts) → AreModulesOf options bytes entries ms → AreBounded ms
  members-bounded [] [] are = tt
  members-bounded [] (m ∷ ms) are = absurd are
  members-bounded (e ∷ entries) [] are = absurd are
  members-bounded (e ∷ entries) (m ∷ ms) are =
      let own = AreBytes-take (e.end - e.start) (drop e.start bytes) (AreBytes-drop e.start bytes fits) in
      (file-bounded options (take (e.end - e.start) (drop e.start bytes)) m own are.0, members-bounded entries ms are.1)

  plain-bounded : (names : Option (List (List ℕ))) (ms : List Parts) → IsPlainVerdict options (length bytes) bytes (accepted names ms) → AreBounded ms
  plain-bounded names ms is =
      let (m, same, has) = root-module options bytes ms (names, is) in subst AreBounded (sym same) (file-bounded options bytes m fits has, tt)

  archive-bounded : (names : Option (List (List ℕ))) (ms : List Parts) → IsArchiveVerdict options bytes (accepted names ms) → AreBounded ms
  archive-bounded None ms is = absurd is
  archive-bounded (Some names) ms (entries, named, l, are) = members-bounded entries ms are

  modules-bounded : (root : Bool) (ms : List Parts) → HasFileModules options root bytes ms → AreBounded ms
  modules-bounded true ms (names, is) = plain-bounded names ms is
  modules-bounded false ms (names, inl (begins, is)) = archive-bounded names ms (archive-whole options (length bytes) bytes names ms is)
  modules-bounded false ms (names, inr (other, is)) = plain-bounded names ms is

-- ---- the modules of files

pub files-bounded : (options : ReadOptions) (files : List NamedFile) → HoldBytes files → (count : ℕ) (names contents : List (List ℕ)) (ms : List Parts)
    → HaveBytes files names contents → AreModules options count contents ms → AreBounded ms
files-bounded options files bytes count [] [] ms have are = subst AreBounded (sym are) tt
files-bounded options files bytes count (name ∷ names) [] ms have are = absurd cc
files-bounded options files bytes count [] (first ∷ contents) ms have are = absurd cc
files-bounded options files bytes count (name ∷ names) (first ∷ contents) ms have (own, later, split, has, rest) =
    let there : file_named name files ≡ Some first = cc in
    let others : HaveBytes files names contents = cc in
    subst AreBounded (sym split)
    (all-append IsBounded own later (modules-bounded options first (bytes name first there) (nat_lt 0 count) own has)
    (files-bounded options files bytes (count - 1) names contents later others rest))

-- ---- the flat list

bounded-drop : (n : ℕ) (ms : List Parts) → AreBounded ms → AreBounded (drop n ms)
bounded-drop zero ms are = are
bounded-drop (suc n) [] are = tt
bounded-drop (suc n) (m ∷ ms) are = bounded-drop n ms are.1

bounded-member : (ms : List Parts) (n : ℕ) → AreBounded ms → AreBounded (member_at (slice_get ms n))
bounded-member [] n are = tt
bounded-member (m ∷ ms) zero are = (are.0, tt)
bounded-member (m ∷ ms) (suc n) are = bounded-member ms n are.1

bounded-members : (ms : List Parts) (ns : List ℕ) → AreBounded ms → AreBounded (members_at ms ns)
bounded-members ms [] are = tt
bounded-members ms (n ∷ ns) are =
    all-append IsBounded (member_at (slice_get ms n)) (members_at ms ns) (bounded-member ms n are) (bounded-members ms ns are)

pub flat-bounded : (tree : Forest) (ms flat : List Parts) → IsFlatList tree ms flat → AreBounded ms → AreBounded flat
flat-bounded tree ms flat (chosen, selected, same) are =
    subst AreBounded (sym same)
    (all-append IsBounded (roots tree ms) (members_at (members tree ms) chosen) (bounded-members ms (leaves tree) are)
    (bounded-members (members tree ms) chosen (bounded-drop (length (leaves tree)) ms are)))
