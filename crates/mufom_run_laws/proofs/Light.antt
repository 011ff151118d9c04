-- The modules of accepted files, and their flat list: no module has a defect, the flat list is no heavier than all modules, and it is not empty.
use Rattle.std.proofs.Common.{◌≡◌, ◌≢◌, ℕ, zero, suc, ◌+◌, ◌-◌, ◌<◌, ◌≤◌, Bool, true, false, nat_lt, List, [], ◌∷◌, ◌++◌, length, take, drop}
use Rattle.std.proofs.Common.{Some, refl, sym, ap, subst, ◌∙◌, arith, length-append, ltb-false}
use Rattle.std.specs.Prelude.{slice_get, sum_by, ◌*◌}
use Rattle.std.proofs.lemmas.List.Sums.{sum_by-append}
use Rattle.mufom_host.specs.World.{HoldBytes, NamedFile, file_named}
use Rattle.mufom_records.specs.declared.options.ReadOptions.{ReadOptions}
use Rattle.mufom_module.specs.declared.module.Parts.{Parts}
use Rattle.mufom_words.specs.Tree.{Forest, leaves}
use Rattle.mufom_words.specs.Sound.{numbers_from}
use Rattle.mufom_meaning.specs.Selection.{member_at, members_at}
use Rattle.mufom_meaning.specs.Staging.{AreValid}
use Rattle.mufom_meaning.specs.StagingLaws.{total_weight}
use Rattle.mufom_groups.specs.Groups.{most_weight}
use Rattle.mufom_groups.specs.Linked.{IsFlatList, members, roots}
use Rattle.mufom_groups.proofs.LinkWalk.{valid-append, valid-drop, valid-members, weight-append, weight-split}
use Rattle.mufom_groups.proofs.RefusedLaws.{members-between}
use Rattle.mufom_groups.proofs.Selecting.{Rise, rise-all}
use Rattle.mufom_task.specs.Inputs.{AreModules, ComeTo, HasFileModules, HaveBytes, accepted}
use Rattle.mufom_task.proofs.RootLaws.{root-module}
use Rattle.mufom_run_laws.proofs.Members.{modules-light}

-- ---- the modules of files

-- The modules weigh at most ten times as much as the files have bytes, and each root has one.
record AreRead (roots : ℕ) (names contents : List (List ℕ)) (ms : List Parts) : Type 0 where
  pub light : total_weight ms ≤ 10 * sum_by length contents
  pub count : roots ≤ length names → roots ≤ length ms

module _ (options : ReadOptions) (files : List NamedFile) (bytes : HoldBytes files) where
  -- a file more
  more-count : (root : Bool) (roots : ℕ) (first : List ℕ) (own later : List Parts) → nat_lt 0 roots ≡ root → HasFileModules options root first own
      → roots - 1 ≤ length later → roots ≤ length (own ++ later)
  more-count true roots first own later is has rest =
      let (m, same, is_one) = root-module options first own has in
      let one : length own ≡ 1 = ap (λ (l : List Parts). length l) same in
      let both = length-append own later in
      omega (arith, one, both, rest)
  more-count false roots first own later is has rest = let none = ltb-false 0 roots is in omega (arith, none)

  are-read : (roots : ℕ) (names contents : List (List ℕ)) (ms : List Parts) → HaveBytes files names contents → AreModules options roots contents ms
      → AreRead roots names contents ms
  are-read roots [] [] ms have are = subst (AreRead roots [] []) (sym are) (record { light = omega arith; count = λ few. few })
  are-read roots (name ∷ names) [] ms have are = absurd cc
  are-read roots [] (first ∷ contents) ms have are = absurd cc
  are-read roots (name ∷ names) (first ∷ contents) ms have (own, later, split, has, rest) =
      let there : file_named name files ≡ Some first = cc in
      let others : HaveBytes files names contents = cc in
      let after = are-read (roots - 1) names contents later others rest in
      let light = modules-light options (nat_lt 0 roots) first own (bytes name first there) has in
      let sum = weight-append own later in
      let lengths = sum_by-append length (first ∷ []) contents in
      let light_after = after.light in
      subst (AreRead roots (name ∷ names) (first ∷ contents)) (sym split) (record {
        light = omega (arith, sum, lengths, light, light_after);
        count = λ enough.
            let fewer : roots - 1 ≤ length names = omega (arith, enough) in
            more-count (nat_lt 0 roots) roots first own later refl has (after.count fewer);
      })

-- ---- selected members

member-light : (n x : ℕ) (ms : List Parts) → n ≤ x
    → total_weight (member_at (slice_get ms x)) + total_weight (drop (suc x) ms) ≤ total_weight (drop n ms)
member-light zero zero [] least = omega arith
member-light zero (suc x) [] least = omega arith
member-light (suc n) zero ms least = absurd (omega (arith, least))
member-light (suc n) (suc x) [] least = omega arith
member-light zero zero (m ∷ ms) least = let sum = weight-append (m ∷ []) ms in omega (arith, sum)
member-light zero (suc x) (m ∷ ms) least =
    let later = member-light zero x ms (omega arith) in
    let sum = weight-append (m ∷ []) ms in
    omega (arith, later, sum)
member-light (suc n) (suc x) (m ∷ ms) least = member-light n x ms (omega (arith, least))

members-light : (n : ℕ) (ms : List Parts) (chosen : List ℕ) → Rise n chosen → total_weight (members_at ms chosen) ≤ total_weight (drop n ms)
members-light n ms [] rise = omega arith
members-light n ms (x ∷ chosen) (least, rise) =
    let later = members-light (x + 1) ms chosen rise in
    let next : x + 1 ≡ suc x = omega arith in
    let same : total_weight (drop (x + 1) ms) ≡ total_weight (drop (suc x) ms) = ap (λ (k : ℕ). total_weight (drop k ms)) next in
    let own = member-light n x ms least in
    let sum = weight-append (member_at (slice_get ms x)) (members_at ms chosen) in
    omega (arith, later, same, own, sum)

-- ---- the flat list

module _ (tree : Forest) (ms flat : List Parts) (is : IsFlatList tree ms flat) where
  pub flat-valid : AreValid ms → AreValid flat
  flat-valid valid =
      let (chosen, selected, same) = is in
      subst AreValid (sym same)
      (valid-append (roots tree ms) (members_at (members tree ms) chosen) (valid-members ms (leaves tree) valid)
      (valid-members (members tree ms) chosen (valid-drop (length (leaves tree)) ms valid)))

  module _ (numbered : leaves tree ≡ numbers_from 0 (length (leaves tree))) where
    abbrev count : ℕ
    count = length (leaves tree)

    roots-first : roots tree ms ≡ take count ms
    roots-first = ap (members_at ms) numbered ∙ members-between 0 count ms

    pub flat-light : total_weight flat ≤ total_weight ms
    flat-light =
        let (chosen, selected, same) = is in
        let whole : total_weight flat ≡ total_weight (roots tree ms ++ members_at (members tree ms) chosen) = ap total_weight same in
        let sum = weight-append (roots tree ms) (members_at (members tree ms) chosen) in
        let first : total_weight (roots tree ms) ≡ total_weight (take count ms) = ap total_weight roots-first in
        let others = members-light 0 (members tree ms) chosen (rise-all chosen selected.increasing) in
        let both = weight-split count ms in
        omega (arith, whole, sum, first, others, both)

    pub flat-some : 0 < count → 0 < length ms → flat ≢ []
    flat-some leaf some none =
        let (chosen, selected, same) = is in
        let empty : take count ms ++ members_at (members tree ms) chosen ≡ [] =
        ap (λ (l : List Parts). l ++ members_at (members tree ms) chosen) (sym roots-first) ∙ sym same ∙ none in
        by count ms leaf some empty where
          by : (k : ℕ) (list : List Parts) → 0 < k → 0 < length list → take k list ++ members_at (members tree ms) is.0 ≡ [] → ⊥
          by zero list leaf some empty = absurd (omega (arith, leaf))
          by (suc k) [] leaf some empty = absurd (omega (arith, some))
          by (suc k) (m ∷ list) leaf some empty = absurd cc

-- ---- the modules of a run

module _ (options : ReadOptions) (roots : ℕ) (files : List NamedFile) (names : List (List ℕ)) (ms : List Parts) (bytes : HoldBytes files)
    (come : ComeTo options roots files names (accepted ms)) where
  -- there are as many modules as roots, if there are as many files
  pub all-count : roots ≤ length names → roots ≤ length ms
  all-count = (are-read options files bytes roots names come.0 ms come.1.bytes come.1.modules).count

  pub all-light : total_weight ms ≤ most_weight
  all-light =
      let light = (are-read options files bytes roots names come.0 ms come.1.bytes come.1.modules).light in
      let within = come.1.within in
      omega (arith, light, within)
