-- Writing the link of a list has a result: the program can hold the link of modules that it read.
use Rattle.std.proofs.Common.{◌≡◌, ◌≢◌, ℕ, ◌^◌, ◌<◌, ◌≤◌, List, [], ◌∷◌, length, Option, Some, None, IfSome, unwrap_or, refl, arith}
use Rattle.mufom_numbers.specs.declared.limits.TheConstants.{MOST_STRING_BYTES}
use Rattle.mufom_numbers.specs.Spelling.{AreBytes}
use Rattle.mufom_module.specs.declared.module.Parts.{Parts}
use Rattle.mufom_module.specs.Written.{written}
use Rattle.mufom_meaning.specs.Joined.{IsJoined}
use Rattle.mufom_meaning.specs.LinkAnswer.{link_answer}
use Rattle.mufom_meaning.specs.Staging.{AreValid}
use Rattle.mufom_meaning.specs.StagingLaws.{total_weight}
use Rattle.mufom_meaning.proofs.staging.JoinedValid.{joined_is_valid}
use Rattle.mufom_groups.specs.Groups.{most_weight}
use Rattle.mufom_groups.specs.Linked.{first_name, joined}
use Rattle.mufom_groups.specs.Work.{gives, with_stops}
use Rattle.mufom_groups.proofs.ShortNames.{short-name}
use Rattle.mufom_outcome.specs.Stop.{link_fact}
use Rattle.mufom_works.specs.Works.{IsHeld, linked_file, made, writes_module}
use Rattle.mufom_run_laws.specs.Results.{HasResult}
use Rattle.mufom_run_laws.proofs.BoundedInputs.{AreBounded}
use Rattle.mufom_bounds.proofs.BoundedLinks.{joined-bounded}
use Rattle.mufom_run_laws.proofs.BoundedMade.{bounded-held}
use Rattle.mufom_run_laws.proofs.Links.{links-exist}
use Rattle.mufom_run_laws.proofs.Then.{then-result}

-- a name that a link may have
pub record IsLinkName (name : List ℕ) : Type 0 where
  pub short : length name < 2 ^ 16
  pub bytes : AreBytes name

pub first-is : (ms : List Parts) → AreValid ms → AreBounded ms → IsLinkName (first_name ms)
first-is [] valid bounded = record { short = omega arith; bytes = tt }
first-is (m ∷ ms) valid bounded = let first = bounded.0 in record { short = short-name m valid.0; bytes = first.name }

module _ (list : List Parts) (some : list ≢ []) (valid : AreValid list) (bounded : AreBounded list) (light : total_weight list ≤ most_weight)
    (links : link_answer list ≡ None) where
  link-name : (given : Option (List ℕ)) → IfSome given (λ name. length name ≤ MOST_STRING_BYTES) → IfSome given AreBytes
      → IsLinkName (unwrap_or given (first_name list))
  link-name None short bytes = first-is list valid bounded
  link-name (Some name) short bytes = record { short = omega (arith, short); bytes = bytes }

  link-held : (M : Parts) (name : List ℕ) → IsLinkName name → IsJoined M list name → IsHeld M
  link-held M name is joined =
      let short = is.short in
      bounded-held M ((joined_is_valid M list name joined valid).valid short (omega (arith, short, light)))
      (joined-bounded M list name joined is.bytes bounded)

  pub linked-file-result : (given : Option (List ℕ)) (out : List ℕ) → IfSome given (λ name. length name ≤ MOST_STRING_BYTES) → IfSome given AreBytes
      → HasResult (linked_file given out list)
  linked-file-result given out short bytes =
      let name = unwrap_or given (first_name list) in
      let (M, is) = links-exist list name some links in
      then-result (with_stops link_fact (joined given list)) (λ m. writes_module out m) (gives M, is)
      (λ m is_link. (gives (made out (written m)), (link-held m name (link-name given short bytes) is_link, refl)))
