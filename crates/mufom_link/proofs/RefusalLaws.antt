-- The facts that a link finds, one after another, give the result in place of the link.
use Rattle.std.proofs.Common.{◌≡◌, ◌<◌, ◌≤◌, List, [], ◌∷◌, length, Some, None, option_map, refl, sym, arith, Ok, subst, ℕ}
use Rattle.mufom_expr.specs.Tree.{Tree}
use Rattle.mufom_module.specs.declared.module.Parts.{Parts}
use Rattle.mufom_place.specs.Facts.{◌or_else◌}
use Rattle.mufom_names.specs.Index.{Entry}
use Rattle.mufom_meaning.specs.Flat.{flat_sections, flat_starts, public_names}
use Rattle.mufom_meaning.specs.Facts.{duplicate, duplicate_start}
use Rattle.mufom_meaning.specs.FactLaws.{NoLinkAnswerIsLinkable}
use Rattle.mufom_meaning.specs.Joined.{IsJoined}
use Rattle.mufom_meaning.specs.Staging.{AreValid, StandsFor, HasSettledReferences}
use Rattle.mufom_meaning.specs.StagingLaws.{JoinedStandsFor}
use Rattle.mufom_meaning.specs.LinkAnswer.{first_mismatch, first_duplicate, two_starts, link_answer}
use Rattle.mufom_refusals.specs.declared.link.LinkRefusal.{LinkRefusal}
use Rattle.mufom_refusals.specs.declared.link.LinkRefusal.TheVariants.{Mismatch, Duplicate, DuplicateStart, NoMemory}
use Rattle.mufom_link.specs.Publics.{indexed, IsRefusedName}
use Rattle.mufom_link.specs.Refusals.{IsRefusalOf}
use Rattle.mufom_link.proofs.PublicsLaws.{indexed-all, indexed-fails}

-- more than one start, or not
two : (starts : List Tree) → 1 < length starts → two_starts starts ≡ Some duplicate_start
two [] h = absurd (omega (arith, h))
two (t ∷ []) h = absurd (omega (arith, h))
two (t ∷ u ∷ more) h = refl

one : (starts : List Tree) → length starts ≤ 1 → two_starts starts ≡ None
one [] h = refl
one (t ∷ []) h = refl
one (t ∷ u ∷ more) h = absurd (omega (arith, h))

module _ (ms : List Parts) (alike : first_mismatch ms ≡ None) where
  -- an error in names is the result if the descriptors are alike
  pub names-refused : (e : LinkRefusal) → IsRefusedName [] 0 (public_names ms) e → IsRefusalOf ms e
  names-refused NoMemory h = tt
  names-refused (Duplicate name) h =
      let twice = indexed-fails (public_names ms) name h in
      λ i. alike i or_else (option_map duplicate (twice i) or_else two_starts (flat_starts ms))
  names-refused (Mismatch first other) h = absurd h
  names-refused DuplicateStart h = absurd h

  pub starts-refused : first_duplicate [] (public_names ms) ≡ None → 1 < length (flat_starts ms) → link_answer ms ≡ Some duplicate_start
  starts-refused once h =
      let starts = two (flat_starts ms) h in
      λ i. alike i or_else (option_map duplicate (once i) or_else starts i)

  pub nothing-refused : first_duplicate [] (public_names ms) ≡ None → length (flat_starts ms) ≤ 1 → link_answer ms ≡ None
  nothing-refused once h =
      let starts = one (flat_starts ms) h in
      λ i. alike i or_else (option_map duplicate (once i) or_else starts i)

-- if the descriptors are alike, all names are new and one module at most has a start, nothing keeps the list from being linked
pub linkable : (ms : List Parts) (index : List Entry) (count : ℕ) → None ≡ first_mismatch ms → indexed [] 0 (public_names ms) ≡ Ok index
    → count ≡ length (flat_starts ms) → count ≤ 1 → link_answer ms ≡ None
linkable ms index count alike new counted few = nothing-refused ms (sym alike) (indexed-all (public_names ms) index new).0 (omega (arith, counted, few))

-- what the laws state of the link of such a list
pub stands : (ms : List Parts) (M parts : Parts) (name : List ℕ) → JoinedStandsFor → NoLinkAnswerIsLinkable → link_answer ms ≡ None
    → M ≡ parts → IsJoined parts ms name → AreValid ms
    → StandsFor M ms × (M.sections ≡ flat_sections ms) × (public_names (M ∷ []) ≡ public_names ms) × HasSettledReferences M
stands ms M parts name law answer none same link all =
    law M ms name (subst (λ (m : Parts). IsJoined m ms name) (sym same) link) all
