-- The flat list with its files, and the maps of lists that mean the same, and of what is kept of them.
use Rattle.std.proofs.Common.{◌≡◌, ℕ, zero, suc, List, [], ◌∷◌, ◌++◌, length, take, drop, option_to_list, Option, None, refl, sym, ap, ◌∙◌, inl, inr}
use Rattle.std.specs.Prelude.{slice_get}
use Rattle.mufom_module.specs.declared.module.Parts.{Parts}
use Rattle.mufom_plan.specs.declared.plan.Plan.{Plan}
use Rattle.mufom_planned.specs.Layout.{Layout}
use Rattle.mufom_planned.specs.PlanSymbols.{with_symbols}
use Rattle.mufom_planned.specs.Planned.{IsPlanned}
use Rattle.mufom_planned.proofs.Alike.{layout_same}
use Rattle.mufom_works.specs.Same.{AreSame}
use Rattle.mufom_planned.specs.PlanLaws.{HasSoundSymbols}
use Rattle.mufom_meaning.specs.declared.located.LocatedParts.{LocatedParts}
use Rattle.mufom_meaning.proofs.locations.SelectionSingle.{selection_is_single}
use Rattle.mufom_words.specs.Sound.{numbers_from}
use Rattle.mufom_words.specs.Tree.{Forest, leaves}
use Rattle.mufom_groups.specs.Linked.{members, roots}
use Rattle.mufom_groups.specs.Work.{IsSingle, one_with}
use Rattle.mufom_groups.proofs.Works.{one_with-single}
use Rattle.mufom_origins.specs.declared.origins.Origin.{Origin}
use Rattle.mufom_origins.specs.Origins.{numbered, origin_of, origins_of}
use Rattle.mufom_origins.specs.Places.{at_positions, with_chosen}
use Rattle.mufom_origins.proofs.FlatLaws.{chosen-map}
use Rattle.mufom_map.specs.Mapped.{mapped_by, planned_layout}
use Rattle.mufom_prune.specs.Pruned.{Remains}
use Rattle.mufom_works.specs.Works.{Kept, kept_origins, mapped_kept}
use Rattle.mufom_works.specs.FlatFiles.{AreFlatFiles, files_with}
use Rattle.mufom_outcome.specs.Stop.{Stop}
use Rattle.mufom_works.proofs.EndLaws.{unshared}
use Rattle.mufom_works.proofs.LocatingLaws.{AreAlike}

-- there is one flat list with its files
pub flat-files-single : (tree : Forest) (ms : List Parts) → IsSingle {S = Stop} (one_with (AreFlatFiles tree ms))
flat-files-single tree ms = one_with-single (AreFlatFiles tree ms) (λ a b is_a is_b.
    is_a.2 ∙ ap (files_with tree ms) (selection_is_single (roots tree ms) (members tree ms) is_a.0 is_b.0 is_a.1 is_b.1) ∙ sym is_b.2)

-- ---- a tree whose files are the first ones in their order

none-at : {X : Type 0} (ns : List ℕ) → at_positions {X = X} [] ns ≡ []
none-at [] = refl
none-at (zero ∷ ns) = none-at ns
none-at (suc n ∷ ns) = none-at ns

take-none : {X : Type 0} (k : ℕ) → take {A = X} k [] ≡ []
take-none zero = refl
take-none (suc k) = refl

later-at : {X : Type 0} (x : X) (xs : List X) (n k : ℕ) → at_positions (x ∷ xs) (numbers_from (suc n) k) ≡ at_positions xs (numbers_from n k)
later-at x xs n zero = refl
later-at x xs n (suc k) = ap (λ more. option_to_list (slice_get xs n) ++ more) (later-at x xs (suc n) k)

first-at : {X : Type 0} (k : ℕ) (xs : List X) → at_positions xs (numbers_from 0 k) ≡ take k xs
first-at k [] = none-at (numbers_from 0 k) ∙ sym (take-none k)
first-at zero (x ∷ xs) = refl
first-at (suc k) (x ∷ xs) = ap (λ more. x ∷ more) (later-at x xs 0 k ∙ first-at k xs)

pub origins-with : (tree : Forest) → leaves tree ≡ numbers_from 0 (length (leaves tree)) → (ms : List Parts) (chosen : List ℕ)
    → with_chosen (length (leaves tree)) chosen (origins_of (numbered ms)) ≡ origins_of (files_with tree ms chosen)
origins-with tree first ms chosen =
    let ns = leaves tree in
    sym (chosen-map origin_of (length ns) chosen (numbered ms))
    ∙ ap (λ first. origins_of (first ++ at_positions (drop (length ns) (numbered ms)) chosen))
    (sym (ap (at_positions (numbered ms)) first ∙ first-at (length ns) (numbered ms)))

-- ---- lists that mean the same

-- the plan places the same for both lists
layouts-same : (ms leaves : List Parts) → AreSame ms leaves → (plan : Plan) → HasSoundSymbols plan → (r : LocatedParts) → IsPlanned ms plan r
    → planned_layout ms plan ≡ planned_layout leaves plan
layouts-same ms leaves same plan symbols r is =
    let alike = same.alike plan symbols in
    layout_same (with_symbols ms plan) (with_symbols leaves plan) plan (alike.meaning (unshared leaves plan (sym alike.answers ∙ is.locates)))

pub same-map : (ms leaves : List Parts) → AreSame ms leaves → (origins : List Origin) (plan : Plan) → HasSoundSymbols plan → (r : LocatedParts)
    → IsPlanned ms plan r → mapped_by origins (planned_layout ms plan) r ≡ mapped_by origins (planned_layout leaves plan) r
same-map ms leaves same origins plan symbols r is = ap (λ (l : Layout). mapped_by origins l r) (layouts-same ms leaves same plan symbols r is)

-- of all of a list a map shows the list
shown-whole : (origins : List Origin) (plan : Plan) (kept : Kept) (r : LocatedParts) → kept.rest ≡ None
    → mapped_kept origins plan kept r ≡ mapped_by origins (planned_layout kept.modules plan) r
shown-whole origins plan kept r none = ap (λ (rest : Option Remains). mapped_by (kept_origins rest origins) (planned_layout kept.modules plan) r) none

-- what a map shows of what is kept of a link is what it shows of what is kept of the list
pub alike-shown : (origins : List Origin) (plan : Plan) → HasSoundSymbols plan → (own kept : Kept) → AreAlike own kept → (r : LocatedParts)
    → IsPlanned own.modules plan r → mapped_kept origins plan own r ≡ mapped_kept origins plan kept r
alike-shown origins plan symbols own kept (inl same) r is = ap (λ (k : Kept). mapped_kept origins plan k r) same
alike-shown origins plan symbols own kept (inr (none, no_rest, means)) r is =
    shown-whole origins plan own r none ∙ same-map own.modules kept.modules means origins plan symbols r is ∙ sym (shown-whole origins plan kept r no_rest)
