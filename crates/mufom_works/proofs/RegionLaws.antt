-- The first region with a name, among more and more of them.
use Rattle.std.proofs.Common.{◌≡◌, ℕ, ◌+◌, ◌<◌, List, [], ◌∷◌, ◌++◌, length, take, drop, get_or, Option, Some, None, Bool, true, false, sym, ap, ◌∙◌}
use Rattle.std.proofs.Common.{if◌then◌else◌}
use Rattle.std.specs.List.{find}
use Rattle.std.specs.Option.{option_or}
use Rattle.std.specs.Str.{bytes_eq}
use Rattle.std.proofs.lemmas.List.{drop_more, take-append-drop, take_more}
use Rattle.std.proofs.lemmas.List.Folds.{find-append}
use Rattle.mufom_plan.specs.declared.plan.Region.{Region}
use Rattle.mufom_works.specs.Works.{region_named}

module _ (regions : List Region) (name : List ℕ) (i : ℕ) (r : Region) (inside : i < length regions) (is : r ≡ get_or regions i r)
    (before : region_named (take i regions) name ≡ None) where
  abbrev test : Region → Bool
  test region = bytes_eq region.name name

  -- one more that does not have it
  pub named-later : bytes_eq r.name name ≡ false → region_named (take (i + 1) regions) name ≡ None
  named-later other =
      ap (λ (l : List Region). region_named l name) (take_more regions i r inside ∙ ap (λ (x : Region). take i regions ++ x ∷ []) (sym is))
      ∙ find-append test (take i regions) (r ∷ [])
      ∙ ap (λ (o : Option Region). option_or o (find test (r ∷ []))) before
      ∙ ap (λ b. if b then Some r else None) other

  -- the one that has it
  pub named-here : bytes_eq r.name name ≡ true → region_named regions name ≡ Some r
  named-here same =
      ap (λ (l : List Region). region_named l name)
      (sym (take-append-drop i regions) ∙ ap (λ (l : List Region). take i regions ++ l)
      (drop_more regions i r inside ∙ ap (λ (x : Region). x ∷ drop (i + 1) regions) (sym is)))
      ∙ find-append test (take i regions) (r ∷ drop (i + 1) regions)
      ∙ ap (λ (o : Option Region). option_or o (find test (r ∷ drop (i + 1) regions))) before
      ∙ ap (λ b. if b then Some r else find test (drop (i + 1) regions)) same
