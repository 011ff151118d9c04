-- The references of a list, resolved module by module, are those of its link.
use Rattle.std.proofs.Common.{◌≡◌, ℕ, ◌+◌, ◌<◌, ◌≤◌, ◌^◌, subst, List, [], ◌∷◌, ◌++◌, length, map, refl, sym, ap, ◌∙◌, append_assoc, append-nil}
use Rattle.std.proofs.Common.{length-append, arith}
use Rattle.std.specs.List.{AllByRecursion}
use Rattle.mufom_expr.specs.declared.token.Letter.{Letter}
use Rattle.mufom_names.specs.declared.name.Reference.{Reference}
use Rattle.mufom_names.specs.Keys.{IsShortReference}
use Rattle.mufom_module.specs.declared.module.Parts.{Parts}
use Rattle.mufom_module.specs.Defects.{IsValid}
use Rattle.mufom_module.specs.Made.{IsMade}
use Rattle.mufom_meaning.specs.Flat.{flat_references, public_names}
use Rattle.mufom_meaning.specs.Joined.{kept_references}
use Rattle.mufom_meaning.specs.StagingLaws.{total_weight}
use Rattle.mufom_link.specs.References.{kept_with, kept_after, targets_after, target_in, AreResolved}
use Rattle.mufom_link.proofs.CountLaws.{all-references, short-references}
use Rattle.mufom_link.proofs.ReferenceLaws.{kept-all, kept_after-append, targets-stay, kept-longer, kept-has}

-- What is found so far, with the result for the references of the modules that are left, is the whole.
pub record IsResolving (ms rest : List Parts) (targets : List (Letter × ℕ)) (kept : List Reference) : Type 0 where
  pub found : targets ++ targets_after (public_names ms) kept (flat_references rest) ≡ targets_after (public_names ms) [] (flat_references ms)
  pub left : kept_after (public_names ms) kept (flat_references rest) ≡ kept_references ms
  pub short : AllByRecursion IsShortReference kept
  pub few : length kept + length (flat_references rest) ≤ length (flat_references ms)

none-short : (rs : List Reference) → rs ≡ [] → AllByRecursion IsShortReference rs
none-short [] e = tt
none-short (r ∷ rs) e = absurd cc

pub resolving-begins : (ms : List Parts) (targets : List (Letter × ℕ)) (kept : List Reference) → targets ≡ [] → kept ≡ [] → IsResolving ms ms targets kept
resolving-begins ms targets kept none empty = record {
  found = (λ i. none i ++ targets_after (public_names ms) (empty i) (flat_references ms));
  left = ap (λ rs. kept_after (public_names ms) rs (flat_references ms)) empty ∙ kept-all (public_names ms) (flat_references ms);
  short = none-short kept empty;
  few = let e : length kept ≡ 0 = ap length empty in omega (arith, e);
}

pub resolving-ends : (ms : List Parts) (targets : List (Letter × ℕ)) (kept : List Reference) → IsResolving ms [] targets kept → AreResolved ms targets kept
resolving-ends ms targets kept h =
    let names = public_names ms in
    let all = flat_references ms in
    record {
      variables =
          sym (append-nil targets) ∙ h.found ∙ targets-stay names [] all []
          ∙ ap (λ end. map (target_in names end) all) (ap (kept_after names []) (append-nil all) ∙ kept-all names all);
      references = h.left;
    }

-- one part of the references after another
targets_after-append : (names : List (List ℕ)) (kept rs qs : List Reference)
    → targets_after names kept (rs ++ qs) ≡ targets_after names kept rs ++ targets_after names (kept_after names kept rs) qs
targets_after-append names kept [] qs = refl
targets_after-append names kept (r ∷ rs) qs = ap (λ ts. target_in names kept r ∷ ts) (targets_after-append names (kept_with names kept r) rs qs)

module _ (ms : List Parts) (light : total_weight ms < 2 ^ 32) (m : Parts) (rest : List Parts) (targets : List (Letter × ℕ)) (kept : List Reference)
    (h : IsResolving ms (m ∷ rest) targets kept) where
  pub references-fit : length kept + length m.names.references < 2 ^ 32
  references-fit =
      let a = length-append m.names.references (flat_references rest) in
      let b = h.few in
      let c = all-references ms in
      omega (arith, a, b, c, light)

  pub resolving-more : IsValid m → IsMade m → (new : List (Letter × ℕ)) (later : List Reference)
      → new ≡ targets ++ targets_after (public_names ms) kept m.names.references → later ≡ kept_after (public_names ms) kept m.names.references
      → IsResolving ms rest new later
  resolving-more valid made new later found kept_now = record {
    found =
        (λ i. found i ++ targets_after (public_names ms) (kept_now i) (flat_references rest))
        ∙ append_assoc targets (targets_after (public_names ms) kept m.names.references)
        (targets_after (public_names ms) (kept_after (public_names ms) kept m.names.references) (flat_references rest))
        ∙ ap (λ ts. targets ++ ts) (sym (targets_after-append (public_names ms) kept m.names.references (flat_references rest)))
        ∙ h.found;
    left =
        ap (λ rs. kept_after (public_names ms) rs (flat_references rest)) kept_now
        ∙ sym (kept_after-append (public_names ms) kept m.names.references (flat_references rest))
        ∙ h.left;
    short = subst (AllByRecursion IsShortReference) (sym kept_now)
        (kept-has (public_names ms) IsShortReference kept m.names.references h.short (short-references m valid made));
    few =
        let b = length-append m.names.references (flat_references rest) in
        let c = kept-longer (public_names ms) kept m.names.references in
        let d = ap length kept_now in
        let e = h.few in
        omega (arith, b, c, d, e);
  }
