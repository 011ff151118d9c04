use Rattle.std.proofs.Common.{◌≡◌, List, [], ◌∷◌, ◌++◌, ◌∙◌, refl, ap, subst, length, map, take, drop, arith}
use Rattle.std.specs.Vec.Iter.{into_iter_items}
use Rattle.mufom_module.specs.declared.module.Parts.{Parts}
use Rattle.mufom_meaning.specs.Flat.{flat_references, public_names}
use Rattle.mufom_meaning.specs.Joined.{kept_references}
use Rattle.mufom_link.specs.References.{target_in}
use Rattle.mufom_link.proofs.JoiningLaws.{IsUnderway, sections-fit, publics-fit, declared-fit, joined}
use Rattle.mufom_link.proofs.linking.join_lists.Goals as goal

-- what replaces the references of the next module, and of those after it
own-targets : {A B : Type 0} (f : A → B) (xs ys : List A) → take (length xs) (map f (xs ++ ys)) ≡ map f xs
own-targets f [] ys = refl
own-targets f (x ∷ xs) ys = ap (λ rest. f x ∷ rest) (own-targets f xs ys)

later-targets : {A B : Type 0} (f : A → B) (xs ys : List A) → drop (length xs) (map f (xs ++ ys)) ≡ map f ys
later-targets f [] ys = refl
later-targets f (x ∷ xs) ys = later-targets f xs ys

pub append-requires : goal.append-requires
append-requires c =
    let ms = c.args.list.items in
    let m = c.in-Some.module in
    let rest = into_iter_items c.next.new.self in
    let all = c.loop-module.joined in
    let underway = subst (λ xs. IsUnderway ms xs all) c.in-Some.ensures.steps.0 c.loop-module.invariant.underway in
    let sections = sections-fit ms c.requires.light m rest all underway in
    let publics = publics-fit ms c.requires.light m rest all underway in
    record {
      sections = omega (arith, sections);
      publics = omega (arith, publics);
      names = declared-fit ms c.requires.light m rest all underway;
    }

pub loop-module-preserved : goal.loop-module-preserved
loop-module-preserved c =
    let ms = c.args.list.items in
    let m = c.in-Some.module in
    let rest = into_iter_items c.next.new.self in
    let all = c.loop-module.joined in
    let steps = c.in-Some.ensures.steps in
    let underway = subst (λ xs. IsUnderway ms xs all) steps.0 c.loop-module.invariant.underway in
    let target = target_in (public_names ms) (kept_references ms) in
    let left : c.loop-module.rest.now ≡ map target (m.names.references ++ flat_references rest) =
    c.loop-module.invariant.variables ∙ ap (λ xs. map target (flat_references xs)) steps.0 in
    let many : c.len.result ≡ length m.names.references = c.len.ensures ∙ ap (λ (q : Parts). length q.names.references) c.parts.ensures.same in
    let own : c.split_at.result.0.now ≡ map target m.names.references =
    c.split_at.ensures.front ∙ (λ i. take (many i) (left i)) ∙ own-targets target m.names.references (flat_references rest) in
    let later : c.split_at.result.1.now ≡ map target (flat_references rest) =
    c.split_at.ensures.back ∙ (λ i. drop (many i) (left i)) ∙ later-targets target m.names.references (flat_references rest) in
    let short = ap length steps.0 in
    let gone = steps.1 in
    let counted = c.loop-module.invariant.counted in
    record {
      underway = joined ms c.requires.light m rest all underway c.parts.ensures.valid c.requires.starts c.split_at.result.0.now c.append.new.self own
          c.in_ok-append.ensures;
      variables = later;
      counted = omega (arith, short, gone, counted);
    }
