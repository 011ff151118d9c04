use Rattle.std.proofs.Common.{◌≡◌, ◌+◌, ◌++◌, ◌∷◌, [], ◌∙◌, ap, sym, subst, length, drop, append_assoc, append-nil, arith}
use Rattle.std.specs.List.{AllByRecursion}
use Rattle.std.proofs.lemmas.List.{drop_more, drop_all}
use Rattle.mufom_names.specs.declared.name.Reference.{Reference}
use Rattle.mufom_names.specs.Index.{keys_of}
use Rattle.mufom_names.specs.Keys.{IsShortReference}
use Rattle.mufom_link.specs.References.{kept_with, kept_after, target_in, targets_after}
use Rattle.mufom_link.proofs.ReferenceLaws.{one-longer, one-has, all-get}
use Rattle.mufom_link.proofs.references.References.resolve.Goals as goal

pub target-requires : goal.target-requires
target-requires c =
    let i = c.loop-reference.reference-index in
    let few = c.loop-reference.invariant.4 in
    record {
      publics = c.requires.publics;
      keyed = c.loop-reference.invariant.2;
      short = subst IsShortReference (sym c.reference-item.is) (all-get IsShortReference c.args.references.now i c.reference-item.result
          c.requires.short c.loop-reference-test.true);
      kept_short = c.loop-reference.invariant.3;
      room = omega (arith, few, c.requires.room, c.loop-reference-test.true);
    }

pub loop-reference-preserved : goal.loop-reference-preserved
loop-reference-preserved c =
    let names = keys_of c.args.publics.now in
    let references = c.args.references.now in
    let i = c.loop-reference.reference-index in
    let r = c.reference-item.result in
    let rest = drop (i + 1) references in
    let kept = c.loop-reference.self.kept in
    let targets = c.loop-reference.targets in
    let left : drop i references ≡ r ∷ rest = drop_more references i r c.loop-reference-test.true
    ∙ ap (λ (q : Reference). q ∷ rest) (sym c.reference-item.is) in
    let target = c.in_ok-target.ensures.target in
    let with_it = c.in_ok-target.ensures.kept in
    let found =
    c.in_ok-push.ensures.ok
    ∙ (λ j. targets ++ target j ∷ []) in
    let short = subst IsShortReference (sym c.reference-item.is) (all-get IsShortReference references i r c.requires.short c.loop-reference-test.true) in
    let longer = one-longer names kept r in
    let count = ap length with_it in
    let few = c.loop-reference.invariant.4 in (
      (λ j. found j ++ targets_after names (with_it j) rest)
          ∙ append_assoc targets (target_in names kept r ∷ []) (targets_after names (kept_with names kept r) rest)
          ∙ ap (λ rs. targets ++ targets_after names kept rs) (sym left)
          ∙ c.loop-reference.invariant.0,
      ap (λ k. kept_after names k rest) with_it ∙ ap (kept_after names kept) (sym left) ∙ c.loop-reference.invariant.1,
      c.in_ok-target.ensures.keys,
      subst (AllByRecursion IsShortReference) (sym with_it) (one-has names IsShortReference kept r c.loop-reference.invariant.3 short),
      omega (arith, longer, count, few),
    )

pub returns : goal.returns
returns c =
    let names = keys_of c.args.publics.now in
    let references = c.args.references.now in
    let kept = c.loop-reference.self.kept in
    let targets = c.loop-reference.targets in
    let none = drop_all c.loop-reference.reference-index references c.loop-reference-test.false in
    record {
      targets = sym (append-nil targets) ∙ ap (λ rs. targets ++ targets_after names kept rs) (sym none) ∙ c.loop-reference.invariant.0;
      kept = ap (kept_after names kept) (sym none) ∙ c.loop-reference.invariant.1;
      keys = c.loop-reference.invariant.2;
    }
