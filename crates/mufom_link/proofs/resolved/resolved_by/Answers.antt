use Rattle.std.proofs.Common.{◌≡◌, ℕ, ◌+◌, ◌++◌, List, ◌∷◌, ◌∙◌, ap, sym, subst, length, drop, arith}
use Rattle.std.specs.List.{AllByRecursion}
use Rattle.std.proofs.lemmas.List.{drop_more, drop_all}
use Rattle.mufom_names.specs.Index.{Entry, keys_of, numbered_from}
use Rattle.mufom_names.specs.Keys.{IsShortReference}
use Rattle.mufom_names.proofs.PositionLaws.{keys-numbered}
use Rattle.mufom_module.specs.declared.module.Parts.{Parts}
use Rattle.mufom_meaning.specs.Flat.{public_names}
use Rattle.mufom_link.specs.References.{kept_after, targets_after, keyed, AreResolved}
use Rattle.mufom_link.proofs.CountLaws.{short-references}
use Rattle.mufom_link.proofs.ResolvingLaws.{IsResolving, resolving-begins, resolving-ends, references-fit, resolving-more}
use Rattle.mufom_link.proofs.resolved.resolved_by.Goals as goal

names-are : (entries : List Entry) (names : List (List ℕ)) → entries ≡ numbered_from 0 names → keys_of entries ≡ names
names-are entries names e = ap keys_of e ∙ keys-numbered 0 names

pub loop-module-init : goal.loop-module-init
loop-module-init c =
    let h = c.new-references.ensures in
    (resolving-begins c.args.list.now c.in_ok-targets.targets c.new-references.result.kept c.in_ok-targets.ensures h.kept, h.keys ∙ ap keyed (sym h.kept))

pub resolve-requires : goal.resolve-requires
resolve-requires c =
    let modules = c.args.list.now in
    let i = c.loop-module.module-index in
    let m = c.module-item.result in
    let rest = drop (i + 1) modules in
    let targets = c.loop-module.targets in
    let kept = c.loop-module.references.kept in
    let left : drop i modules ≡ m ∷ rest = drop_more modules i m c.loop-module-test.true ∙ ap (λ (q : Parts). q ∷ rest) (sym c.module-item.is) in
    let so_far = subst (λ xs. IsResolving modules xs targets kept) left c.loop-module.invariant.0 in
    let own = c.as_slice-own.ensures ∙ ap (λ (q : Parts). q.names.references) c.parts.ensures.same in
    let many = ap length own in
    let fit = references-fit modules c.requires.light m rest targets kept so_far in
    record {
      publics = c.requires.publics ∙ sym (ap (numbered_from 0) (names-are c.args.publics.now (public_names modules) c.requires.publics));
      keyed = c.loop-module.invariant.1;
      short = subst (AllByRecursion IsShortReference) (sym own) (short-references m c.parts.ensures.valid c.parts.ensures.made);
      kept_short = so_far.short;
      room = omega (arith, many, fit);
    }

pub loop-module-preserved : goal.loop-module-preserved
loop-module-preserved c =
    let modules = c.args.list.now in
    let i = c.loop-module.module-index in
    let m = c.module-item.result in
    let rest = drop (i + 1) modules in
    let targets = c.loop-module.targets in
    let kept = c.loop-module.references.kept in
    let left : drop i modules ≡ m ∷ rest = drop_more modules i m c.loop-module-test.true ∙ ap (λ (q : Parts). q ∷ rest) (sym c.module-item.is) in
    let so_far = subst (λ xs. IsResolving modules xs targets kept) left c.loop-module.invariant.0 in
    let own = c.as_slice-own.ensures ∙ ap (λ (q : Parts). q.names.references) c.parts.ensures.same in
    let names = names-are c.args.publics.now (public_names modules) c.requires.publics in
    let found = c.in_ok-resolve.ensures.targets ∙ (λ j. targets ++ targets_after (names j) kept (own j)) in
    let later = c.in_ok-resolve.ensures.kept ∙ (λ j. kept_after (names j) kept (own j)) in (
      resolving-more modules c.requires.light m rest targets kept so_far c.parts.ensures.valid c.parts.ensures.made c.resolve.new.targets
          c.resolve.new.self.kept found later,
      c.in_ok-resolve.ensures.keys,
    )

pub returns : goal.returns
returns c =
    let modules = c.args.list.now in
    let targets = c.loop-module.targets in
    let kept = c.loop-module.references.kept in
    let none = drop_all c.loop-module.module-index modules c.loop-module-test.false in
    let all = subst (λ xs. IsResolving modules xs targets kept) none c.loop-module.invariant.0 in
    subst (AreResolved modules targets) (sym c.into_kept.ensures) (resolving-ends modules targets kept all)
