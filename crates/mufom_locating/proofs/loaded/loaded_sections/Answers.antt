use Rattle.std.proofs.Common.{◌≡◌, ◌∙◌, ◌+◌, ◌<◌, ◌≤◌, List, Bool, Option, ℕ, length, drop, get_or, sym, ap, subst, false, refl}
use Rattle.std.specs.Prelude.{if◌then◌else◌}
use Rattle.std.proofs.lemmas.List.{drop_all}
use Rattle.mufom_loads.specs.declared.load.Load.{Load}
use Rattle.mufom_module.specs.declared.module.Parts.{Parts}
use Rattle.mufom_module.specs.Contents.{current_after}
use Rattle.mufom_link.proofs.RenamingLaws.{places}
use Rattle.mufom_locating.specs.Loaded.{marked_at, puts_bytes}
use Rattle.mufom_locating.proofs.ListLaws.{rest-next}
use Rattle.mufom_locating.proofs.LoadedLaws.{AreMarkedUpTo, all-marked, any-not, names-section, next-load}
use Rattle.mufom_locating.proofs.loaded.loaded_sections.Goals as goal

pub loop-load-preserved : goal.loop-load-preserved
loop-load-preserved c =
    let m = c.args.module.now in
    let k = c.loop-load.load-index in
    let load = c.load-item.result in
    let same = c.as_slice-load-items.ensures ∙ ap (λ (p : Parts). p.loads) c.parts-parts.ensures.same in
    let is = c.load-item.is ∙ ap (λ (xs : List Load). get_or xs k load) same in
    let less = subst (λ (xs : List Load). k < length xs) same c.loop-load-test.true in
    let next = rest-next m.loads k load less is in
    let bad = any-not m k load less is (places m c.parts-parts.ensures.valid).loads in
    let before = subst (λ rest. AreMarkedUpTo m.loads rest (length m.sections) c.loop-load.current c.loop-load.marks.items) next c.loop-load.invariant in
    subst (AreMarkedUpTo m.loads (drop (k + 1) m.loads) (length m.sections) c.current_after-current.result) (sym c.mark_loaded.ensures)
    (subst (λ current. AreMarkedUpTo m.loads (drop (k + 1) m.loads) (length m.sections) current
    (if puts_bytes load then marked_at current c.loop-load.marks.items else c.loop-load.marks.items)) (sym c.current_after-current.ensures)
    (next-load m.loads (drop (k + 1) m.loads) load (length m.sections) c.loop-load.current c.loop-load.marks.items before
    (names-section m load c.loop-load.current bad before.within)))

pub returns : goal.returns
returns c = λ n.
    let m = c.args.module.now in
    let same = c.as_slice-load-items.ensures ∙ ap (λ (p : Parts). p.loads) c.parts-parts.ensures.same in
    let past = subst (λ (xs : List Load). length xs ≤ c.loop-load.load-index) same c.loop-load-test.false in
    all-marked m (length m.sections) c.loop-load.current c.loop-load.marks.items
    (subst (λ rest. AreMarkedUpTo m.loads rest (length m.sections) c.loop-load.current c.loop-load.marks.items)
    (drop_all c.loop-load.load-index m.loads past) c.loop-load.invariant) n
