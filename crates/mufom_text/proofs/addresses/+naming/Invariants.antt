use Rattle.std.proofs.Common.{◌≡◌, ◌++◌, map, take}
use Rattle.mufom_debug.specs.Marks.{marks_of}
use Rattle.mufom_text.specs.Image.{names_of}
use Rattle.mufom_text.proofs.addresses.+naming.Given as goal

abbrev pub invariant-push_names-loop-item : goal.invariant-push_names-loop-item
invariant-push_names-loop-item l = map (λ name. name.now) l.names.items ≡ map (λ name. name.now) l.fn.names.items
    ++ names_of (marks_of (take l.item-index l.items))
