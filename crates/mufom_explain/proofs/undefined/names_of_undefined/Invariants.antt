use Rattle.std.proofs.Common.{◌≡◌, ◌≤◌, length, map, take}
use Rattle.mufom_names.specs.Index.{numbered_from}
use Rattle.mufom_explain.proofs.UndefinedLaws.{undefined_among}
use Rattle.mufom_explain.proofs.undefined.names_of_undefined.Given as goal

-- the names of the undefined references so far, no more than these are
abbrev pub invariant-loop-place : goal.invariant-loop-place
invariant-loop-place l =
    (l.index ≡ numbered_from 0 (map (λ name. name.now) l.names.items))
    × (map (λ name. name.now) l.names.items ≡ undefined_among l.module (take l.place l.module.names.references))
    × (length l.names.items ≤ l.place)
