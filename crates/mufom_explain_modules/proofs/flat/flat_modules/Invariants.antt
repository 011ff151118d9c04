use Rattle.std.proofs.Common.{◌≡◌, ◌≤◌, length, take}
use Rattle.mufom_origins.specs.Origins.{numbered}
use Rattle.mufom_origins.specs.Places.{at_positions}
use Rattle.mufom_explain.specs.Flat.{flat_of}
use Rattle.mufom_explain_modules.proofs.flat.flat_modules.Given as goal

abbrev pub invariant-loop-file : goal.invariant-loop-file
invariant-loop-file l =
    (flat_of l.flat.items ≡ at_positions (numbered l.fn.modules) (take l.file-index l.files)) × (length l.flat.items ≤ l.file-index)
