use Rattle.std.proofs.Common.{◌≡◌, take, sum_by}
use Rattle.mufom_module.specs.Weights.{capped, note_weight}
use Rattle.mufom_module.proofs.weight.notes_weight.Given as goal

abbrev pub invariant-loop-note : goal.invariant-loop-note
invariant-loop-note l = l.total ≡ capped (sum_by note_weight (take l.note-index l.notes))
