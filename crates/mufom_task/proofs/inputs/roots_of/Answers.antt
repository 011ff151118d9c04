use Rattle.std.proofs.Common.{ℕ, List, length, ap, ◌∙◌}
use Rattle.mufom_words.specs.declared.command.Mark.{Mark}
use Rattle.mufom_groups.specs.Groups.{files_of}
use Rattle.mufom_groups.proofs.WholeLink.{files-of-marks}
use Rattle.mufom_task.proofs.inputs.roots_of.Goals as goal

pub returns : goal.returns
returns c = c.file_count.ensures ∙ ap (λ (l : List Mark). length (files_of l)) c.as_slice.ensures
    ∙ ap (λ (l : List ℕ). length l) (files-of-marks c.args.inputs.now.marks (length c.args.inputs.now.files) c.requires.tree)
