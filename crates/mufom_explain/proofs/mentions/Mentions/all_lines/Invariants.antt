use Rattle.std.proofs.Common.{flat_map, take}
use Rattle.mufom_explain.specs.Flat.{parts_of, wanted_names}
use Rattle.mufom_explain.specs.Mentions.{name_lines}
use Rattle.mufom_explain.proofs.mentions.Mentions.all_lines.Given as goal

abbrev pub invariant-loop-place : goal.invariant-loop-place
invariant-loop-place g l = g.K.Output.takes l.fn.out l.out
    (flat_map (name_lines (parts_of l.self.flat.now)) (take l.place (wanted_names l.self.wanted)))
