use Rattle.std.proofs.Common.{◌++◌, List, flat_map, sym, subst}
use Rattle.mufom_module.specs.declared.module.Parts.{Parts}
use Rattle.mufom_text.specs.Words.{each}
use Rattle.mufom_explain.specs.Flat.{flat_of, wanted_names}
use Rattle.mufom_explain.specs.Mentions.{name_lines, named_line}
use Rattle.mufom_explain.proofs.LineLaws.{flat-parts}
use Rattle.mufom_origins.specs.Words.{all_files}
use Rattle.mufom_explain.proofs.mentions.Mentions.put.Goals as goal

pub returns : goal.returns
returns g c =
    let flat = c.args.self.now.flat.now in let wanted = wanted_names c.args.self.now.wanted in
    subst (λ (ms : List Parts). g.K.Output.takes c.args.out.now c.module_lines.new.out
    (flat_map (name_lines ms) wanted ++ each (named_line (all_files c.args.names.now) wanted) (flat_of flat))) (sym (flat-parts flat))
    (g.met.K.Output.joins _ _ _ _ _ c.all_lines.ensures c.module_lines.ensures)
