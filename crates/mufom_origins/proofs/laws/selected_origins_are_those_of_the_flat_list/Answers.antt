use Rattle.std.proofs.Common.{ℕ, List, ◌++◌, drop, take, option_map, ap, ◌∙◌, arith}
use Rattle.std.specs.Prelude.{slice_get}
use Rattle.mufom_module.specs.declared.module.Parts.{Parts}
use Rattle.mufom_origins.specs.Origins.{FileModule, numbered, origin_of}
use Rattle.mufom_origins.specs.Places.{with_chosen}
use Rattle.mufom_origins.proofs.FlatLaws.{chosen-map, get-numbered, members-chosen, modules-numbered}
use Rattle.mufom_origins.proofs.laws.selected_origins_are_those_of_the_flat_list.Goals as goal

pub returns-clause-origins : goal.returns-clause-origins
returns-clause-origins c ms roots chosen = chosen-map origin_of roots chosen (numbered ms)

pub returns-clause-modules : goal.returns-clause-modules
returns-clause-modules c ms roots chosen =
    chosen-map (λ (f : FileModule). f.1) roots chosen (numbered ms)
    ∙ ap (with_chosen roots chosen) (modules-numbered 0 ms)
    ∙ ap (λ (xs : List Parts). take roots ms ++ xs) (members-chosen (drop roots ms) chosen)

pub returns-clause-file : goal.returns-clause-file
returns-clause-file c ms number =
    get-numbered 0 ms number ∙ ap (λ (k : ℕ). option_map (λ (m : Parts). let f : FileModule = (k, m) in f) (slice_get ms number)) (omega arith)
