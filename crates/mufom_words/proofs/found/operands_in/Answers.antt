use Rattle.std.proofs.Common.{◌∙◌, map, codes}
use Rattle.clap.specs.Matches.{found_of}
use Rattle.clap.proofs.WalkLemmas.{raw_values-rows}
use Rattle.mufom_words.proofs.FoundLaws.{none_given, some_given}
use Rattle.mufom_words.proofs.found.operands_in.Goals as goal

pub returns-clause-some : goal.returns-clause-some
returns-clause-some c = some_given (λ s. map (λ v. v.now) s.now) c.get_strs.result _ (c.get_strs.ensures
    ∙ raw_values-rows (found_of c.args.matches.now) (codes "files"))

pub returns-clause-none : goal.returns-clause-none
returns-clause-none c = none_given (λ s. map (λ v. v.now) s.now) c.get_strs.result _ (c.get_strs.ensures
    ∙ raw_values-rows (found_of c.args.matches.now) (codes "files"))
