use Rattle.std.proofs.Common.{◌*◌, ◌≤◌, length, ◌∙◌, sym, ap, refl, map, List, Some, subst}
use Rattle.std.specs.List.{sum_by}
use Rattle.mufom_module.specs.declared.module.Parts.{Parts}
use Rattle.mufom_module.specs.Written.{weight}
use Rattle.mufom_archive.specs.Reading.{members_in}
use Rattle.mufom_members.specs.Files.{IsArchiveVerdict, accepted}
use Rattle.mufom_members.specs.Reading.{first_stop}
use Rattle.mufom_members.proofs.Finishing.{gathered_modules, gathered_stop, listing_names, no_fault}
use Rattle.mufom_members.proofs.Weights.{gathered_weigh}
use Rattle.mufom_members.proofs.archive.Gatherer.finish.Goals as goal

pub returns-in-Some-clause-modules : goal.returns-in-Some-clause-modules
returns-in-Some-clause-modules c = λ stream has.
    gathered_stop c.args.self stream has (members_in c.finish-listing.result) c.finish-listing.result.error (c.finish-listing.ensures stream has.0)
    c.in-Some.stop (ap (λ r. first_stop r c.finish-listing.result.error) (sym c.into_parts-modules.ensures.refusal) ∙ sym c.in-Some.ensures)

pub returns-in-Some-clause-fault : goal.returns-in-Some-clause-fault
returns-in-Some-clause-fault c = no_fault c.into_parts-modules.result.1 c.finish-listing.result.error c.in-Some.stop (sym c.in-Some.ensures)

pub returns-in-Ok-clause-modules : goal.returns-in-Ok-clause-modules
returns-in-Ok-clause-modules c = λ stream has. (
  Some (map (λ m. m.name) (members_in c.finish-listing.result)),
  subst (λ (l : List Parts). IsArchiveVerdict c.args.self.gathered.options stream (accepted (Some (map (λ m. m.name) (members_in c.finish-listing.result))) l))
      (sym c.into_parts-modules.ensures.modules)
      (gathered_modules c.args.self stream has (members_in c.finish-listing.result) c.finish-listing.result.error (c.finish-listing.ensures stream has.0)
      (ap (λ r. first_stop r c.finish-listing.result.error) (sym c.into_parts-modules.ensures.refusal) ∙ sym c.first_stop.ensures ∙ c.in_default.is)),
  listing_names c.finish-listing.result
      (record { entries = c.in-Ok.entries; error = c.finish-listing.result.error; names = c.finish-listing.result.names }) c.in-Ok.ensures refl,
)

pub returns-in-Ok-clause-weighs : goal.returns-in-Ok-clause-weighs
returns-in-Ok-clause-weighs c = λ stream has.
    subst (λ (l : List Parts). sum_by weight l ≤ 10 * length stream) (sym c.into_parts-modules.ensures.modules) (gathered_weigh c.args.self stream has)
