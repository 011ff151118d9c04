use Rattle.mufom_archive.specs.Reading.{members_in}
use Rattle.mufom_members.proofs.Prefixes.{gathered_prefix}
use Rattle.mufom_members.proofs.archive.Gatherer.stop.Goals as goal

pub returns-clause-stops : goal.returns-clause-stops
returns-clause-stops c = λ stream has.
    gathered_prefix c.args.self stream has (members_in c.finish-listing.result) c.finish-listing.result.error (c.finish-listing.ensures stream has.0)
    c.bad_header-header.result c.nameless-nameless.result (c.bad_header-header.ensures stream has.0) (c.nameless-nameless.ensures stream has.0)
    c.first_stop.result c.prefix_stop.result c.first_stop.ensures c.prefix_stop.ensures
