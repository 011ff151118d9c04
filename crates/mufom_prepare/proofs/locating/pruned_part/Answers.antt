use Rattle.mufom_works.proofs.KeptLaws.{prune-ends, pruned-names}
use Rattle.mufom_prepare.proofs.PartLaws.{part-is}
use Rattle.mufom_prepare.proofs.locating.pruned_part.Goals as goal

pub returns-in-Err-clause-stops : goal.returns-in-Err-clause-stops
returns-in-Err-clause-stops c =
    prune-ends (record { names = c.args.names.now; stays = c.args.stays.now }) c.args.whole.now.«module» c.in-Err.refusal c.in-Err.ensures.refused

pub returns-in-Ok-left_origins-clause-ok : goal.returns-in-Ok-left_origins-clause-ok
returns-in-Ok-left_origins-clause-ok c =
    part-is (record { names = c.args.names.now; stays = c.args.stays.now }) c.args.whole.now c.in-Ok.left c.in-Ok-left_origins.origins c.in-Ok.ensures.pruned c.in-Ok.ensures.known
    c.in-Ok-left_origins.ensures.ok

pub returns-in-Ok-left_origins-clause-names : goal.returns-in-Ok-left_origins-clause-names
returns-in-Ok-left_origins-clause-names c =
    pruned-names c.in-Ok.left.«module» c.args.whole.now.«module» (record { names = c.args.names.now; stays = c.args.stays.now })
    c.in-Ok.ensures.pruned.pruned c.requires.names
