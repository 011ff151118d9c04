use Rattle.mufom_records.proofs.OwnTokens.{own-tokens-of}
use Rattle.mufom_records.proofs.before.own_record.Goals as goal

pub returns-clause-tokens : goal.returns-clause-tokens
returns-clause-tokens c =
    own-tokens-of c.args.mode c.args.input.now c.read_record.new.row c.read_record.result _ c.read_record.ensures.whole c.read_record.ensures.tokens
