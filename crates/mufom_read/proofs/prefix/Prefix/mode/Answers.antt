use Rattle.std.proofs.Common.{◌∙◌, ap, sym, cond}
use Rattle.mufom_records.specs.declared.record.Mode.TheVariants as modes
use Rattle.mufom_module.specs.RecordParts.{items_mode}
use Rattle.mufom_read.specs.PrefixOfCode.{as_location, mode_at}
use Rattle.mufom_read.proofs.stepping.PrefixLaws.{items-prefix}
use Rattle.mufom_read.proofs.prefix.Prefix.mode.Goals as goal

pub returns-in-Part : goal.returns-in-Part
returns-in-Part c = λ prefix is.
    c.body_mode.ensures
    ∙ ap (λ b. cond b (items_mode c.args.options) modes.Body) (c.may_go_on.ensures
    ∙ items-prefix c.args.self.now prefix c.in-Part.extent.from c.args.rest.now is)
    ∙ sym (ap (λ pl. mode_at c.args.options prefix (as_location pl) c.args.rest.now) c.in-Part.is)
