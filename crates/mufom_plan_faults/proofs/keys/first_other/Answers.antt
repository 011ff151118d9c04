use Rattle.std.proofs.Common.{◌∙◌, ap, sym, string_bytes}
use Rattle.std.specs.Prelude.{option_map}
use Rattle.mufom_plan_faults.specs.Keys.{keys_for}
use Rattle.mufom_plan_faults.proofs.KeyLaws.{first_other-members, option_map-both}
use Rattle.mufom_plan_faults.proofs.keys.first_other.Goals as goal

pub returns : goal.returns
returns c =
    sym (option_map-both (λ key. key.now) string_bytes c.find_other.result)
    ∙ ap (option_map string_bytes) c.find_other.ensures
    ∙ first_other-members (keys_for c.args.place) c.args.table.now.entries
