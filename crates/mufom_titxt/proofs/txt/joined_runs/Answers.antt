use Rattle.mufom_image_bytes.specs.Loaded.{loaded_cells}
use Rattle.mufom_titxt.proofs.TxtLaws.{refusal_names}
use Rattle.mufom_titxt.proofs.txt.joined_runs.Goals as goal

pub twice_address-requires : goal.twice_address-requires
twice_address-requires c =
    refusal_names (loaded_cells c.args.loaded) c.in-Err-Refused.field-0 c.in-Err-Refused.stop c.requires.low c.in-Err-Refused.field-0-is
    c.in-Err-Refused.ensures.refusal
