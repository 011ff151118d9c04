use Rattle.mufom_debug_laws.proofs.Skipped.{debug-parts-may-be-skipped}
use Rattle.mufom_debug_laws.proofs.laws.debug_parts_may_be_skipped.Goals as goal

pub returns : goal.returns
returns c = debug-parts-may-be-skipped
