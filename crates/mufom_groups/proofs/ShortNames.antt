-- The name of a module without a defect is no longer than a string of the format may be.
use Rattle.std.proofs.Common.{◌≡◌, ◌<◌, ◌^◌, false, length, rules}
use Rattle.mufom_module.specs.declared.module.Parts.{Parts}
use Rattle.mufom_module.specs.declared.module.Defect.TheVariants as d
use Rattle.mufom_module.specs.Defects.{IsValid, is_long}
use Rattle.mufom_meaning.proofs.NoDefects.{no_defect}
use Rattle.mufom_meaning.proofs.Tests.{either_false}

pub short-name : (m : Parts) → IsValid m → length m.name < 2 ^ 16
short-name m valid =
    let strings = no_defect m valid d.LongId in
    let is_short : is_long m.name ≡ false = (either_false (is_long m.name) _ (either_false (is_long m.processor) _ strings).1).0 in
    search (rules, is_short)
