-- A module without a defect has fewer than 2^32 publics, and fewer than 2^32 references.
use Rattle.std.proofs.Common.{◌<◌, ◌^◌, length, arith}
use Rattle.mufom_module.specs.declared.module.Parts.{Parts}
use Rattle.mufom_module.specs.declared.module.Defect.TheVariants as kinds
use Rattle.mufom_module.specs.Defects.{IsValid}
use Rattle.mufom_module.specs.Written.{weight}
use Rattle.mufom_module.proofs.EntryCounts.{publics-count, references-count}
use Rattle.mufom_numbers.proofs.Choices.{of_not_le}
use Rattle.mufom_meaning.proofs.NoDefects.{no_defect}

weighs : (m : Parts) → IsValid m → weight m < 2 ^ 32
weighs m valid = of_not_le (2 ^ 32) (weight m) (no_defect m valid kinds.Weight)

pub few-publics : (m : Parts) → IsValid m → length m.names.publics < 2 ^ 32
few-publics m valid = let a = weighs m valid in let b = publics-count m in omega (arith, a, b)

pub few-references : (m : Parts) → IsValid m → length m.names.references < 2 ^ 32
few-references m valid = let a = weighs m valid in let b = references-count m in omega (arith, a, b)
