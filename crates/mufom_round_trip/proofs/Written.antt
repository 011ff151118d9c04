-- What is written of a module is the stream of that module.
use Rattle.std.proofs.Common.{◌≤◌, Bool, true, length}
use Rattle.mufom_module.specs.declared.module.Parts.{Parts}
use Rattle.mufom_module.specs.Written.{written}
use Rattle.mufom_module.specs.Defects.{IsValid}
use Rattle.mufom_module.specs.Made.{IsMade}
use Rattle.mufom_module.specs.Grammar.{file_limit}
use Rattle.mufom_write.proofs.Stated.{stated}
use Rattle.mufom_judging.specs.Judging.{IsModule}

pub written-is-module : (m : Parts) → IsValid m → IsMade m → length (written m) ≤ file_limit → (gnu : Bool)
    → IsModule (record { debug = true; gnu = gnu }) (written m) m
written-is-module m valid made few gnu = stated m valid made few gnu
