use Rattle.std.proofs.Common.{◌≡◌, drop}
use Rattle.std.specs.Prelude.{slice_get}
use Rattle.mufom_origins.specs.Words.{all_files, listed_files}
use Rattle.mufom_origins.proofs.files.ModuleFiles.find.Given as goal

-- the place is the rest among the modules of the files that are left
abbrev pub invariant-loop-file : goal.invariant-loop-file
invariant-loop-file l = slice_get (listed_files (drop l.file-index l.file-items)) l.rest ≡ slice_get (all_files l.self) l.place
