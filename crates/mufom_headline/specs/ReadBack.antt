-- Files of modules: what a later run reads from them, and their bytes.
use Rattle.std.specs.Prelude.{◌≡◌, ◌↔◌, ◌<◌, ◌≤◌, ℕ, Bool, true, List, [], ◌∷◌, length, slice_get, Some}
use Rattle.mufom_numbers.specs.declared.limits.TheConstants.{MOST_FILE_BYTES}
use Rattle.mufom_host.specs.World.{NamedFile, file_named}
use Rattle.mufom_module.specs.declared.module.Parts.{Parts}
use Rattle.mufom_module.specs.Defects.{IsValid}
use Rattle.mufom_module.specs.Made.{IsMade}
use Rattle.mufom_module.specs.Written.{written}
use Rattle.mufom_judging.specs.Judging.{IsModule}
use Rattle.mufom_groups.specs.Work.{gives}
use Rattle.mufom_task.specs.declared.task.Inputs.{Inputs}
use Rattle.mufom_task.specs.Calls.{Call}
use Rattle.mufom_task.specs.Inputs.{module_files, root_count}
use Rattle.mufom_task.specs.Reading.{modules_in}
use Rattle.mufom_works.specs.Run.{MakesFile}

-- The module is one of those that are read for a task, at the place of the file with this number and name. A root has the place of its file.
pub record IsReadAt (files : List NamedFile) (c : Inputs) (ms : List Parts) (k : ℕ) (name : List ℕ) (m : Parts) : Type 0 where
  pub place : ℕ
  pub file : slice_get (module_files files c) place ≡ Some (record { number = k; name = name })
  pub read : slice_get ms place ≡ Some m
  pub root : k < root_count c → place ≡ k

-- The written form of the module is a file of this module, with its debug part, and of no other module, whether or not the forms of GNU binutils are
-- accepted. A task that does not skip debug parts and whose files are accepted reads this module from each file with these bytes, whether or not other
-- files are archives. A task whose only file has these bytes accepts it.
pub record IsReadBack (m : Parts) : Type 0 where
  pub file : (gnu : Bool) (n : Parts) → IsModule (record { debug = true; gnu = gnu }) (written m) n ↔ (n ≡ m)
  pub place : (files : List NamedFile) (c : Inputs) (ms : List Parts) (k : ℕ) (name : List ℕ)
      → file_named name files ≡ Some (written m) → c.options.debug ≡ true → slice_get c.files k ≡ Some name → modules_in files c (gives ms)
      → IsReadAt files c ms k name m
  pub alone : (files : List NamedFile) (c : Inputs) (name : List ℕ)
      → file_named name files ≡ Some (written m) → c.options.debug ≡ true → c.files ≡ name ∷ [] → modules_in files c (gives (m ∷ []))

-- Modules without a defect are read back if their files are not too long and their numbers and strings fit the types of a module. All values of the
-- type `Module` are like that.
abbrev pub WrittenFilesAreReadBack : Type 0
WrittenFilesAreReadBack = (m : Parts) → IsValid m → IsMade m → length (written m) ≤ MOST_FILE_BYTES → IsReadBack m

-- The output of a run is the file with this name and the bytes of the module, and nothing else. A later run reads this module from it if the file is not
-- too long.
pub record IsPutInFile (out : List ℕ) (m : Parts) (call : Call) : Type 0 where
  pub made : MakesFile out (written m) call
  pub read_back : length (written m) ≤ MOST_FILE_BYTES → IsReadBack m
