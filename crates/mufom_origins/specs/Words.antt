-- The words for a module: its position, its name, and the file from which it was read.
use Rattle.std.specs.Prelude.{ℕ, zero, suc, List, [], ◌∷◌, ◌++◌, Option, Some, None, flat_map, slice_get, slice_index_or, unwrap_or, codes}
use Rattle.mufom_archive.specs.declared.listing.Listing.{Listing}
use Rattle.mufom_members.specs.Names.{name_at}
use Rattle.mufom_text.specs.Words.{Text, quoted}
use Rattle.mufom_text.specs.Digits.{counted}
use Rattle.mufom_origins.specs.declared.files.ReadFile.{ReadFile}
use Rattle.mufom_origins.specs.declared.files.ModuleFiles.{ModuleFiles as Held}

-- the names of files, as they were given
abbrev pub FileNames : Type 0
FileNames = List (List ℕ)

-- the name of the file with a number
abbrev pub file_name : FileNames → ℕ → List ℕ
file_name names n = slice_index_or names n []

-- The file of a module: its number among the files that are named, and its name as it was given. For a member of an archive, the name of
-- the member follows in parentheses.
pub record ModuleFile : Type 0 where
  pub number : ℕ
  pub name : List ℕ

-- the files of all modules, in the order in which the modules were read
abbrev pub ModuleFiles : Type 0
ModuleFiles = List ModuleFile

-- the name of a member: that of the archive, and its own in parentheses
abbrev pub member_word : List ℕ → List ℕ → List ℕ
member_word name member = name ++ (codes "(" ++ (member ++ codes ")"))

-- the files of modules each of which is alone in its file; the files have these names, and numbers from this one on
abbrev pub one_each : ℕ → FileNames → ModuleFiles
one_each n [] = []
one_each n (name ∷ names) = record { number = n; name = name } ∷ one_each (suc n) names

-- ---- the files that the code holds

-- the name of the module at this position in a file
abbrev pub word_at : List ℕ → Option Listing → ℕ → List ℕ
word_at name None k = name
word_at name (Some l) k = member_word name (unwrap_or (name_at (Some l) k) [])

abbrev pub file_at : ReadFile → ℕ → ModuleFile
file_at f k = record { number = f.number; name = word_at f.name f.listing k }

-- the files of so many modules of a file, from this position on
abbrev pub own_from : ReadFile → (position count : ℕ) → List ModuleFile
own_from f k zero = []
own_from f k (suc n) = file_at f k ∷ own_from f (suc k) n

abbrev pub own_files : ReadFile → List ModuleFile
own_files f = own_from f 0 f.modules

abbrev pub listed_files : List ReadFile → ModuleFiles
listed_files files = flat_map own_files files

-- The files of all modules.
abbrev pub all_files : Held → ModuleFiles
all_files files = listed_files files.files

-- ---- texts

-- a file by its number and its name, if there is one
abbrev pub file_text : Option ModuleFile → Text
file_text None = []
file_text (Some f) = counted (codes " file ") f.number ++ (codes ": " ++ quoted f.name)

-- A module by its position in the flat list, with its name and its file. `place` is its place among all modules that were read.
abbrev pub module_text : ModuleFiles → ℕ → ℕ → List ℕ → Text
module_text files j place name = counted (codes "module ") j ++ (codes " " ++ (quoted name ++ file_text (slice_get files place)))
