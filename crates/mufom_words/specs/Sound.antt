-- What holds for each command that arguments give.
use Rattle.std.specs.Prelude.{◌≡◌, ℕ, zero, suc, ◌≤◌, List, [], ◌∷◌, length, true, false, Some, None, Ok, IfSome, IsSome}
use Rattle.mufom_words.specs.declared.command.Command.{Command}
use Rattle.mufom_words.specs.declared.command.Mark.{Mark}
use Rattle.mufom_words.specs.declared.command.Verb.TheVariants as verb
use Rattle.mufom_words.specs.declared.form.Form.{Form}
use Rattle.mufom_words.specs.declared.form.Operands.TheVariants as operands
use Rattle.mufom_words.specs.declared.options.Setting.TheVariants as setting
use Rattle.mufom_words.specs.Options.{Text, are_files, has_option, operands_for}
use Rattle.mufom_numbers.specs.declared.limits.TheConstants.{MOST_MODULES, MOST_STRING_BYTES}
use Rattle.mufom_words.specs.Tree.{spelling, tree_of, leaves}
use Rattle.mufom_words.specs.Answer.{answer_for, most_files}

-- this many consecutive numbers, from `n` on
abbrev pub numbers_from : ℕ → ℕ → List ℕ
numbers_from n zero = []
numbers_from n (suc count) = n ∷ numbers_from (suc n) count

-- The marks are those of a tree of files. Its leaves are the first of this many files, in their order.
pub record HasTree (marks : List Mark) (count : ℕ) : Type 0 where
  pub spelled : spelling (tree_of marks) ≡ marks
  pub numbered : leaves (tree_of marks) ≡ numbers_from 0 (length (leaves (tree_of marks)))
  pub within : length (leaves (tree_of marks)) ≤ count

-- If the operands of the command are files, the tree has a file; otherwise there are no files. A command for one file has exactly one, and
-- there are no more files than a run may have.
pub record HasFiles (c : Command) : Type 0 where
  pub some : are_files (operands_for c.verb) ≡ true → 1 ≤ length (leaves (tree_of c.marks))
  pub none : are_files (operands_for c.verb) ≡ false → c.files ≡ []
  pub one : operands_for c.verb ≡ Some operands.OneFile → length c.files ≡ 1
  pub few : length c.files ≤ most_files

-- By the table of commands: there is an output file if and only if the command has `-o`, and without `--plan`, `--name` and `--keep` it
-- names no plan, no module, and no symbols to keep.
-- The name of a module is not too long, a count is within its bounds, an address has 1 to 8 bytes, and a command that prints
-- a text of the program has one.
pub record HasOptions (c : Command) : Type 0 where
  pub out : has_option setting.Out c.verb ≡ true → IsSome c.out
  pub no_out : has_option setting.Out c.verb ≡ false → c.out ≡ None
  pub no_plan : has_option setting.Plan c.verb ≡ false → c.plan ≡ None
  pub no_name : has_option setting.Name c.verb ≡ false → c.name ≡ None
  pub count : operands_for c.verb ≡ Some operands.OneCount → (1 ≤ c.count) × (c.count ≤ MOST_MODULES)
  pub no_keep : has_option setting.Keep c.verb ≡ false → c.keep ≡ []
  pub maus : (1 ≤ c.maus) × (c.maus ≤ 8)
  pub short : IfSome c.name (λ name. length name ≤ MOST_STRING_BYTES)
  pub help : c.verb ≡ verb.Help → IsSome c.help
  pub version : c.verb ≡ verb.Version → IsSome c.help

pub record IsSound (c : Command) : Type 0 where
  pub tree : HasTree c.marks (length c.files)
  pub files : HasFiles c
  pub options : HasOptions c

-- Each command that arguments give is sound, by whichever row of the table they are read.
abbrev pub CommandsAreSound : Type 0
CommandsAreSound = (f : Form) (words : List Text) (c : Command) → answer_for (Some f) words ≡ Ok c → IsSound c
