-- The operands, which are the arguments that are not options: files in groups, members, or a count. The error returned is that of the
-- first operand that has one, or else that of the end.
use Rattle.std.specs.Prelude.{ℕ, zero, suc, ◌-◌, ◌==◌, ◌&&◌, nat_lt, nat_le, max, Bool, true, false, not, List, [], ◌∷◌, length, map, filter, Option}
use Rattle.std.specs.Prelude.{Some, None, Result, Ok, Err, codes, unwrap_or, is_none, if◌then◌else◌}
use Rattle.std.specs.List.{list_all}
use Rattle.std.specs.Str.{bytes_eq}
use Rattle.std.specs.Int.Digits.{number_from_digits}
use Rattle.mufom_numbers.specs.declared.limits.TheConstants.{MOST_MODULES}
use Rattle.mufom_words.specs.declared.command.Mark.{Mark}
use Rattle.mufom_words.specs.declared.command.Mark.TheVariants.{Open, Close, File}
use Rattle.mufom_words.specs.declared.form.Operands.{Operands}
use Rattle.mufom_words.specs.declared.form.Operands.TheVariants.{OneFile, SomeFiles, GroupedFiles, OneCount}
use Rattle.mufom_words.specs.declared.operands.FileWord.{FileWord}
use Rattle.mufom_words.specs.declared.operands.FileWord.TheVariants.{Opening, Closing, Plus, Name}
use Rattle.mufom_words.specs.declared.operands.Walk.{Walk}
use Rattle.mufom_words.specs.declared.operands.Walk.TheVariants.{Tree, Members}
use Rattle.mufom_words.specs.declared.stop.UsageFault.{UsageFault}
use Rattle.mufom_words.specs.declared.stop.UsageFault.TheVariants as fault
use Rattle.mufom_words.specs.Options.{Text}

-- ---- files

-- the kind of an operand in a list of files
abbrev pub word_of : Text → FileWord
word_of word = if bytes_eq word (codes "[") then Opening else (if bytes_eq word (codes "]") then Closing
    else (if bytes_eq word (codes "+") then Plus else Name))

abbrev pub file_words : List Text → List FileWord
file_words words = map word_of words

-- the number of open groups
abbrev pub depth_in : Walk → ℕ
depth_in (Tree depth opened any) = depth
depth_in (Members any) = 0

-- the state after the next operand, or the error in it
abbrev pub step : Walk → FileWord → Result Walk UsageFault
step (Tree depth opened any) Opening = Ok (Tree (suc depth) true any)
step (Tree zero opened any) Closing = Err fault.StrayBracket
step (Tree (suc depth) true any) Closing = Err fault.EmptyGroup
step (Tree (suc depth) false any) Closing = Ok (Tree depth false any)
step (Tree zero opened true) Plus = Ok (Members false)
step (Tree zero opened false) Plus = Err fault.BadMembers
step (Tree (suc depth) opened any) Plus = Err fault.BadMembers
step (Tree depth opened any) Name = Ok (Tree depth false true)
step (Members any) Opening = Err fault.BadMembers
step (Members any) Closing = Err fault.StrayBracket
step (Members any) Plus = Err fault.BadMembers
step (Members any) Name = Ok (Members true)

-- the error at the end of the operands: an open group, no file, or no member after the `+`
abbrev pub end_fault : Walk → Option UsageFault
end_fault (Tree (suc depth) opened any) = Some fault.OpenGroup
end_fault (Tree zero opened false) = Some fault.NoFile
end_fault (Tree zero opened true) = None
end_fault (Members false) = Some fault.BadMembers
end_fault (Members true) = None

abbrev pub unless_fault : Result Walk UsageFault → (Walk → Option UsageFault) → Option UsageFault
unless_fault (Ok walk) next = next walk
unless_fault (Err f) next = Some f

-- the first error in the operands that follow
abbrev pub fault_from : Walk → List FileWord → Option UsageFault
fault_from walk [] = end_fault walk
fault_from walk (word ∷ words) = unless_fault (step walk word) (λ next. fault_from next words)

-- the first error in files in groups, and in members
abbrev pub grouped_fault : List FileWord → Option UsageFault
grouped_fault words = fault_from (Tree 0 false false) words

-- the first error in files, for a command without groups
abbrev pub plain_fault_from : Bool → List FileWord → Option UsageFault
plain_fault_from any [] = if any then None else Some fault.NoFile
plain_fault_from any (Opening ∷ words) = Some fault.StrayBracket
plain_fault_from any (Closing ∷ words) = Some fault.StrayBracket
plain_fault_from any (Plus ∷ words) = Some fault.BadMembers
plain_fault_from any (Name ∷ words) = plain_fault_from true words

abbrev pub is_name : FileWord → Bool
is_name Name = true
is_name _ = false

-- the names of files among the operands, those of members included
abbrev pub names_in : List Text → List Text
names_in words = filter (λ word. is_name (word_of word)) words

-- the marks of the tree of files, which are numbered from `n` on; the tree ends at a `+`
abbrev pub marks_from : ℕ → List FileWord → List Mark
marks_from n [] = []
marks_from n (Opening ∷ words) = Open ∷ marks_from n words
marks_from n (Closing ∷ words) = Close ∷ marks_from n words
marks_from n (Plus ∷ words) = []
marks_from n (Name ∷ words) = File n ∷ marks_from (suc n) words

-- the greatest number of groups that are open at once, if `depth` are open before
abbrev pub depth_from : ℕ → List FileWord → ℕ
depth_from depth [] = depth
depth_from depth (Opening ∷ words) = max depth (depth_from (suc depth) words)
depth_from depth (Closing ∷ words) = max depth (depth_from (depth - 1) words)
depth_from depth (Plus ∷ words) = depth
depth_from depth (Name ∷ words) = max depth (depth_from depth words)

-- ---- numbers

abbrev pub is_digit : ℕ → Bool
is_digit b = nat_le 48 b && nat_le b 57

-- the number that decimal digits state
abbrev pub decimal_number : List ℕ → ℕ
decimal_number digits = number_from_digits 10 (map (λ b. b - 48) digits)

abbrev pub is_count : ℕ → Bool
is_count n = nat_le 1 n && nat_le n MOST_MODULES

-- plain decimal digits for 1 to 65,536; leading zeros are allowed
abbrev pub count_of : Text → Option ℕ
count_of word = if not (length word == 0) && (list_all is_digit word && is_count (decimal_number word)) then Some (decimal_number word) else None

abbrev pub first_count : List Text → Option ℕ
first_count [] = None
first_count (word ∷ words) = count_of word

-- ---- by the operands of the command

abbrev pub operands_fault : Operands → List Text → Option UsageFault
operands_fault OneFile words = plain_fault_from false (file_words words)
operands_fault SomeFiles words = plain_fault_from false (file_words words)
operands_fault GroupedFiles words = grouped_fault (file_words words)
operands_fault OneCount words = None

-- the error for a number of operands that the command does not take
abbrev pub number_fault : Operands → List Text → Option UsageFault
number_fault OneFile words = if nat_lt 1 (length words) then Some fault.FileCount else None
number_fault SomeFiles words = None
number_fault GroupedFiles words = None
number_fault OneCount words = if length words == 1 then None else Some fault.FileCount

abbrev pub count_fault : Operands → List Text → Option UsageFault
count_fault OneCount words = if is_none (first_count words) then Some fault.BadCount else None
count_fault _ words = None

-- the names of the files, in order
abbrev pub files_of : Operands → List Text → List Text
files_of OneCount words = []
files_of _ words = names_in words

-- the marks of the tree of files
abbrev pub marks_of : Operands → List Text → List Mark
marks_of OneCount words = []
marks_of _ words = marks_from 0 (file_words words)

-- the greatest depth of groups
abbrev pub depth_of : Operands → List Text → ℕ
depth_of OneCount words = 0
depth_of _ words = depth_from 0 (file_words words)

-- the count, or 0 if the command takes none
abbrev pub number_of : Operands → List Text → ℕ
number_of OneCount words = unwrap_or (first_count words) 0
number_of _ words = 0
