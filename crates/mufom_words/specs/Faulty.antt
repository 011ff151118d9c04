-- The argument that an error in the arguments is about. The option parser of `clap` reports the kind of an error without its place, so the place is
-- defined here, over the arguments, read from left to right.
use Rattle.std.specs.Prelude.{ℕ, ◌+◌, ◌==◌, ◌&&◌, ◌||◌, nat_eq, nat_lt, not, Bool, true, false, List, [], ◌∷◌, ◌++◌, length, drop, filter, fold, Option}
use Rattle.std.specs.Prelude.{Some, None, Ok, Err, Result, codes, option_to_list, if◌then◌else◌}
use Rattle.std.specs.List.{find, list_any, starts_with}
use Rattle.std.specs.Option.{option_or}
use Rattle.std.specs.Str.{bytes_eq}
use Rattle.mufom_words.specs.declared.command.Verb.{Verb}
use Rattle.mufom_words.specs.declared.command.Verb.TheVariants as verb
use Rattle.mufom_words.specs.declared.faulty.FaultyArgument.{FaultyArgument}
use Rattle.mufom_words.specs.declared.faulty.FaultyArgument.TheVariants.{Word, Missing, Nothing}
use Rattle.mufom_words.specs.declared.form.Form.{Form}
use Rattle.mufom_words.specs.declared.form.Operands.{Operands}
use Rattle.mufom_words.specs.declared.form.Operands.TheVariants as operands
use Rattle.mufom_words.specs.declared.operands.FileWord.{FileWord}
use Rattle.mufom_words.specs.declared.operands.FileWord.TheVariants.{Opening, Closing, Plus, Name}
use Rattle.mufom_words.specs.declared.operands.Walk.{Walk}
use Rattle.mufom_words.specs.declared.operands.Walk.TheVariants.{Tree}
use Rattle.mufom_words.specs.declared.options.Setting.{Setting}
use Rattle.mufom_words.specs.declared.options.Setting.TheVariants as setting
use Rattle.mufom_words.specs.declared.roles.PlacedOperand.{PlacedOperand}
use Rattle.mufom_words.specs.declared.roles.Reading.{Reading}
use Rattle.mufom_words.specs.declared.roles.Reading.TheVariants as reading
use Rattle.mufom_words.specs.declared.roles.Role.{Role}
use Rattle.mufom_words.specs.declared.roles.Role.TheVariants as role
use Rattle.mufom_words.specs.declared.stop.UsageFault.{UsageFault}
use Rattle.mufom_words.specs.declared.stop.UsageFault.TheVariants as fault
use Rattle.mufom_words.specs.Help.{own_verb}
use Rattle.mufom_words.specs.Operands.{is_name, step, word_of}
use Rattle.mufom_words.specs.Options.{Text, form_of, id_of, is_required, usage_of}

-- ---- options

-- how the option is written in front of its value
abbrev pub spelling_of : Setting → Text
spelling_of setting.NoDebug = codes "--no-debug"
spelling_of setting.Gnu = codes "--gnu"
spelling_of setting.Name = codes "--name"
spelling_of setting.Plan = codes "--plan"
spelling_of setting.Out = codes "-o"
spelling_of setting.Listing = codes "--listing"
spelling_of setting.At = codes "--at"
spelling_of setting.OptionalAt = codes "--at"
spelling_of setting.Fill = codes "--fill"
spelling_of setting.Maus = codes "--maus"
spelling_of setting.Keep = codes "--keep"
spelling_of setting.Region = codes "--region"

-- the option takes no value
abbrev pub is_flag : Setting → Bool
is_flag setting.NoDebug = true
is_flag setting.Gnu = true
is_flag setting.Listing = true
is_flag _ = false

-- the option has a short name, which its value may follow directly
abbrev pub is_short : Setting → Bool
is_short setting.Out = true
is_short _ = false

-- the option may be given several times
abbrev pub may_repeat : Setting → Bool
may_repeat setting.Keep = true
may_repeat _ = false

abbrev pub is_same : Setting → Setting → Bool
is_same a b = bytes_eq (id_of a) (id_of b)

abbrev pub is_empty : Text → Bool
is_empty [] = true
is_empty (_ ∷ _) = false

abbrev pub begins_with : ℕ → Text → Bool
begins_with b [] = false
begins_with b (first ∷ _) = first == b

-- what follows a prefix in a word, if the word begins with it
abbrev pub rest_after : Text → Text → Option Text
rest_after prefix word = if starts_with nat_eq word prefix then Some (drop (length prefix) word) else None

-- what may follow the spelling of an option in its word: nothing, the value of a short name, or `=` and a value
abbrev pub may_follow : Setting → Text → Bool
may_follow s rest = is_empty rest || (is_short s || begins_with 61 rest)

abbrev pub spells_by : Setting → Option Text → Bool
spells_by s None = false
spells_by s (Some rest) = may_follow s rest

-- the word gives the option
abbrev pub spells : Text → Setting → Bool
spells word s = spells_by s (rest_after (spelling_of s) word)

-- the word looks like an option: a `-` and more
abbrev pub is_dashed : Text → Bool
is_dashed [] = false
is_dashed (_ ∷ []) = false
is_dashed (first ∷ _ ∷ _) = first == 45

-- ---- the role of each word

-- the word gives this option
abbrev pub gives : Setting → Role → Bool
gives s (role.Flag own) = is_same own s
gives s (role.Attached own) = is_same own s
gives s (role.Detached own) = is_same own s
gives s _ = false

-- a value follows: a word that does not look like an option
abbrev pub has_value : List Text → Bool
has_value [] = false
has_value (word ∷ _) = not (is_dashed word)

-- the role of a word that gives an option, by what follows the option in the word, and the words after it
abbrev pub option_role : Setting → Text → List Text → Role
option_role s rest later = if is_flag s then (if is_empty rest then role.Flag s else role.Wrong)
    else (if not (is_empty rest) then role.Attached s else (if has_value later then role.Detached s else role.Wrong))

abbrev pub rest_role : Setting → Option Text → List Text → Role
rest_role s None later = role.Wrong
rest_role s (Some rest) later = option_role s rest later

-- the same, given the roles of the words before it: an option that one of them gives is wrong, unless it may be given several times
abbrev pub given_role : List Role → Setting → Text → List Text → Role
given_role before s word later =
    if not (may_repeat s) && list_any (gives s) before then role.Wrong else rest_role s (rest_after (spelling_of s) word) later

abbrev pub dashed_role_by : List Role → Option Setting → Text → List Text → Role
dashed_role_by before None word later = role.Wrong
dashed_role_by before (Some s) word later = given_role before s word later

-- the role of a word that looks like an option
abbrev pub dashed_role : List Setting → List Role → Text → List Text → Role
dashed_role settings before word later =
    if bytes_eq word (codes "--") then role.End else dashed_role_by before (find (spells word) settings) word later

-- The role of a word: `before` are the roles of the words before it, `later` the words after it.
abbrev pub role_of : List Setting → Reading → List Role → Text → List Text → Role
role_of settings reading.Operands before word later = role.Operand
role_of settings reading.Value before word later = role.Value
role_of settings reading.Options before word later = if is_dashed word then dashed_role settings before word later else role.Operand

-- what is read after a word with this role
abbrev pub reading_after : Reading → Role → Reading
reading_after reading.Operands r = reading.Operands
reading_after _ role.End = reading.Operands
reading_after _ (role.Detached s) = reading.Value
reading_after _ _ = reading.Options

abbrev pub unless_wrong : Role → List Role → (List Role → List Role) → List Role
unless_wrong role.Wrong roles next = roles
unless_wrong _ roles next = next roles

-- the roles of the words before, followed by those of these words, up to the first that is wrong
abbrev pub roles_from : List Setting → Reading → List Role → List Text → List Role
roles_from settings now before [] = before
roles_from settings now before (word ∷ later) =
    let r = role_of settings now before word later in
    unless_wrong r (before ++ r ∷ []) (λ roles. roles_from settings (reading_after now r) roles later)

-- The roles of the arguments after the name of a command, up to the first that is wrong.
abbrev pub roles_in : Form → List Text → List Role
roles_in f words = roles_from (usage_of f).settings reading.Options [] words

-- ---- operands

abbrev pub operand_at : Role → ℕ → Text → Option PlacedOperand
operand_at role.Operand n word = Some (record { place = n; kind = word_of word })
operand_at _ n word = None

-- the operands among the words, which are numbered from `n` on
abbrev pub placed_from : ℕ → List Role → List Text → List PlacedOperand
placed_from n [] words = []
placed_from n (r ∷ roles) [] = []
placed_from n (r ∷ roles) (word ∷ words) = option_to_list (operand_at r n word) ++ placed_from (n + 1) roles words

-- the place of an operand, if there is one
abbrev pub place_in : List PlacedOperand → Option ℕ
place_in [] = None
place_in (o ∷ _) = Some o.place

abbrev pub unless_misplaced : Result Walk UsageFault → ℕ → (Walk → Option ℕ) → Option ℕ
unless_misplaced (Ok walk) place next = next walk
unless_misplaced (Err f) place next = Some place

-- the first operand that may not follow those before it, in files in groups and in members
abbrev pub first_misplaced : Walk → List PlacedOperand → Option ℕ
first_misplaced walk [] = None
first_misplaced walk (o ∷ rest) = unless_misplaced (step walk o.kind) o.place (λ next. first_misplaced next rest)

-- the first operand that is not the name of a file, for a command without groups
abbrev pub first_mark : List PlacedOperand → Option ℕ
first_mark operands = place_in (filter (λ o. not (is_name o.kind)) operands)

abbrev pub is_plus : FileWord → Bool
is_plus Plus = true
is_plus _ = false

abbrev pub first_plus : List PlacedOperand → Option ℕ
first_plus operands = place_in (filter (λ o. is_plus o.kind) operands)

abbrev pub opened_by : FileWord → ℕ → List ℕ → List ℕ
opened_by Opening place opened = place ∷ opened
opened_by Closing place opened = drop 1 opened
opened_by _ place opened = opened

-- the places of the brackets that are open after an operand, the innermost first
abbrev pub open_after : List ℕ → PlacedOperand → List ℕ
open_after opened o = opened_by o.kind o.place opened

abbrev pub first_of : List ℕ → Option ℕ
first_of [] = None
first_of (n ∷ _) = Some n

-- the innermost bracket that is not closed
abbrev pub last_open : List PlacedOperand → Option ℕ
last_open operands = first_of (fold open_after [] operands)

-- the place of an error in operands of this form
abbrev pub misplaced : Operands → List PlacedOperand → Option ℕ
misplaced operands.GroupedFiles placed = first_misplaced (Tree 0 false false) placed
misplaced _ placed = first_mark placed

abbrev pub operand_place : Operands → UsageFault → List PlacedOperand → Option ℕ
operand_place form fault.FileCount placed = place_in (drop 1 placed)
operand_place form fault.OpenGroup placed = last_open placed
operand_place form fault.BadMembers placed = option_or (misplaced form placed) (first_plus placed)
operand_place form fault.NoFile placed = None
operand_place form fault.BadCount placed = place_in placed
operand_place form _ placed = misplaced form placed

-- ---- values of options

-- the number of the word with the value of an option, its own word or the next one; the words are numbered from `n` on
abbrev pub value_from : Setting → ℕ → List Role → Option ℕ
value_from s n [] = None
value_from s n (role.Attached own ∷ roles) = if is_same own s then Some n else value_from s (n + 1) roles
value_from s n (role.Detached own ∷ roles) = if is_same own s then Some (n + 1) else value_from s (n + 1) roles
value_from s n (_ ∷ roles) = value_from s (n + 1) roles

abbrev pub value_index : Setting → List Role → Option ℕ
value_index s roles = value_from s 1 roles

-- ---- all errors

abbrev pub is_wrong : Role → Bool
is_wrong role.Wrong = true
is_wrong _ = false

-- a required option that no word gives
abbrev pub is_missing : List Role → Setting → Bool
is_missing roles s = if is_required s then not (list_any (gives s) roles) else false

abbrev pub missing_by : Option Setting → FaultyArgument
missing_by None = Nothing
missing_by (Some s) = Missing s

-- the first required option, in the order of the command's options, that no word gives
abbrev pub first_missing : Form → List Role → FaultyArgument
first_missing f roles = missing_by (find (is_missing roles) (usage_of f).settings)

-- the word with this number
abbrev pub word_by : Option ℕ → FaultyArgument
word_by None = Nothing
word_by (Some n) = Word n

-- the number of the first word that is wrong; the words are numbered from `n` on
abbrev pub wrong_from : ℕ → List Role → Option ℕ
wrong_from n [] = None
wrong_from n (r ∷ roles) = if is_wrong r then Some n else wrong_from (n + 1) roles

abbrev pub option_faulty : Form → List Role → Option ℕ → FaultyArgument
option_faulty f roles None = first_missing f roles
option_faulty f roles (Some n) = Word n

abbrev pub takes_count : Operands → Bool
takes_count operands.OneCount = true
takes_count _ = false

-- the argument that an error in the arguments of a command is about, given their roles
abbrev pub faulty_by : Form → List Role → List Text → UsageFault → FaultyArgument
faulty_by f roles words fault.BadWords = option_faulty f roles (wrong_from 1 roles)
faulty_by f roles words fault.LongName = word_by (value_index setting.Name roles)
faulty_by f roles words fault.BadByte = word_by (value_index setting.Fill roles)
faulty_by f roles words fault.BadAddress = word_by (value_index setting.At roles)
faulty_by f roles words fault.BadCount = word_by (if takes_count (usage_of f).operands then operand_place (usage_of f).operands fault.BadCount
    (placed_from 1 roles words) else value_index setting.Maus roles)
faulty_by f roles words other = word_by (operand_place (usage_of f).operands other (placed_from 1 roles words))

-- the argument after `help` or `version` that is wrong: the first after those that it takes, or else its only one
abbrev pub own_faulty : Verb → List Text → FaultyArgument
own_faulty verb.Version words = Word 1
own_faulty _ words = Word (if nat_lt 1 (length words) then 2 else 1)

abbrev pub form_faulty : Option Form → List Text → UsageFault → FaultyArgument
form_faulty None words f = Word 0
form_faulty (Some form) words f = faulty_by form (roles_in form words) words f

abbrev pub command_faulty : Option Verb → Text → List Text → UsageFault → FaultyArgument
command_faulty None word words f = form_faulty (form_of word) words f
command_faulty (Some v) word words f = own_faulty v words

-- The argument that this error in the arguments is about. A first argument that names no command is the wrong one itself.
abbrev pub faulty_argument : List Text → UsageFault → FaultyArgument
faulty_argument [] f = Nothing
faulty_argument (word ∷ words) f = command_faulty (own_verb word) word words f
