-- Each command that words give is sound.
use Rattle.std.proofs.Common.{◌≡◌, ◌≢◌, ◌≤◌, ℕ, Bool, cond, true, false, nat_lt, refl, ap, sym, ◌∙◌, arith, codes, inl, inr, ◌⊎◌, ◌||◌}
use Rattle.std.proofs.Common.{◌-◌, length, List, [], ◌∷◌, Option, Some, None, Ok, Err, subst, Result}
use Rattle.std.specs.Prelude.{IfSome, IsSome, is_none, unwrap_or, not, nat_le, ◌==◌, ◌&&◌}
use Rattle.std.specs.List.{list_all}
use Rattle.std.specs.Result.{result_unwrap_or}
use Rattle.std.proofs.lemmas.Bool.{ltb-false, leb-true}
use Rattle.std.proofs.lemmas.List.Sums.{count_by-le-length, length-filter}
use Rattle.clap.specs.Faults.{fault_of}
use Rattle.clap.specs.Kinds.{Kinds}
use Rattle.clap.specs.Simple.{matches_of}
use Rattle.clap.specs.Walk.{Row, all_of, first_of}
use Rattle.mufom_words.specs.declared.command.Command.{Command}
use Rattle.mufom_words.specs.declared.command.Mark.{Mark}
use Rattle.mufom_words.specs.declared.form.Form.{Form}
use Rattle.mufom_words.specs.declared.form.Form.TheVariants as form
use Rattle.mufom_words.specs.declared.form.Operands.{Operands}
use Rattle.mufom_words.specs.declared.form.Operands.TheVariants.{OneFile, SomeFiles, GroupedFiles, OneCount}
use Rattle.mufom_words.specs.declared.operands.FileWord.{FileWord}
use Rattle.mufom_words.specs.declared.operands.FileWord.TheVariants.{Opening, Closing, Plus, Name}
use Rattle.mufom_words.specs.declared.options.Setting.{Setting}
use Rattle.mufom_words.specs.declared.options.Setting.TheVariants as setting
use Rattle.mufom_words.specs.declared.stop.UsageFault.{UsageFault}
use Rattle.mufom_words.specs.declared.stop.UsageFault.TheVariants as fault
use Rattle.mufom_words.specs.declared.stop.WordsStop.{WordsStop}
use Rattle.mufom_words.specs.declared.stop.WordsStop.TheVariants as stop
use Rattle.mufom_words.specs.Options.{Text, Usage, Given, usage_of, app_for, are_files, form_of, demands, form_for, takes, id_of, given_by, has_option}
use Rattle.mufom_words.specs.Options.{operands_for, operands_in, settings_in}
use Rattle.mufom_words.specs.Operands.{word_of, file_words, is_name, names_in, operands_fault, number_fault, count_fault, count_of, is_digit}
use Rattle.mufom_words.specs.Operands.{decimal_number, number_of, files_of, marks_of, depth_of}
use Rattle.mufom_numbers.specs.declared.limits.TheConstants.{MOST_MODULES, MOST_STRING_BYTES}
use Rattle.std.specs.Str.{bytes_eq}
use Rattle.mufom_words.specs.declared.command.Verb.{Verb}
use Rattle.mufom_words.specs.declared.command.Verb.TheVariants as verb
use Rattle.mufom_words.specs.Help.{own_answer, own_command, own_text, own_verb, printing}
use Rattle.mufom_words.specs.Explain.{explain_answer, explain_command, may_be_explained, names_explain}
use Rattle.mufom_words.specs.Values.{maus_of}
use Rattle.mufom_words.specs.Tree.{tree_of, leaves}
use Rattle.mufom_words.specs.Answer.{◌or_else◌, most_files, given_fault, missing_fault, number_by, options_fault, name_fault}
use Rattle.mufom_words.specs.Answer.{usage_fault, value_fault, limit_stop, limit_stop_by, usage, words_stop, command_by, unless_stopped}
use Rattle.mufom_words.specs.Answer.{answer_by, answer_for, answer_of, answer_unless, given}
use Rattle.mufom_words.specs.Sound.{numbers_from, IsSound, CommandsAreSound}
use Rattle.mufom_words.proofs.TreeOfWords.{tree_count, count-some, count-some-plain, length-numbers_from, IsTreeOf, tree-of-words, tree-of-plain}

-- ---- that nothing is wrong

or_else-none : {A : Type 0} (a b : Option A) → a or_else b ≡ None → (a ≡ None) × (b ≡ None)
or_else-none None b none = (refl, none)
or_else-none (Some x) b none = absurd cc

usage-none : (found : Option UsageFault) → usage found ≡ None → found ≡ None
usage-none None none = refl
usage-none (Some f) none = absurd cc

test_failed : {X : Type 0} (n m : ℕ) (x : X) → cond (nat_lt n m) (Some x) None ≡ None → m ≤ n
test_failed n m x e = go (nat_lt n m) refl e where
  go : (b : Bool) → nat_lt n m ≡ b → cond b (Some x) None ≡ None → m ≤ n
  go true lt e = absurd cc
  go false lt e = ltb-false n m lt

-- the command of words that have no stop
pub accepted : (s : Option WordsStop) (c d : Command) → unless_stopped s c ≡ Ok d → (s ≡ None) × (c ≡ d)
accepted None c d e = (refl, ap (λ (r : Result Command WordsStop). result_unwrap_or r c) e)
accepted (Some s) c d e = absurd cc

-- nothing is wrong with words, by each test
record IsAccepted (u : Usage) (g : Given) : Type 0 where
  out : missing_fault u setting.Out g.out ≡ None
  operand : operands_fault u.operands g.operands ≡ None
  number : number_fault u.operands g.operands ≡ None
  name : name_fault g.name ≡ None
  count : count_fault u.operands g.operands ≡ None
  few : length (files_of u.operands g.operands) ≤ most_files

accepted_by : (u : Usage) (refused : Kinds) (g : Given) → words_stop u refused g ≡ None → IsAccepted u g
accepted_by u refused g none =
    let rest = (or_else-none (usage (options_fault refused)) (usage (given_fault u g) or_else limit_stop u.operands g.operands) none).1 in
    let parts = or_else-none (usage (given_fault u g)) (limit_stop u.operands g.operands) rest in
    let tests = (or_else-none (missing_fault u setting.At g.at) (usage_fault u g.out g.name g.operands or_else value_fault g.maus g.fill g.at)
    (usage-none (given_fault u g) parts.0)).1 in
    let usages = or_else-none (usage_fault u g.out g.name g.operands) (value_fault g.maus g.fill g.at) tests in
    let first = or_else-none (missing_fault u setting.Out g.out) (operands_fault u.operands g.operands or_else number_fault u.operands g.operands
    or_else name_fault g.name or_else count_fault u.operands g.operands)
    usages.0 in
    let second = or_else-none (operands_fault u.operands g.operands) (number_fault u.operands g.operands or_else name_fault g.name
    or_else count_fault u.operands g.operands) first.1 in
    let third = or_else-none (number_fault u.operands g.operands) (name_fault g.name or_else count_fault u.operands g.operands) second.1 in
    let fourth = or_else-none (name_fault g.name) (count_fault u.operands g.operands) third.1 in
    record {
      out = first.0;
      operand = second.0;
      number = third.0;
      name = fourth.0;
      count = fourth.1;
      few = few_files (length (files_of u.operands g.operands)) (depth_of u.operands g.operands) parts.1;
    }
  where
    few_files : (files depth : ℕ) → limit_stop_by files depth ≡ None → files ≤ most_files
    few_files files depth none = test_failed most_files files _ (or_else-none (cond (nat_lt most_files files) _ None) _ none).0

-- ---- by the operands

names-within : (words : List Text) → length (names_in words) ≤ length words
names-within words =
    let count = length-filter (λ word. is_name (word_of word)) words in
    let most = count_by-le-length (λ word. is_name (word_of word)) words in
    omega (arith, count, most)

count-within : (words : List Text) → tree_count (file_words words) ≤ length (names_in words)
count-within [] = omega arith
count-within (word ∷ words) = by_word (word_of word) (count-within words) where
  by_word : (w : FileWord) → tree_count (file_words words) ≤ length (names_in words)
      → tree_count (w ∷ file_words words) ≤ length (cond (is_name w) (word ∷ names_in words) (names_in words))
  by_word Opening more = more
  by_word Closing more = more
  by_word Plus more = omega arith
  by_word Name more = omega (arith, more)

-- what holds of marks and files
record IsFitting (o : Operands) (marks : List Mark) (files : List Text) : Type 0 where
  count : ℕ
  tree : IsTreeOf marks count
  within : count ≤ length files
  some : o ≢ OneCount → 1 ≤ count

fitting : (o : Operands) (words : List Text) → operands_fault o words ≡ None → IsFitting o (marks_of o words) (files_of o words)
fitting OneFile words none =
    record {
      count = tree_count (file_words words);
      tree = tree-of-plain (file_words words) none;
      within = count-within words;
      some =
          λ other. count-some-plain (file_words words) none;
    }
fitting SomeFiles words none =
    record {
      count = tree_count (file_words words);
      tree = tree-of-plain (file_words words) none;
      within = count-within words;
      some =
          λ other. count-some-plain (file_words words) none;
    }
fitting GroupedFiles words none =
    record {
      count = tree_count (file_words words);
      tree = tree-of-words (file_words words) none;
      within = count-within words;
      some =
          λ other. count-some (file_words words) 0 false none;
    }
fitting OneCount words none = record { count = 0; tree = record { spelled = refl; numbered = refl }; within = omega arith; some = λ other. absurd (other refl) }

-- one word and one file at least are one file
one-file : (o : Operands) (words : List Text) → o ≡ OneFile → operands_fault o words ≡ None → number_fault o words ≡ None → length (files_of o words) ≡ 1
one-file OneFile words same none right =
    let least = count-some-plain (file_words words) none in
    let within = count-within words in
    let most = names-within words in
    let at_most : length words ≤ 1 = test_failed 1 (length words) _ right in
    omega (arith, least, within, most, at_most)
one-file SomeFiles words same none right = absurd cc
one-file GroupedFiles words same none right = absurd cc
one-file OneCount words same none right = absurd cc

name-short : (name : Option Text) → name_fault name ≡ None → IfSome name (λ text. length text ≤ MOST_STRING_BYTES)
name-short None none = tt
name-short (Some text) none = test_failed MOST_STRING_BYTES (length text) _ none

out-given : (t : Bool) (out : Option Text) → cond (t && is_none out) (Some fault.BadWords) None ≡ None → t ≡ true → IsSome out
out-given false out none same = absurd cc
out-given true None none same = absurd cc
out-given true (Some text) none same = refl

-- an option that is not taken has no value
not-taken : (t : Bool) (value : Option Text) → t ≡ false → cond t value None ≡ None
not-taken false value same = refl
not-taken true value same = absurd cc

-- nor has it values
none-taken : (t : Bool) (values : List Text) → t ≡ false → cond t values [] ≡ []
none-taken false values same = refl
none-taken true values same = absurd cc

-- a count that words state lies within its bounds
count-good : (word : Text) → is_none (count_of word) ≡ false → (1 ≤ unwrap_or (count_of word) 0) × (unwrap_or (count_of word) 0 ≤ MOST_MODULES)
count-good word stated = bounds (not (length word == 0)) (list_all is_digit word) (nat_le 1 n) (nat_le n MOST_MODULES) refl refl stated where
  n : ℕ
  n = decimal_number word

  bounds : (a b c d : Bool) → nat_le 1 n ≡ c → nat_le n MOST_MODULES ≡ d → is_none (cond (a && (b && (c && d))) (Some n) None) ≡ false
      → (1 ≤ unwrap_or (cond (a && (b && (c && d))) (Some n) None) 0) × (unwrap_or (cond (a && (b && (c && d))) (Some n) None) 0 ≤ MOST_MODULES)
  bounds true true true true least most stated = (leb-true 1 n least, leb-true n MOST_MODULES most)
  bounds false b c d least most stated = absurd cc
  bounds true false c d least most stated = absurd cc
  bounds true true false d least most stated = absurd cc
  bounds true true true false least most stated = absurd cc

count-bounds : (o : Operands) (words : List Text) → count_fault o words ≡ None → o ≡ OneCount → (1 ≤ number_of o words) × (number_of o words ≤ MOST_MODULES)
count-bounds OneFile words none same = absurd cc
count-bounds SomeFiles words none same = absurd cc
count-bounds GroupedFiles words none same = absurd cc
count-bounds OneCount [] none same = absurd cc
count-bounds OneCount (word ∷ words) none same = count-good word (stated (is_none (count_of word)) refl none) where
  stated : (b : Bool) → is_none (count_of word) ≡ b → cond b (Some fault.BadCount) None ≡ None → is_none (count_of word) ≡ false
  stated true is none = absurd cc
  stated false is none = is

-- an address has 1 to 8 bytes
digit-within : (d : ℕ) (low high : Bool) → nat_le 49 d ≡ low → nat_le d 56 ≡ high
    → (1 ≤ unwrap_or (cond (low && high) (Some (d - 48)) None) 4) × (unwrap_or (cond (low && high) (Some (d - 48)) None) 4 ≤ 8)
digit-within d true true low high =
    let least = leb-true 49 d low in
    let most = leb-true d 56 high in
    (omega (arith, least), omega (arith, most))
digit-within d true false low high = (omega arith, omega arith)
digit-within d false high_is low high = (omega arith, omega arith)

maus-within : (m : Option Text) → (1 ≤ number_by maus_of 4 m) × (number_by maus_of 4 m ≤ 8)
maus-within None = (omega arith, omega arith)
maus-within (Some []) = (omega arith, omega arith)
maus-within (Some (d ∷ [])) = digit-within d (nat_le 49 d) (nat_le d 56) refl refl
maus-within (Some (d ∷ e ∷ more)) = (omega arith, omega arith)

-- ---- by the form

-- the row of its verb is the row itself
row-of : (f : Form) → form_for (usage_of f).verb ≡ Some f
row-of form.Show = refl
row-of form.Check = refl
row-of form.Link = refl
row-of form.Locate = refl
row-of form.Dump = refl
row-of form.Map = refl
row-of form.Make = refl
row-of form.Addr = refl
row-of form.Bin = refl
row-of form.Txt = refl
row-of form.FromTxt = refl
row-of form.Build = refl

takes-own : (f : Form) (s : Setting) → takes (usage_of f).settings s ≡ has_option s (usage_of f).verb
takes-own f s = ap (λ (row : Option Form). takes (settings_in row) s) (sym (row-of f))

demands-out : (f : Form) → demands (usage_of f).settings setting.Out ≡ takes (usage_of f).settings setting.Out
demands-out form.Show = refl
demands-out form.Check = refl
demands-out form.Link = refl
demands-out form.Locate = refl
demands-out form.Dump = refl
demands-out form.Map = refl
demands-out form.Make = refl
demands-out form.Addr = refl
demands-out form.Bin = refl
demands-out form.Txt = refl
demands-out form.FromTxt = refl
demands-out form.Build = refl

-- `clap` reads the arguments of the command
has-row : (f : Form) (v : Verb) → form_for v ≡ None → (usage_of f).verb ≡ v → ⊥
has-row f v none is = let same : None ≡ Some f = sym none ∙ sym (ap form_for is) ∙ row-of f in absurd cc

own-operands : (f : Form) → Some (usage_of f).operands ≡ operands_for (usage_of f).verb
own-operands f = ap operands_in (sym (row-of f))

operands-are : (f : Form) (o : Operands) → operands_for (usage_of f).verb ≡ Some o → (usage_of f).operands ≡ o
operands-are f o is = ap (λ (found : Option Operands). unwrap_or found o) (own-operands f ∙ is)

file-operands : (o : Operands) → are_files (Some o) ≡ true → o ≢ OneCount
file-operands OneFile files = λ same. cc
file-operands SomeFiles files = λ same. cc
file-operands GroupedFiles files = λ same. cc
file-operands OneCount files = absurd cc

takes-files : (f : Form) → are_files (operands_for (usage_of f).verb) ≡ true → (usage_of f).operands ≢ OneCount
takes-files f files = file-operands (usage_of f).operands (ap are_files (own-operands f) ∙ files)

count-operands : (o : Operands) → are_files (Some o) ≡ false → o ≡ OneCount
count-operands OneFile none = absurd cc
count-operands SomeFiles none = absurd cc
count-operands GroupedFiles none = absurd cc
count-operands OneCount none = refl

takes-no-files : (f : Form) → are_files (operands_for (usage_of f).verb) ≡ false → (usage_of f).operands ≡ OneCount
takes-no-files f none = count-operands (usage_of f).operands (ap are_files (own-operands f) ∙ none)

no-files : (o : Operands) (words : List Text) → o ≡ OneCount → files_of o words ≡ []
no-files OneFile words same = absurd cc
no-files SomeFiles words same = absurd cc
no-files GroupedFiles words same = absurd cc
no-files OneCount words same = refl

-- ---- the command

sound_by : (f : Form) (rows : List Row) → IsAccepted (usage_of f) (given_by f rows) → IsSound (command_by (usage_of f) (given_by f rows))
sound_by f rows is =
    let o : Operands = (usage_of f).operands in
    let words : List Text = (given_by f rows).operands in
    let fits : IsFitting o (marks_of o words) (files_of o words) = fitting o words is.operand in
    let long : length (leaves (tree_of (marks_of o words))) ≡ fits.count = ap (λ (l : List ℕ). length l) fits.tree.numbered
    ∙ length-numbers_from 0 fits.count in
    record {
      tree = record {
        spelled = fits.tree.spelled;
        numbered = fits.tree.numbered ∙ ap (λ (n : ℕ). numbers_from 0 n) (sym long);
        within = subst (λ (n : ℕ). n ≤ length (files_of o words)) (sym long) fits.within;
      };
      files = record {
        some = λ files. subst (λ (n : ℕ). 1 ≤ n) (sym long) (fits.some (takes-files f files));
        none = λ reads. no-files o words (takes-no-files f reads);
        one = λ one. one-file o words (operands-are f OneFile one) is.operand is.number;
        few = is.few;
      };
      options = record {
        out = λ makes. out-given (demands (usage_of f).settings setting.Out) (given_by f rows).out is.out (demands-out f ∙ takes-own f setting.Out ∙ makes);
        no_out = λ makes. not-taken (takes (usage_of f).settings setting.Out) (first_of (id_of setting.Out) rows) (takes-own f setting.Out ∙ makes);
        no_plan = λ reads. not-taken (takes (usage_of f).settings setting.Plan) (first_of (id_of setting.Plan) rows) (takes-own f setting.Plan ∙ reads);
        no_name = λ names. not-taken (takes (usage_of f).settings setting.Name) (first_of (id_of setting.Name) rows) (takes-own f setting.Name ∙ names);
        no_keep =
            λ keeps. none-taken (takes (usage_of f).settings setting.Keep) (unwrap_or (all_of (id_of setting.Keep) rows) []) (takes-own f setting.Keep ∙ keeps);
        short = name-short (given_by f rows).name is.name;
        count = λ makes. count-bounds o words is.count (operands-are f OneCount makes);
        maus = maus-within (given_by f rows).maus;
        help = λ is. absurd (has-row f verb.Help refl is);
        version = λ is. absurd (has-row f verb.Version refl is);
      };
    }

-- each command that words give is sound
pub commands-sound : CommandsAreSound
commands-sound f words c e =
    let fine = accepted (words_stop (usage_of f) (fault_of (app_for f) words) (given f words)) (command_by (usage_of f) (given f words)) c e in
    subst IsSound fine.1 (sound_by f (matches_of (app_for f) words) (accepted_by (usage_of f) (fault_of (app_for f) words) (given f words) fine.0))

-- ---- a command that prints a text of the program

pub own-verbs : (word : Text) (v : Verb) → own_verb word ≡ Some v → (v ≡ verb.Help) ⊎ (v ≡ verb.Version)
own-verbs word v is = by (bytes_eq word (codes "help") || (bytes_eq word (codes "--help") || bytes_eq word (codes "-h")))
    (bytes_eq word (codes "version") || (bytes_eq word (codes "--version") || bytes_eq word (codes "-V"))) is where
      by : (a b : Bool) → cond a (Some verb.Help) (cond b (Some verb.Version) None) ≡ Some v → (v ≡ verb.Help) ⊎ (v ≡ verb.Version)
      by true b is = inl cc
      by false true is = inr cc
      by false false is = absurd cc

printing-sound : (v : Verb) (text : Option Text) (c : Command) → (v ≡ verb.Help) ⊎ (v ≡ verb.Version) → printing v text ≡ Ok c → IsSound c
printing-sound v None c one is = absurd cc
printing-sound v (Some text) c one is =
    let same : own_command v text ≡ c = ap (λ (r : Result Command WordsStop). result_unwrap_or r (own_command v text)) is in
    subst IsSound same (of-verb v one) where
      of-verb : (v : Verb) → (v ≡ verb.Help) ⊎ (v ≡ verb.Version) → IsSound (own_command v text)
      of-verb v (inl help) = subst (λ (x : Verb). IsSound (own_command x text)) (sym help) record {
        tree = record { spelled = refl; numbered = refl; within = omega arith };
        files = record { some = λ reads. absurd cc; none = λ reads. refl; one = λ one. absurd cc; few = omega arith };
        options = record {
          out = λ makes. absurd cc;
          no_out = λ makes. refl;
          no_plan = λ reads. refl;
          no_name = λ names. refl;
          no_keep = λ keeps. refl;
          count = λ makes. absurd cc;
          maus = (omega arith, omega arith);
          short = tt;
          help = λ is. refl;
          version = λ is. refl;
        };
      }
      of-verb v (inr version) = subst (λ (x : Verb). IsSound (own_command x text)) (sym version) record {
        tree = record { spelled = refl; numbered = refl; within = omega arith };
        files = record { some = λ reads. absurd cc; none = λ reads. refl; one = λ one. absurd cc; few = omega arith };
        options = record {
          out = λ makes. absurd cc;
          no_out = λ makes. refl;
          no_plan = λ reads. refl;
          no_name = λ names. refl;
          no_keep = λ keeps. refl;
          count = λ makes. absurd cc;
          maus = (omega arith, omega arith);
          short = tt;
          help = λ is. refl;
          version = λ is. refl;
        };
      }

pub own-sound : (word : Text) (words : List Text) (v : Verb) (c : Command) → own_verb word ≡ Some v → own_answer v words ≡ Ok c → IsSound c
own-sound word words v c is named = printing-sound v (own_text v words) c (own-verbs word v is) named

-- ---- the command that explains others

explain-sound : IsSound explain_command
explain-sound = record {
  tree = record { spelled = refl; numbered = refl; within = omega arith };
  files = record { some = λ reads. absurd cc; none = λ reads. refl; one = λ one. absurd cc; few = omega arith };
  options = record {
    out = λ makes. absurd cc;
    no_out = λ makes. refl;
    no_plan = λ reads. refl;
    no_name = λ names. refl;
    no_keep = λ keeps. refl;
    count = λ makes. absurd cc;
    maus = (omega arith, omega arith);
    short = tt;
    help = λ is. absurd cc;
    version = λ is. absurd cc;
  };
}

pub explaining-sound : (words : List Text) (c : Command) → explain_answer words ≡ Ok c → IsSound c
explaining-sound words c named = by (may_be_explained words) named where
  by : (b : Bool) → cond b (Ok explain_command) (Err (stop.Usage fault.BadWords)) ≡ Ok c → IsSound c
  by true named =
      let same : explain_command ≡ c = ap (λ (r : Result Command WordsStop). result_unwrap_or r explain_command) named in
      subst IsSound same explain-sound
  by false named = absurd cc

sound-by : (words : List Text) (f : Option Form) (c : Command) → answer_for f words ≡ Ok c → IsSound c
sound-by words None c named = absurd cc
sound-by words (Some f) c named = commands-sound f words c named

-- so is the command of words
pub words-sound : (words : List Text) (c : Command) → answer_of words ≡ Ok c → IsSound c
words-sound [] c named = absurd cc
words-sound (word ∷ words) c named = by (own_verb word) refl named where
  by : (v : Option Verb) → own_verb word ≡ v → answer_by v word words ≡ Ok c → IsSound c
  by None is named = by_name (names_explain word) named where
    by_name : (b : Bool) → answer_unless b word words ≡ Ok c → IsSound c
    by_name true named = explaining-sound words c named
    by_name false named = sound-by (word ∷ words) (form_of word) c named
  by (Some v) is named = own-sound word words v c is named
