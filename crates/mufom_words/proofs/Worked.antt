-- The answers for words that are written out.
use Rattle.std.proofs.Common.{◌≡◌, ◌==◌, ℕ, Bool, zero, suc, true, false, length, List, [], ◌∷◌, Some, None, Result, Ok, Err, codes, refl}
use Rattle.clap.specs.Faults.{fault_of}
use Rattle.clap.specs.declared.error.kind.ErrorKind.TheVariants as kind
use Rattle.clap.proofs.OnLiterals.{clap_on_literals}
use Rattle.mufom_words.specs.declared.command.Command.{Command}
use Rattle.mufom_words.specs.declared.command.Mark.{Mark}
use Rattle.mufom_words.specs.declared.command.Mark.TheVariants.{File}
use Rattle.mufom_words.specs.declared.command.Verb.{Verb}
use Rattle.mufom_words.specs.declared.command.Verb.TheVariants as verb
use Rattle.mufom_words.specs.declared.form.Form.TheVariants as form
use Rattle.mufom_words.specs.declared.stop.UsageFault.TheVariants as fault
use Rattle.mufom_words.specs.declared.stop.WordsStop.{WordsStop}
use Rattle.mufom_words.specs.declared.stop.WordsStop.TheVariants as stop
use Rattle.mufom_words.specs.Answer.{answer_of, given}
use Rattle.mufom_words.specs.Values.{address_of, byte_of, maus_of}
use Rattle.mufom_words.specs.Options.{Given, Text, app_for}

abbrev Answer : Type 0
Answer = Result Command WordsStop

-- the marks of files in no group, numbered from `n` on
abbrev marks : ℕ → List Text → List Mark
marks n [] = []
marks n (_ ∷ files) = File n ∷ marks (suc n) files

-- a command of files in no group
abbrev of_files : Verb → Bool → List Text → Command
of_files v no_debug files = record {
  verb = v;
  no_debug = no_debug;
  gnu = false;
  name = None;
  out = None;
  plan = None;
  marks = marks 0 files;
  files = files;
  count = 0;
  listing = false;
  fill = 0;
  at = None;
  maus = 4;
  keep = [];
  region = None;
  help = None;
}

-- ---- no command

no_word : answer_of [] ≡ Err (stop.Usage fault.NoCommand)
no_word = refl

another_word : answer_of (codes "dmup" ∷ codes "a" ∷ []) ≡ Err (stop.Usage fault.NoCommand)
another_word = refl

help_takes_one_word : answer_of (codes "help" ∷ codes "dump" ∷ codes "show" ∷ []) ≡ Err (stop.Usage fault.BadWords)
help_takes_one_word = refl

version_takes_none : answer_of (codes "-V" ∷ codes "dump" ∷ []) ≡ Err (stop.Usage fault.BadWords)
version_takes_none = refl

help_after_a_command : answer_of (codes "dump" ∷ codes "--help" ∷ []) ≡ Err (stop.Usage fault.BadWords)
unfolding clap_on_literals
help_after_a_command = refl

-- ---- options

flag : answer_of (codes "show" ∷ codes "--no-debug" ∷ codes "a" ∷ []) ≡ Ok (of_files verb.Show true (codes "a" ∷ []))
unfolding clap_on_literals
flag = refl

flag_after_files : answer_of (codes "check" ∷ codes "a" ∷ codes "b" ∷ codes "--no-debug" ∷ []) ≡ Ok (of_files verb.Check true (codes "a" ∷ codes "b" ∷ []))
unfolding clap_on_literals
flag_after_files = refl

flag_between_files : answer_of (codes "check" ∷ codes "a" ∷ codes "--no-debug" ∷ codes "b" ∷ []) ≡ Ok (of_files verb.Check true (codes "a" ∷ codes "b" ∷ []))
unfolding clap_on_literals
flag_between_files = refl

no_flag : answer_of (codes "dump" ∷ codes "a" ∷ []) ≡ Ok (of_files verb.Dump false (codes "a" ∷ []))
unfolding clap_on_literals
no_flag = refl

options_end : answer_of (codes "check" ∷ codes "--" ∷ codes "-x" ∷ codes "--no-debug" ∷ [])
    ≡ Ok (of_files verb.Check false (codes "-x" ∷ codes "--no-debug" ∷ []))
unfolding clap_on_literals
options_end = refl

options_end_once : answer_of (codes "check" ∷ codes "--" ∷ codes "--" ∷ []) ≡ Ok (of_files verb.Check false (codes "--" ∷ []))
unfolding clap_on_literals
options_end_once = refl

dash : answer_of (codes "show" ∷ codes "-" ∷ []) ≡ Ok (of_files verb.Show false (codes "-" ∷ []))
unfolding clap_on_literals
dash = refl

help_is_a_file : answer_of (codes "show" ∷ codes "help" ∷ []) ≡ Ok (of_files verb.Show false (codes "help" ∷ []))
unfolding clap_on_literals
help_is_a_file = refl

unknown_option : answer_of (codes "check" ∷ codes "-x" ∷ []) ≡ Err (stop.Usage fault.BadWords)
unfolding clap_on_literals
unknown_option = refl

no_help : answer_of (codes "show" ∷ codes "--help" ∷ codes "a" ∷ []) ≡ Err (stop.Usage fault.BadWords)
unfolding clap_on_literals
no_help = refl

front_of_an_option : answer_of (codes "show" ∷ codes "--no-deb" ∷ codes "a" ∷ []) ≡ Err (stop.Usage fault.BadWords)
unfolding clap_on_literals
front_of_an_option = refl

flag_with_a_value : answer_of (codes "show" ∷ codes "--no-debug=true" ∷ codes "a" ∷ []) ≡ Err (stop.Usage fault.BadWords)
unfolding clap_on_literals
flag_with_a_value = refl

twice : answer_of (codes "show" ∷ codes "--no-debug" ∷ codes "--no-debug" ∷ codes "a" ∷ []) ≡ Err (stop.Usage fault.BadWords)
unfolding clap_on_literals
twice = refl

dump_has_no_output : answer_of (codes "dump" ∷ codes "-oc" ∷ codes "a" ∷ []) ≡ Err (stop.Usage fault.BadWords)
unfolding clap_on_literals
dump_has_no_output = refl

locate_without_output : answer_of (codes "locate" ∷ codes "a" ∷ []) ≡ Err (stop.Usage fault.BadWords)
unfolding clap_on_literals
locate_without_output = refl

locate_has_no_name : answer_of (codes "locate" ∷ codes "--name=n" ∷ codes "-oc" ∷ codes "a" ∷ []) ≡ Err (stop.Usage fault.BadWords)
unfolding clap_on_literals
locate_has_no_name = refl

-- ---- files

show_without_file : answer_of (codes "show" ∷ []) ≡ Err (stop.Usage fault.NoFile)
unfolding clap_on_literals
show_without_file = refl

check_without_file : answer_of (codes "check" ∷ codes "--no-debug" ∷ []) ≡ Err (stop.Usage fault.NoFile)
unfolding clap_on_literals
check_without_file = refl

dump_without_file : answer_of (codes "dump" ∷ []) ≡ Err (stop.Usage fault.NoFile)
unfolding clap_on_literals
dump_without_file = refl

show_two_files : answer_of (codes "show" ∷ codes "a" ∷ codes "b" ∷ []) ≡ Err (stop.Usage fault.FileCount)
unfolding clap_on_literals
show_two_files = refl

bracket : answer_of (codes "show" ∷ codes "]" ∷ []) ≡ Err (stop.Usage fault.StrayBracket)
unfolding clap_on_literals
bracket = refl

open_bracket : answer_of (codes "show" ∷ codes "[" ∷ codes "a" ∷ codes "]" ∷ []) ≡ Err (stop.Usage fault.StrayBracket)
unfolding clap_on_literals
open_bracket = refl

plus : answer_of (codes "check" ∷ codes "+" ∷ []) ≡ Err (stop.Usage fault.BadMembers)
unfolding clap_on_literals
plus = refl

empty_name : answer_of (codes "show" ∷ [] ∷ []) ≡ Ok (of_files verb.Show false ([] ∷ []))
unfolding clap_on_literals
empty_name = refl

-- ---- the order of faults

option_before_bracket : answer_of (codes "check" ∷ codes "]" ∷ codes "-x" ∷ []) ≡ Err (stop.Usage fault.BadWords)
unfolding clap_on_literals
option_before_bracket = refl

bracket_before_plus : answer_of (codes "check" ∷ codes "a" ∷ codes "[" ∷ codes "+" ∷ []) ≡ Err (stop.Usage fault.StrayBracket)
unfolding clap_on_literals
bracket_before_plus = refl

plus_before_bracket : answer_of (codes "check" ∷ codes "+" ∷ codes "]" ∷ []) ≡ Err (stop.Usage fault.BadMembers)
unfolding clap_on_literals
plus_before_bracket = refl

bracket_before_count : answer_of (codes "show" ∷ codes "a" ∷ codes "b" ∷ codes "]" ∷ []) ≡ Err (stop.Usage fault.StrayBracket)
unfolding clap_on_literals
bracket_before_count = refl

bracket_after_options_end : answer_of (codes "check" ∷ codes "--" ∷ codes "[" ∷ []) ≡ Err (stop.Usage fault.StrayBracket)
unfolding clap_on_literals
bracket_after_options_end = refl

-- ---- the limit

abbrev repeated : ℕ → Text → List Text
repeated zero word = []
repeated (suc n) word = word ∷ repeated n word

too_many_files : answer_of (codes "check" ∷ repeated 1025 (codes "a")) ≡ Err (stop.TooManyFiles 1025)
unfolding clap_on_literals
too_many_files = refl

-- the last of as many as may be
abbrev last_counts : Answer → Bool
last_counts (Ok command) = length command.files == 1024
last_counts (Err s) = false

most_files_pass : last_counts (answer_of (codes "check" ∷ repeated 1024 (codes "a"))) ≡ true
unfolding clap_on_literals
most_files_pass = refl

count_before_limit : answer_of (codes "show" ∷ repeated 1025 (codes "a")) ≡ Err (stop.Usage fault.FileCount)
unfolding clap_on_literals
count_before_limit = refl

-- ---- options of the other commands

abbrev none_given : Given
none_given = record {
  no_debug = false;
  gnu = false;
  name = None;
  plan = None;
  out = None;
  listing = false;
  at = None;
  fill = None;
  maus = None;
  keep = [];
  region = None;
  operands = codes "a" ∷ [];
}

linked : given form.Link (codes "link" ∷ codes "-oc" ∷ codes "a" ∷ codes "[" ∷ codes "b" ∷ codes "--no-debug" ∷ codes "]" ∷ codes "--" ∷ codes
    "+" ∷ codes "-m" ∷ [])
    ≡ record none_given { no_debug = true; out = Some (codes "c"); operands = codes "a" ∷ codes "[" ∷ codes "b" ∷ codes "]" ∷ codes "+" ∷ codes "-m" ∷ [] }
unfolding clap_on_literals
linked = refl

named : given form.Link (codes "link" ∷ codes "a" ∷ codes "--name=n" ∷ codes "-o" ∷ codes "-" ∷ [])
    ≡ record none_given { name = Some (codes "n"); out = Some (codes "-") }
unfolding clap_on_literals
named = refl

planned : given form.Locate (codes "locate" ∷ codes "--plan" ∷ codes "p" ∷ codes "-o=c" ∷ codes "a" ∷ [])
    ≡ record none_given { plan = Some (codes "p"); out = Some (codes "c") }
unfolding clap_on_literals
planned = refl

empty_values : given form.Locate (codes "locate" ∷ codes "--plan=" ∷ codes "-o" ∷ [] ∷ codes "a" ∷ [])
    ≡ record none_given { plan = Some []; out = Some [] }
unfolding clap_on_literals
empty_values = refl

empty_values_pass : fault_of (app_for form.Locate) (codes "locate" ∷ codes "--plan=" ∷ codes "-o" ∷ [] ∷ codes "a" ∷ []) ≡ []
unfolding clap_on_literals
empty_values_pass = refl

no_out : fault_of (app_for form.Locate) (codes "locate" ∷ codes "a" ∷ []) ≡ kind.MissingRequiredArgument ∷ []
unfolding clap_on_literals
no_out = refl

plan_twice : fault_of (app_for form.Locate) (codes "locate" ∷ codes "--plan" ∷ codes "p" ∷ codes "--plan=q" ∷ codes "-oc" ∷ codes "a" ∷ [])
    ≡ kind.ArgumentConflict ∷ []
unfolding clap_on_literals
plan_twice = refl

no_value : fault_of (app_for form.Locate) (codes "locate" ∷ codes "a" ∷ codes "-o" ∷ []) ≡ kind.InvalidValue ∷ []
unfolding clap_on_literals
no_value = refl

-- ---- numbers that options give

raw_bytes : given form.Bin (codes "bin" ∷ codes "--fill=fF" ∷ codes "-oc" ∷ codes "a" ∷ [])
    ≡ record none_given { out = Some (codes "c"); fill = Some (codes "fF") }
unfolding clap_on_literals
raw_bytes = refl

region_named : given form.Bin (codes "bin" ∷ codes "--region" ∷ codes "rom" ∷ codes "-oc" ∷ codes "a" ∷ [])
    ≡ record none_given { out = Some (codes "c"); region = Some (codes "rom") }
unfolding clap_on_literals
region_named = refl

read_bytes : byte_of (codes "fF") ≡ Some 255
read_bytes = refl

no_byte : (byte_of (codes "F") ≡ None) × (byte_of (codes "0FF") ≡ None) × (byte_of (codes "+F") ≡ None) × (byte_of [] ≡ None)
no_byte = (refl, refl, refl, refl)

read_address : address_of (codes "0123456789abCDEF") ≡ Some 81985529216486895
read_address = refl

no_address : (address_of (codes "00000000000000001") ≡ None) × (address_of [] ≡ None) × (address_of (codes "0x10") ≡ None)
no_address = (refl, refl, refl)

no_at : fault_of (app_for form.Addr) (codes "addr" ∷ codes "a" ∷ []) ≡ kind.MissingRequiredArgument ∷ []
unfolding clap_on_literals
no_at = refl

-- ---- the commands of texts

text_made : answer_of (codes "txt" ∷ codes "--plan=p" ∷ codes "-oc" ∷ codes "a" ∷ [])
    ≡ Ok (record (of_files verb.Txt false (codes "a" ∷ [])) { plan = Some (codes "p"); out = Some (codes "c") })
unfolding clap_on_literals
text_made = refl

text_read : answer_of (codes "fromtxt" ∷ codes "--maus" ∷ codes "2" ∷ codes "-oc" ∷ codes "a" ∷ [])
    ≡ Ok (record (of_files verb.FromTxt false (codes "a" ∷ [])) { maus = 2; out = Some (codes "c") })
unfolding clap_on_literals
text_read = refl

two_texts : answer_of (codes "fromtxt" ∷ codes "-oc" ∷ codes "a" ∷ codes "b" ∷ []) ≡ Err (stop.Usage fault.FileCount)
unfolding clap_on_literals
two_texts = refl

no_maus : (maus_of (codes "04") ≡ None) × (maus_of (codes "0") ≡ None) × (maus_of (codes "9") ≡ None) × (maus_of [] ≡ None)
no_maus = (refl, refl, refl, refl)

-- ---- files of GNU binutils

both_forms : given form.Show (codes "show" ∷ codes "--gnu" ∷ codes "a" ∷ []) ≡ record none_given { gnu = true }
unfolding clap_on_literals
both_forms = refl

an_address_in_them : given form.Addr (codes "addr" ∷ codes "--at=0" ∷ codes "--gnu" ∷ codes "a" ∷ []) ≡ record none_given { gnu = true; at = Some (codes "0") }
unfolding clap_on_literals
an_address_in_them = refl

no_such_listing : answer_of (codes "build" ∷ codes "--gnu" ∷ codes "-oc" ∷ codes "a" ∷ []) ≡ Err (stop.Usage fault.BadWords)
unfolding clap_on_literals
no_such_listing = refl

-- ---- what is kept

kept_name : given form.Dump (codes "dump" ∷ codes "--keep" ∷ codes "main" ∷ codes "a" ∷ []) ≡ record none_given { keep = codes "main" ∷ [] }
unfolding clap_on_literals
kept_name = refl

kept_names : given form.Dump (codes "dump" ∷ codes "--keep=u" ∷ codes "--keep" ∷ codes "main" ∷ codes "a" ∷ codes "--keep=u" ∷ [])
    ≡ record none_given { keep = codes "u" ∷ codes "main" ∷ codes "u" ∷ [] }
unfolding clap_on_literals
kept_names = refl

empty_name_is_kept : given form.Bin (codes "bin" ∷ codes "--keep=" ∷ codes "-oc" ∷ codes "a" ∷ [])
    ≡ record none_given { keep = [] ∷ []; out = Some (codes "c") }
unfolding clap_on_literals
empty_name_is_kept = refl

-- ---- the map

map_printed : answer_of (codes "map" ∷ codes "--plan=p" ∷ codes "a" ∷ codes "--no-debug" ∷ [])
    ≡ Ok (record (of_files verb.Map true (codes "a" ∷ [])) { plan = Some (codes "p") })
unfolding clap_on_literals
map_printed = refl

map_of_what_is_kept : answer_of (codes "map" ∷ codes "--keep" ∷ codes "main" ∷ codes "a" ∷ [])
    ≡ Ok (record (of_files verb.Map false (codes "a" ∷ [])) { keep = codes "main" ∷ [] })
unfolding clap_on_literals
map_of_what_is_kept = refl

map_of_an_address : answer_of (codes "map" ∷ codes "--at" ∷ codes "10A" ∷ codes "a" ∷ [])
    ≡ Ok (record (of_files verb.Map false (codes "a" ∷ [])) { at = Some 266 })
unfolding clap_on_literals
map_of_an_address = refl

no_file_of_a_map : answer_of (codes "map" ∷ codes "-oc" ∷ codes "a" ∷ []) ≡ Err (stop.Usage fault.BadWords)
unfolding clap_on_literals
no_file_of_a_map = refl
