-- The table of commands, the table of options, and how `clap` parses the arguments with them. There is no help option.
use Rattle.std.specs.Prelude.{ℕ, Bool, true, false, ◌&&◌, List, [], ◌∷◌, Option, Some, None, codes, fold, unwrap_or, if◌then◌else◌}
use Rattle.std.specs.List.{find, list_any}
use Rattle.std.specs.Str.{bytes_eq}
use Rattle.clap.specs.Walk.{Rule, Row, all_of, first_of}
use Rattle.clap.specs.Simple.{App, new_app, new_rule, with_rule, on_top}
use Rattle.clap.specs.declared.builder.action.ArgAction.TheVariants.{SetTrue, Append}
use Rattle.mufom_words.specs.declared.command.Verb.{Verb}
use Rattle.mufom_words.specs.declared.command.Verb.TheVariants as verb
use Rattle.mufom_words.specs.declared.form.Form.{Form}
use Rattle.mufom_words.specs.declared.form.Form.TheVariants as form
use Rattle.mufom_words.specs.declared.form.Operands.{Operands}
use Rattle.mufom_words.specs.declared.form.Operands.TheVariants as operands
use Rattle.mufom_words.specs.declared.options.Setting.{Setting}
use Rattle.mufom_words.specs.declared.options.Setting.TheVariants as setting

abbrev pub Text : Type 0
Text = List ℕ

-- ---- the table of commands

-- the arguments of a command: its name, its options, and its operands
pub record Usage : Type 0 where
  pub verb : Verb
  pub name : Text
  pub settings : List Setting
  pub operands : Operands

abbrev pub usage_of : Form → Usage
usage_of form.Show = record { verb = verb.Show; name = codes "show"; settings = setting.NoDebug ∷ setting.Gnu ∷ setting.Listing ∷ []; operands = operands.OneFile }
usage_of form.Check = record { verb = verb.Check; name = codes "check"; settings = setting.NoDebug ∷ setting.Gnu ∷ []; operands = operands.SomeFiles }
usage_of form.Link =
    record { verb = verb.Link; name = codes "link"; settings = setting.NoDebug ∷ setting.Gnu ∷ setting.Name ∷ setting.Out ∷ []; operands = operands.GroupedFiles }
usage_of form.Locate = record {
  verb = verb.Locate;
  name = codes "locate";
  settings = setting.NoDebug ∷ setting.Gnu ∷ setting.Plan ∷ setting.Keep ∷ setting.Out ∷ [];
  operands = operands.GroupedFiles;
}
usage_of form.Dump = record {
  verb = verb.Dump;
  name = codes "dump";
  settings = setting.NoDebug ∷ setting.Gnu ∷ setting.Plan ∷ setting.Keep ∷ [];
  operands = operands.GroupedFiles;
}
usage_of form.Map = record {
  verb = verb.Map;
  name = codes "map";
  settings = setting.NoDebug ∷ setting.Gnu ∷ setting.Plan ∷ setting.Keep ∷ setting.OptionalAt ∷ [];
  operands = operands.GroupedFiles;
}
usage_of form.Make = record { verb = verb.Make; name = codes "make"; settings = []; operands = operands.OneCount }
usage_of form.Addr = record { verb = verb.Addr; name = codes "addr"; settings = setting.Gnu ∷ setting.Plan ∷ setting.At ∷ []; operands = operands.GroupedFiles }
usage_of form.Bin = record {
  verb = verb.Bin;
  name = codes "bin";
  settings = setting.NoDebug ∷ setting.Gnu ∷ setting.Plan ∷ setting.Keep ∷ setting.Fill ∷ setting.Region ∷ setting.Out ∷ [];
  operands = operands.GroupedFiles;
}
usage_of form.Txt = record {
  verb = verb.Txt;
  name = codes "txt";
  settings = setting.NoDebug ∷ setting.Gnu ∷ setting.Plan ∷ setting.Keep ∷ setting.Out ∷ [];
  operands = operands.GroupedFiles;
}
usage_of form.FromTxt = record { verb = verb.FromTxt; name = codes "fromtxt"; settings = setting.Maus ∷ setting.Out ∷ []; operands = operands.OneFile }
usage_of form.Build = record { verb = verb.Build; name = codes "build"; settings = setting.Out ∷ []; operands = operands.OneFile }

-- all commands whose arguments `clap` reads
abbrev pub forms : List Form
forms = form.Show ∷ form.Check ∷ form.Link ∷ form.Locate ∷ form.Dump ∷ form.Map ∷ form.Make ∷ form.Addr ∷ form.Bin ∷ form.Txt ∷ form.FromTxt ∷ form.Build
    ∷ []

-- the command that a word names, if any
abbrev pub form_of : Text → Option Form
form_of word = find (λ f. bytes_eq word (usage_of f).name) forms

-- the row of a command; None for `help`, `version` and `explain`, whose arguments `clap` does not read
abbrev pub form_for : Verb → Option Form
form_for verb.Show = Some form.Show
form_for verb.Check = Some form.Check
form_for verb.Link = Some form.Link
form_for verb.Locate = Some form.Locate
form_for verb.Dump = Some form.Dump
form_for verb.Map = Some form.Map
form_for verb.Make = Some form.Make
form_for verb.Addr = Some form.Addr
form_for verb.Bin = Some form.Bin
form_for verb.Txt = Some form.Txt
form_for verb.FromTxt = Some form.FromTxt
form_for verb.Build = Some form.Build
form_for _ = None

-- the options of a row
abbrev pub settings_in : Option Form → List Setting
settings_in None = []
settings_in (Some f) = (usage_of f).settings

-- the operands of a row
abbrev pub operands_in : Option Form → Option Operands
operands_in None = None
operands_in (Some f) = Some (usage_of f).operands

-- the operands of a command
abbrev pub operands_for : Verb → Option Operands
operands_for v = operands_in (form_for v)

-- the operands are files
abbrev pub are_files : Option Operands → Bool
are_files (Some operands.OneFile) = true
are_files (Some operands.SomeFiles) = true
are_files (Some operands.GroupedFiles) = true
are_files _ = false

-- ---- the table of options

-- the name by which `clap` knows the option
abbrev pub id_of : Setting → Text
id_of setting.NoDebug = codes "no_debug"
id_of setting.Gnu = codes "gnu"
id_of setting.Name = codes "name"
id_of setting.Plan = codes "plan"
id_of setting.Out = codes "out"
id_of setting.Listing = codes "listing"
id_of setting.At = codes "at"
id_of setting.OptionalAt = codes "at"
id_of setting.Fill = codes "fill"
id_of setting.Maus = codes "maus"
id_of setting.Keep = codes "keep"
id_of setting.Region = codes "region"

-- `--no-debug`, `--gnu`, `--name NAME`, `--plan PLAN`, `-o OUT` (required), `--listing`, `--at ADDRESS` (required or not),
-- `--fill BYTE`, `--maus N`, `--keep NAME` (which may be given several times) and `--region NAME`
abbrev pub rule_for : Setting → Rule
rule_for setting.NoDebug = record (new_rule (id_of setting.NoDebug)) { long = Some (codes "no-debug"); action = Some SetTrue }
rule_for setting.Gnu = record (new_rule (id_of setting.Gnu)) { long = Some (codes "gnu"); action = Some SetTrue }
rule_for setting.Name = record (new_rule (id_of setting.Name)) { long = Some (codes "name") }
rule_for setting.Plan = record (new_rule (id_of setting.Plan)) { long = Some (codes "plan") }
rule_for setting.Out = record (new_rule (id_of setting.Out)) { short = Some 111; required = true }
rule_for setting.Listing = record (new_rule (id_of setting.Listing)) { long = Some (codes "listing"); action = Some SetTrue }
rule_for setting.At = record (new_rule (id_of setting.At)) { long = Some (codes "at"); required = true }
rule_for setting.OptionalAt = record (new_rule (id_of setting.OptionalAt)) { long = Some (codes "at") }
rule_for setting.Fill = record (new_rule (id_of setting.Fill)) { long = Some (codes "fill") }
rule_for setting.Maus = record (new_rule (id_of setting.Maus)) { long = Some (codes "maus") }
rule_for setting.Keep = record (new_rule (id_of setting.Keep)) { long = Some (codes "keep"); action = Some Append }
rule_for setting.Region = record (new_rule (id_of setting.Region)) { long = Some (codes "region") }

-- ---- how `clap` parses the arguments

-- all operands
abbrev pub operands_rule : Rule
operands_rule = record (new_rule (codes "files")) { action = Some Append }

abbrev pub without_help : App → App
without_help app = on_top (λ shape. record shape { disable_help_flag = true }) app

abbrev pub with_setting : App → Setting → App
with_setting app s = with_rule app (rule_for s)

-- a command with this name, these options, and operands
abbrev pub app_with : Text → List Setting → App
app_with name settings = with_rule (fold with_setting (without_help (new_app name)) settings) operands_rule

abbrev pub app_for : Form → App
app_for f = app_with (usage_of f).name (usage_of f).settings

-- the option is one of these
abbrev pub takes : List Setting → Setting → Bool
takes settings s = list_any (λ own. bytes_eq (id_of own) (id_of s)) settings

-- the command has the option
abbrev pub has_option : Setting → Verb → Bool
has_option s v = takes (settings_in (form_for v)) s

-- the option must be given
abbrev pub is_required : Setting → Bool
is_required setting.Out = true
is_required setting.At = true
is_required _ = false

-- the option is one of these, which must be given
abbrev pub demands : List Setting → Setting → Bool
demands settings s = list_any (λ own. is_required own && bytes_eq (id_of own) (id_of s)) settings

-- the value of an option, in the rows that `clap` makes of the arguments; None if the command does not have the option
abbrev pub value_in : List Setting → List Row → Setting → Option Text
value_in settings rows s = if takes settings s then first_of (id_of s) rows else None

-- the values of an option that may be given several times, in the order of the arguments
abbrev pub values_in : List Setting → List Row → Setting → List Text
values_in settings rows s = if takes settings s then unwrap_or (all_of (id_of s) rows) [] else []

abbrev pub is_true : Option Text → Bool
is_true None = false
is_true (Some text) = bytes_eq text (codes "true")

-- the operands
abbrev pub operands_of : List Row → List Text
operands_of rows = unwrap_or (all_of (codes "files") rows) []

-- what the arguments give
pub record Given : Type 0 where
  pub no_debug : Bool
  pub gnu : Bool
  pub name : Option Text
  pub plan : Option Text
  pub out : Option Text
  pub listing : Bool
  pub at : Option Text
  pub fill : Option Text
  pub maus : Option Text
  pub keep : List Text
  pub region : Option Text
  -- the operands
  pub operands : List Text

abbrev pub given_by : Form → List Row → Given
given_by f rows = record {
  no_debug = is_true (value_in (usage_of f).settings rows setting.NoDebug);
  gnu = is_true (value_in (usage_of f).settings rows setting.Gnu);
  name = value_in (usage_of f).settings rows setting.Name;
  plan = value_in (usage_of f).settings rows setting.Plan;
  out = value_in (usage_of f).settings rows setting.Out;
  listing = is_true (value_in (usage_of f).settings rows setting.Listing);
  at = value_in (usage_of f).settings rows setting.At;
  fill = value_in (usage_of f).settings rows setting.Fill;
  maus = value_in (usage_of f).settings rows setting.Maus;
  keep = values_in (usage_of f).settings rows setting.Keep;
  region = value_in (usage_of f).settings rows setting.Region;
  operands = operands_of rows;
}
