-- The help topic for an error line: the name of the error; for wrong arguments, the command that they name; for an input that could not be read, `read`.
use Rattle.std.specs.Prelude.{List, [], ◌∷◌, Option, Some, None, codes, unwrap_or}
use Rattle.mufom_help.specs.Topics.{commands, topic_in, topics}
use Rattle.mufom_help.specs.declared.commands.TheConstants.{LIST}
use Rattle.mufom_words.specs.declared.command.Verb.{Verb}
use Rattle.mufom_words.specs.declared.command.Verb.TheVariants as verb
use Rattle.mufom_words.specs.Help.{own_verb}
use Rattle.mufom_plan.specs.declared.refusal.PlanRefusal.{PlanRefusal}
use Rattle.mufom_plan.specs.declared.refusal.PlanRefusal.TheVariants as plan
use Rattle.mufom_place.specs.declared.refusal.PlaceRefusal.{PlaceRefusal}
use Rattle.mufom_place.specs.declared.refusal.PlaceRefusal.TheVariants as place
use Rattle.mufom_refusals.specs.declared.link.LinkRefusal.{LinkRefusal}
use Rattle.mufom_refusals.specs.declared.link.LinkRefusal.TheVariants as link
use Rattle.mufom_refusals.specs.declared.locate.LocateRefusal.{LocateRefusal}
use Rattle.mufom_refusals.specs.declared.locate.LocateRefusal.TheVariants as locate
use Rattle.mufom_refusals.specs.declared.text.TxtReason.{TxtReason}
use Rattle.mufom_refusals.specs.declared.text.TxtReason.TheVariants as txt
use Rattle.mufom_refusals.specs.declared.build.BuildRefusal.{BuildRefusal}
use Rattle.mufom_refusals.specs.declared.build.BuildRefusal.TheVariants as build
use Rattle.mufom_outcome.specs.declared.outcome.BinRefusal.{BinRefusal}
use Rattle.mufom_outcome.specs.declared.outcome.BinRefusal.TheVariants as bins
use Rattle.mufom_outcome.specs.declared.outcome.Outcome.{Outcome}
use Rattle.mufom_outcome.specs.declared.outcome.Outcome.TheVariants as outcome
use Rattle.mufom_outcome.specs.declared.outcome.Refusal.{Refusal}
use Rattle.mufom_outcome.specs.declared.outcome.Refusal.TheVariants as refusal
use Rattle.mufom_outcome.specs.Complaint.{build_reason_text, defect_text, reason_text}
use Rattle.mufom_text.specs.Words.{Text}

-- ---- the name of an error: the first word of its line that begins with a capital letter

abbrev pub plan_name : PlanRefusal → Text
plan_name plan.Syntax = codes "Syntax"
plan_name (plan.Shape region f) = codes "Shape"
plan_name (plan.Beyond n) = codes "Beyond"
plan_name plan.TooLong = codes "TooLong"
plan_name plan.NoMemory = []

abbrev pub link_name : LinkRefusal → Text
link_name (link.Mismatch first other) = codes "Mismatch"
link_name (link.Duplicate name) = codes "Duplicate"
link_name link.DuplicateStart = codes "DuplicateStart"
link_name link.NoMemory = []

abbrev pub place_name : PlaceRefusal → Text
place_name (place.Unplaced n) = codes "Unplaced"
place_name (place.Misfit n region) = codes "Misfit"
place_name (place.Overlap n other) = codes "Overlap"
place_name place.NoMemory = []

abbrev pub locate_name : LocateRefusal → Text
locate_name (locate.Place p) = place_name p
locate_name (locate.Undefined name) = codes "Undefined"
locate_name (locate.CommonUnplaced name) = codes "CommonUnplaced"
locate_name (locate.Cycle name) = codes "Cycle"
locate_name (locate.DivideByZero s) = codes "DivideByZero"
locate_name (locate.Overflow n a k size value) = codes "Overflow"
locate_name (locate.LoadOutside n a) = codes "LoadOutside"
locate_name (locate.LoadedTwice a) = codes "LoadedTwice"
locate_name (locate.ImageLimit count) = codes "ImageLimit"
locate_name locate.NoMemory = []

abbrev pub txt_name : TxtReason → Text
txt_name txt.BadLine = codes "BadLine"
txt_name txt.NoAddress = codes "NoAddress"
txt_name txt.Beyond = codes "Beyond"
txt_name (txt.Twice address) = codes "Twice"
txt_name txt.AfterEnd = codes "AfterEnd"
txt_name txt.NoEnd = codes "NoEnd"

abbrev pub build_name : BuildRefusal → Text
build_name (build.At row column reason) = build_reason_text reason
build_name (build.Module defect) = defect_text defect
build_name build.NoMemory = []

abbrev pub bin_name : BinRefusal → Text
bin_name (bins.TooLong count) = codes "TooLong"
bin_name (bins.Region name) = codes "Region"

abbrev pub refusal_name : Refusal → Text
refusal_name (refusal.Read n r) = reason_text r.reason
refusal_name (refusal.InputLimit n) = codes "InputLimit"
refusal_name (refusal.TooManyModules n) = codes "TooManyModules"
refusal_name (refusal.TooManyFiles n) = codes "TooManyFiles"
refusal_name (refusal.TooDeep n) = codes "TooDeep"
refusal_name (refusal.Plan p) = plan_name p
refusal_name (refusal.Link l) = link_name l
refusal_name (refusal.Locate l maus) = locate_name l
refusal_name (refusal.Keep name) = codes "Unknown"
refusal_name (refusal.SharedName name) = codes "Duplicate"
refusal_name (refusal.Bin b) = bin_name b
refusal_name (refusal.Text r) = txt_name r.reason
refusal_name (refusal.Build r) = build_name r

-- ---- the command that the arguments name

-- the name of the command that a word stands for, if it is one that prints a text of the program; the word itself otherwise
abbrev pub name_by : Option Verb → Text → Text
name_by (Some verb.Help) word = codes "help"
name_by (Some verb.Version) word = codes "version"
name_by _ word = word

-- the name of the command that a first word stands for; the word itself if it stands for none
abbrev pub command_name : Text → Text
command_name word = name_by (own_verb word) word

-- the text of the command that the arguments name, or the list of commands if they name none
abbrev pub usage_topic : List Text → Text
usage_topic [] = LIST.now
usage_topic (word ∷ words) = unwrap_or (topic_in commands (command_name word)) LIST.now

-- ---- the topic

-- The help text on the outcome of a run with these arguments. A run that is `Done` has none, nor has one in which a write failed or memory ran out.
abbrev pub topic_of : List Text → Outcome → Option Text
topic_of words (outcome.Refused r) = topic_in topics (refusal_name r)
topic_of words (outcome.Usage f) = Some (usage_topic words)
topic_of words (outcome.ReadFault at) = topic_in topics (codes "read")
topic_of words _ = None
