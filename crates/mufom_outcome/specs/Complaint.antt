-- The exit status of each outcome, and the error line of each outcome except `Done`.
use Rattle.std.specs.Prelude.{ℕ, Option, Some, None, [], ◌++◌, codes}
use Rattle.std.specs.Fmt.{decimal}
use Rattle.mufom_numbers.specs.declared.reason.Reason.{Reason}
use Rattle.mufom_numbers.specs.declared.reason.Reason.TheVariants as why
use Rattle.mufom_plan.specs.declared.refusal.PlanField.{PlanField}
use Rattle.mufom_plan.specs.declared.refusal.PlanField.TheVariants as field
use Rattle.mufom_plan.specs.declared.refusal.PlanRefusal.{PlanRefusal}
use Rattle.mufom_plan.specs.declared.refusal.PlanRefusal.TheVariants as plan
use Rattle.mufom_plan.specs.declared.refusal.PlanTable.{PlanTable}
use Rattle.mufom_plan.specs.declared.refusal.PlanTable.TheVariants as table
use Rattle.mufom_place.specs.declared.refusal.PlaceRefusal.{PlaceRefusal}
use Rattle.mufom_place.specs.declared.refusal.PlaceRefusal.TheVariants as place
use Rattle.mufom_meaning.specs.declared.located.Descriptor.{Descriptor}
use Rattle.mufom_meaning.specs.declared.located.Site.{Site}
use Rattle.mufom_meaning.specs.declared.located.Site.TheVariants as site
use Rattle.mufom_refusals.specs.declared.locate.LocateRefusal.{LocateRefusal}
use Rattle.mufom_refusals.specs.declared.locate.LocateRefusal.TheVariants as locate
use Rattle.mufom_refusals.specs.declared.link.LinkRefusal.{LinkRefusal}
use Rattle.mufom_refusals.specs.declared.link.LinkRefusal.TheVariants as link
use Rattle.mufom_text.specs.Show.{kind_text, order_letter}
use Rattle.mufom_outcome.specs.declared.outcome.Input.{Input}
use Rattle.mufom_outcome.specs.declared.outcome.Input.TheVariants as input
use Rattle.mufom_outcome.specs.declared.outcome.BinRefusal.{BinRefusal}
use Rattle.mufom_outcome.specs.declared.outcome.BinRefusal.TheVariants as bins
use Rattle.mufom_outcome.specs.declared.outcome.Outcome.{Outcome}
use Rattle.mufom_outcome.specs.declared.outcome.Outcome.TheVariants as outcome
use Rattle.mufom_outcome.specs.declared.outcome.Refusal.{Refusal}
use Rattle.mufom_outcome.specs.declared.outcome.Refusal.TheVariants as refusal
use Rattle.mufom_refusals.specs.declared.text.TxtReason.{TxtReason}
use Rattle.mufom_refusals.specs.declared.text.TxtReason.TheVariants as txt
use Rattle.mufom_refusals.specs.declared.build.BuildReason.{BuildReason}
use Rattle.mufom_refusals.specs.declared.build.BuildReason.TheVariants as reasons
use Rattle.mufom_refusals.specs.declared.build.BuildRefusal.{BuildRefusal}
use Rattle.mufom_refusals.specs.declared.build.BuildRefusal.TheVariants as build
use Rattle.mufom_module.specs.declared.module.Defect.{Defect}
use Rattle.mufom_module.specs.declared.module.Defect.TheVariants as defects
use Rattle.mufom_words.specs.declared.stop.UsageFault.{UsageFault}
use Rattle.mufom_words.specs.declared.stop.UsageFault.TheVariants as usage
use Rattle.mufom_text.specs.Image.{address}
use Rattle.mufom_text.specs.Words.{Text, line, quoted}

abbrev pub status_of : Outcome → ℕ
status_of outcome.Done = 0
status_of (outcome.Refused _) = 1
status_of (outcome.Usage _) = 2
status_of (outcome.ReadFault _) = 3
status_of outcome.WriteFault = 4
status_of outcome.NoMemory = 5

-- the name of a reason
abbrev pub reason_text : Reason → Text
reason_text why.BadNumber = codes "BadNumber"
reason_text why.BadId = codes "BadId"
reason_text why.BadRecord = codes "BadRecord"
reason_text why.UnsupportedRecord = codes "UnsupportedRecord"
reason_text why.UnsupportedFunction = codes "UnsupportedFunction"
reason_text why.UnsupportedVariable = codes "UnsupportedVariable"
reason_text why.Underflow = codes "Underflow"
reason_text why.SurplusTerms = codes "SurplusTerms"
reason_text why.Empty = codes "Empty"
reason_text why.TooLong = codes "TooLong"
reason_text why.LongRun = codes "LongRun"
reason_text why.BadFieldSize = codes "BadFieldSize"
reason_text why.BracketMismatch = codes "BracketMismatch"
reason_text why.BadSectionType = codes "BadSectionType"
reason_text why.UnsupportedBlock = codes "UnsupportedBlock"
reason_text why.UnsupportedAttribute = codes "UnsupportedAttribute"
reason_text why.Truncated = codes "Truncated"
reason_text why.BadHeader = codes "BadHeader"
reason_text why.BadDescriptor = codes "BadDescriptor"
reason_text why.OffsetOrder = codes "OffsetOrder"
reason_text why.PartGap = codes "PartGap"
reason_text why.WrongPart = codes "WrongPart"
reason_text why.DuplicateIndex = codes "DuplicateIndex"
reason_text why.UnknownIndex = codes "UnknownIndex"
reason_text why.DuplicateValue = codes "DuplicateValue"
reason_text why.MissingValue = codes "MissingValue"
reason_text why.MissingBase = codes "MissingBase"
reason_text why.BadAlignment = codes "BadAlignment"
reason_text why.NoSection = codes "NoSection"
reason_text why.BadP = codes "BadP"
reason_text why.BlockNesting = codes "BlockNesting"
reason_text why.Depth = codes "Depth"
reason_text why.AfterEnd = codes "AfterEnd"
reason_text why.FileLimit = codes "FileLimit"
reason_text why.BadArchive = codes "BadArchive"

abbrev pub usage_text : UsageFault → Text
usage_text usage.NoCommand = codes "no command"
usage_text usage.BadWords = codes "bad words"
usage_text usage.NoFile = codes "no file"
usage_text usage.EmptyGroup = codes "empty group"
usage_text usage.OpenGroup = codes "open group"
usage_text usage.StrayBracket = codes "stray bracket"
usage_text usage.BadMembers = codes "bad members"
usage_text usage.FileCount = codes "file count"
usage_text usage.BadCount = codes "bad count"
usage_text usage.LongName = codes "long name"
usage_text usage.BadByte = codes "bad byte"
usage_text usage.BadAddress = codes "bad address"

-- the number of units of an address, and the letter of the order of bytes
abbrev pub descriptor_text : Descriptor → Text
descriptor_text d = decimal d.maus ++ codes " " ++ order_letter d.order

abbrev pub link_text : LinkRefusal → Text
link_text (link.Mismatch first other) = codes "Mismatch " ++ descriptor_text first ++ codes " " ++ descriptor_text other
link_text (link.Duplicate name) = codes "Duplicate " ++ quoted name
link_text link.DuplicateStart = codes "DuplicateStart"
link_text link.NoMemory = []

-- the part of a plan that has the wrong shape
abbrev pub field_text : PlanField → Text
field_text field.Region = codes "region"
field_text field.Extra = codes "extra"
field_text field.Name = codes "name"
field_text field.Base = codes "base"
field_text field.Size = codes "size"
field_text field.Sections = codes "sections"
field_text field.Common = codes "common"
field_text field.Symbol = codes "symbol"
field_text field.Kind = codes "kind"
field_text field.Value = codes "value"
field_text field.Start = codes "start"
field_text field.End = codes "end"
field_text field.Load = codes "load"
field_text field.RegionEnd = codes "region_end"
field_text field.Keep = codes "keep"

-- the region, if there is one
abbrev pub region_text : Option ℕ → Text
region_text None = []
region_text (Some n) = codes " region " ++ decimal n

-- the table of a plan, if there is one
abbrev pub table_text : Option PlanTable → Text
table_text None = []
table_text (Some (table.Region n)) = region_text (Some n)
table_text (Some (table.Symbol n)) = codes " symbol " ++ decimal n

abbrev pub plan_text : PlanRefusal → Text
plan_text plan.Syntax = codes "Syntax"
plan_text (plan.Shape at f) = codes "Shape" ++ table_text at ++ codes " " ++ field_text f
plan_text (plan.Beyond n) = codes "Beyond region " ++ decimal n
plan_text plan.TooLong = codes "TooLong"
plan_text plan.NoMemory = []

abbrev pub place_text : PlaceRefusal → Text
place_text (place.Unplaced n) = codes "Unplaced section " ++ decimal n
place_text (place.Misfit n region) = codes "Misfit section " ++ decimal n ++ region_text region
place_text (place.Overlap n other) = codes "Overlap section " ++ decimal n ++ codes " section " ++ decimal other
place_text place.NoMemory = []

-- the site of an expression; an address has the given number of units
abbrev pub site_text : ℕ → Site → Text
site_text maus (site.Public name) = codes "public " ++ quoted name
site_text maus (site.Counter n) = codes "counter of section " ++ decimal n
site_text maus (site.Field n a) = codes "field at " ++ address maus a ++ codes " in section " ++ decimal n
site_text maus site.Start = codes "start"
site_text maus (site.Debug n) = codes "debug " ++ decimal n

-- the text of an error of locating; addresses and values have the given number of units
abbrev pub locate_text : ℕ → LocateRefusal → Text
locate_text maus (locate.Place p) = place_text p
locate_text maus (locate.Undefined name) = codes "Undefined " ++ quoted name
locate_text maus (locate.CommonUnplaced name) = codes "CommonUnplaced " ++ quoted name
locate_text maus (locate.Cycle name) = codes "Cycle " ++ quoted name
locate_text maus (locate.DivideByZero s) = codes "DivideByZero " ++ site_text maus s
locate_text maus (locate.Overflow n a k size value) =
    codes "Overflow section " ++ decimal n ++ codes " at " ++ address maus a ++ codes " " ++ kind_text k ++ codes " " ++ decimal size
    ++ codes " value " ++ address maus value
locate_text maus (locate.LoadOutside n a) = codes "LoadOutside section " ++ decimal n ++ codes " at " ++ address maus a
locate_text maus (locate.LoadedTwice a) = codes "LoadedTwice " ++ address maus a
locate_text maus (locate.ImageLimit count) = codes "ImageLimit " ++ decimal count
locate_text maus locate.NoMemory = []

-- the error of a line of a TI-TXT text
abbrev pub txt_reason_text : TxtReason → Text
txt_reason_text txt.BadLine = codes "BadLine"
txt_reason_text txt.NoAddress = codes "NoAddress"
txt_reason_text txt.Beyond = codes "Beyond"
txt_reason_text (txt.Twice address) = codes "Twice " ++ decimal address
txt_reason_text txt.AfterEnd = codes "AfterEnd"
txt_reason_text txt.NoEnd = codes "NoEnd"

-- the error of a line of a listing
abbrev pub build_reason_text : BuildReason → Text
build_reason_text reasons.BadText = codes "BadText"
build_reason_text reasons.TooGreat = codes "TooGreat"
build_reason_text reasons.Position = codes "Position"
build_reason_text reasons.Count = codes "Count"
build_reason_text reasons.TooLong = codes "TooLong"
build_reason_text reasons.Deep = codes "Deep"

-- the name of a defect of the module that a listing gives
abbrev pub defect_text : Defect → Text
defect_text defects.Depth = codes "Depth"
defect_text defects.LongId = codes "LongId"
defect_text defects.BadMaus = codes "BadMaus"
defect_text defects.BadAlign = codes "BadAlign"
defect_text defects.MissingBase = codes "MissingBase"
defect_text defects.Position = codes "Position"
defect_text defects.MisplacedP = codes "MisplacedP"
defect_text defects.NoSection = codes "NoSection"
defect_text defects.LongRun = codes "LongRun"
defect_text defects.FieldSize = codes "FieldSize"
defect_text defects.Attribute = codes "Attribute"
defect_text defects.Nesting = codes "Nesting"
defect_text defects.Weight = codes "Weight"

-- the error of a listing, and its place
abbrev pub build_text : BuildRefusal → Text
build_text (build.At row column reason) =
    codes " line " ++ decimal row ++ codes " column " ++ decimal column ++ codes ": " ++ build_reason_text reason
build_text (build.Module defect) = codes ": " ++ defect_text defect
build_text build.NoMemory = []

-- the error in what `bin` writes
abbrev pub bin_text : BinRefusal → Text
bin_text (bins.TooLong count) = codes "TooLong " ++ decimal count
bin_text (bins.Region name) = codes "Region " ++ quoted name

abbrev pub refusal_text : Refusal → Text
refusal_text (refusal.Read n r) = codes "file " ++ decimal n ++ codes " at " ++ decimal r.offset ++ codes ": " ++ reason_text r.reason
refusal_text (refusal.InputLimit n) = codes "file " ++ decimal n ++ codes ": InputLimit"
refusal_text (refusal.TooManyModules n) = codes "TooManyModules " ++ decimal n
refusal_text (refusal.TooManyFiles n) = codes "TooManyFiles " ++ decimal n
refusal_text (refusal.TooDeep n) = codes "TooDeep " ++ decimal n
refusal_text (refusal.Plan p) = codes "plan: " ++ plan_text p
refusal_text (refusal.Link l) = codes "link: " ++ link_text l
refusal_text (refusal.Locate l maus) = codes "locate: " ++ locate_text maus l
refusal_text (refusal.Keep name) = codes "keep: Unknown " ++ quoted name
refusal_text (refusal.SharedName name) = codes "locate: Duplicate " ++ quoted name
refusal_text (refusal.Bin b) = codes "bin: " ++ bin_text b
refusal_text (refusal.Text r) = codes "text line " ++ decimal r.line ++ codes ": " ++ txt_reason_text r.reason
refusal_text (refusal.Build r) = codes "listing" ++ build_text r

abbrev pub input_text : Input → Text
input_text input.Plan = codes "plan"
input_text (input.File n) = codes "file " ++ decimal n

-- The error line of an outcome; none for `Done`.
abbrev pub complaint : Outcome → Text
complaint outcome.Done = []
complaint (outcome.Refused r) = line (codes "refused: " ++ refusal_text r)
complaint (outcome.Usage f) = line (codes "usage: " ++ usage_text f)
complaint (outcome.ReadFault i) = line (codes "read fault: " ++ input_text i)
complaint outcome.WriteFault = line (codes "write fault")
complaint outcome.NoMemory = line (codes "out of memory")
