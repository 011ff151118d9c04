-- The topics of help: the names of commands, of errors and of kinds of error lines, each with its text.
use Rattle.std.specs.Prelude.{ℕ, List, [], ◌∷◌, ◌++◌, Option, option_map, codes}
use Rattle.std.specs.List.{find}
use Rattle.std.specs.Str.{bytes_eq}
use Rattle.mufom_help.specs.declared.commands.TheConstants.{
  SHOW,
  CHECK,
  LINK,
  LOCATE,
  DUMP,
  MAP,
  BIN,
  TXT,
  FROM_TXT,
  BUILD,
  ADDR,
  MAKE,
  EXPLAIN,
  HELP,
  VERSION,
}
use Rattle.mufom_help.specs.declared.records.TheConstants.{
  BAD_NUMBER,
  BAD_ID,
  BAD_RECORD,
  UNSUPPORTED_RECORD,
  UNSUPPORTED_FUNCTION,
  UNSUPPORTED_VARIABLE,
  UNDERFLOW,
  SURPLUS_TERMS,
  EMPTY,
  TOO_LONG,
  LONG_RUN,
  BAD_FIELD_SIZE,
  BRACKET_MISMATCH,
  BAD_SECTION_TYPE,
  UNSUPPORTED_BLOCK,
  UNSUPPORTED_ATTRIBUTE,
}
use Rattle.mufom_help.specs.declared.structure.TheConstants.{
  TRUNCATED,
  BAD_HEADER,
  BAD_DESCRIPTOR,
  OFFSET_ORDER,
  PART_GAP,
  WRONG_PART,
  DUPLICATE_INDEX,
  UNKNOWN_INDEX,
  DUPLICATE_VALUE,
  MISSING_VALUE,
  MISSING_BASE,
  BAD_ALIGNMENT,
  NO_SECTION,
  BAD_P,
  BLOCK_NESTING,
  DEPTH,
  AFTER_END,
  FILE_LIMIT,
  BAD_ARCHIVE,
}
use Rattle.mufom_help.specs.declared.inputs.TheConstants.{
  INPUT_LIMIT,
  TOO_MANY_FILES,
  TOO_MANY_MODULES,
  TOO_DEEP,
  SYNTAX,
  SHAPE,
  BEYOND,
}
use Rattle.mufom_help.specs.declared.lines.TheConstants.{USAGE, READ, WRITE, MEMORY, PLAN}
use Rattle.mufom_help.specs.declared.texts.TheConstants.{BAD_LINE, NO_ADDRESS, TWICE, NO_END}
use Rattle.mufom_help.specs.declared.listings.TheConstants.{
  BAD_TEXT,
  TOO_GREAT,
  POSITION,
  COUNT,
  DEEP,
  LONG_ID,
  BAD_MAUS,
  BAD_ALIGN,
  MISPLACED_P,
  FIELD_SIZE,
  ATTRIBUTE,
  NESTING,
  WEIGHT,
}
use Rattle.mufom_help.specs.declared.linking.TheConstants.{MISMATCH, DUPLICATE, DUPLICATE_START, UNKNOWN}
use Rattle.mufom_help.specs.declared.locating.TheConstants.{
  UNPLACED,
  MISFIT,
  OVERLAP,
  UNDEFINED,
  COMMON_UNPLACED,
  CYCLE,
  IMAGE_LIMIT,
  DIVIDE_BY_ZERO,
  LOAD_OUTSIDE,
  LOADED_TWICE,
  OVERFLOW,
  REGION,
}

abbrev pub Text : Type 0
Text = List ℕ

-- a name and what help prints for it
abbrev pub Topic : Type 0
Topic = Text × Text

-- the commands
abbrev pub commands : List Topic
commands =
    (codes "show", SHOW.now) ∷
    (codes "check", CHECK.now) ∷
    (codes "link", LINK.now) ∷
    (codes "locate", LOCATE.now) ∷
    (codes "dump", DUMP.now) ∷
    (codes "map", MAP.now) ∷
    (codes "bin", BIN.now) ∷
    (codes "txt", TXT.now) ∷
    (codes "fromtxt", FROM_TXT.now) ∷
    (codes "build", BUILD.now) ∷
    (codes "addr", ADDR.now) ∷
    (codes "make", MAKE.now) ∷
    (codes "explain", EXPLAIN.now) ∷
    (codes "help", HELP.now) ∷
    (codes "version", VERSION.now) ∷
    []

-- errors in one record of a module: its numbers, strings, expressions and codes
abbrev pub records : List Topic
records =
    (codes "BadNumber", BAD_NUMBER.now) ∷
    (codes "BadId", BAD_ID.now) ∷
    (codes "BadRecord", BAD_RECORD.now) ∷
    (codes "UnsupportedRecord", UNSUPPORTED_RECORD.now) ∷
    (codes "UnsupportedFunction", UNSUPPORTED_FUNCTION.now) ∷
    (codes "UnsupportedVariable", UNSUPPORTED_VARIABLE.now) ∷
    (codes "Underflow", UNDERFLOW.now) ∷
    (codes "SurplusTerms", SURPLUS_TERMS.now) ∷
    (codes "Empty", EMPTY.now) ∷
    (codes "TooLong", TOO_LONG.now) ∷
    (codes "LongRun", LONG_RUN.now) ∷
    (codes "BadFieldSize", BAD_FIELD_SIZE.now) ∷
    (codes "BracketMismatch", BRACKET_MISMATCH.now) ∷
    (codes "BadSectionType", BAD_SECTION_TYPE.now) ∷
    (codes "UnsupportedBlock", UNSUPPORTED_BLOCK.now) ∷
    (codes "UnsupportedAttribute", UNSUPPORTED_ATTRIBUTE.now) ∷
    []

-- errors in a module as a whole: its header, its parts, its indexes and its rules
abbrev pub structure : List Topic
structure =
    (codes "Truncated", TRUNCATED.now) ∷
    (codes "BadHeader", BAD_HEADER.now) ∷
    (codes "BadDescriptor", BAD_DESCRIPTOR.now) ∷
    (codes "OffsetOrder", OFFSET_ORDER.now) ∷
    (codes "PartGap", PART_GAP.now) ∷
    (codes "WrongPart", WRONG_PART.now) ∷
    (codes "DuplicateIndex", DUPLICATE_INDEX.now) ∷
    (codes "UnknownIndex", UNKNOWN_INDEX.now) ∷
    (codes "DuplicateValue", DUPLICATE_VALUE.now) ∷
    (codes "MissingValue", MISSING_VALUE.now) ∷
    (codes "MissingBase", MISSING_BASE.now) ∷
    (codes "BadAlignment", BAD_ALIGNMENT.now) ∷
    (codes "NoSection", NO_SECTION.now) ∷
    (codes "BadP", BAD_P.now) ∷
    (codes "BlockNesting", BLOCK_NESTING.now) ∷
    (codes "Depth", DEPTH.now) ∷
    (codes "AfterEnd", AFTER_END.now) ∷
    (codes "FileLimit", FILE_LIMIT.now) ∷
    (codes "BadArchive", BAD_ARCHIVE.now) ∷
    []

-- errors in the list of input files, and in the memory plan
abbrev pub inputs : List Topic
inputs =
    (codes "InputLimit", INPUT_LIMIT.now) ∷
    (codes "TooManyFiles", TOO_MANY_FILES.now) ∷
    (codes "TooManyModules", TOO_MANY_MODULES.now) ∷
    (codes "TooDeep", TOO_DEEP.now) ∷
    (codes "Syntax", SYNTAX.now) ∷
    (codes "Shape", SHAPE.now) ∷
    (codes "Beyond", BEYOND.now) ∷
    []

-- errors in a TI-TXT text
abbrev pub texts : List Topic
texts =
    (codes "BadLine", BAD_LINE.now) ∷
    (codes "NoAddress", NO_ADDRESS.now) ∷
    (codes "Twice", TWICE.now) ∷
    (codes "NoEnd", NO_END.now) ∷
    []

-- errors in a listing
abbrev pub listings : List Topic
listings =
    (codes "BadText", BAD_TEXT.now) ∷
    (codes "TooGreat", TOO_GREAT.now) ∷
    (codes "Position", POSITION.now) ∷
    (codes "Count", COUNT.now) ∷
    (codes "Deep", DEEP.now) ∷
    (codes "LongId", LONG_ID.now) ∷
    (codes "BadMaus", BAD_MAUS.now) ∷
    (codes "BadAlign", BAD_ALIGN.now) ∷
    (codes "MisplacedP", MISPLACED_P.now) ∷
    (codes "FieldSize", FIELD_SIZE.now) ∷
    (codes "Attribute", ATTRIBUTE.now) ∷
    (codes "Nesting", NESTING.now) ∷
    (codes "Weight", WEIGHT.now) ∷
    []

-- errors in linking, and in choosing what is kept
abbrev pub linking : List Topic
linking =
    (codes "Mismatch", MISMATCH.now) ∷
    (codes "Duplicate", DUPLICATE.now) ∷
    (codes "DuplicateStart", DUPLICATE_START.now) ∷
    (codes "Unknown", UNKNOWN.now) ∷
    []

-- errors in locating and in what is made of a location: places, names, loads and fields, and regions
abbrev pub locating : List Topic
locating =
    (codes "Unplaced", UNPLACED.now) ∷
    (codes "Misfit", MISFIT.now) ∷
    (codes "Overlap", OVERLAP.now) ∷
    (codes "Undefined", UNDEFINED.now) ∷
    (codes "CommonUnplaced", COMMON_UNPLACED.now) ∷
    (codes "Cycle", CYCLE.now) ∷
    (codes "ImageLimit", IMAGE_LIMIT.now) ∷
    (codes "DivideByZero", DIVIDE_BY_ZERO.now) ∷
    (codes "LoadOutside", LOAD_OUTSIDE.now) ∷
    (codes "LoadedTwice", LOADED_TWICE.now) ∷
    (codes "Overflow", OVERFLOW.now) ∷
    (codes "Region", REGION.now) ∷
    []

-- error lines without the name of an error, and those about a plan, by how they begin (`out of memory` is `memory`)
abbrev pub lines : List Topic
lines =
    (codes "usage", USAGE.now) ∷
    (codes "read", READ.now) ∷
    (codes "write", WRITE.now) ∷
    (codes "memory", MEMORY.now) ∷
    (codes "plan", PLAN.now) ∷
    []

-- errors in modules
abbrev pub module_errors : List Topic
module_errors = records ++ structure

-- errors in texts: a TI-TXT text, or a listing
abbrev pub content_errors : List Topic
content_errors = texts ++ listings

-- errors in inputs other than modules: the list of input files, the plan and texts
abbrev pub input_errors : List Topic
input_errors = inputs ++ content_errors

-- errors in linking and locating
abbrev pub link_errors : List Topic
link_errors = linking ++ locating

-- errors in the inputs of a run
unfoldable pub read_errors : List Topic
read_errors = module_errors ++ input_errors

-- all errors
unfoldable pub errors : List Topic
errors = read_errors ++ link_errors

-- all error lines, by how they begin or by the name of their error
unfoldable pub error_lines : List Topic
error_lines = lines ++ errors

-- all topics; no two of them have the same name
unfoldable pub topics : List Topic
topics = commands ++ error_lines

-- what help prints for a word: the text of the topic that has exactly this name, or nothing if there is none
abbrev pub topic_in : List Topic → Text → Option Text
topic_in among word = option_map (λ topic. topic.1) (find (λ topic. bytes_eq word topic.0) among)
