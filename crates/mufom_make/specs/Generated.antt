-- The modules that `make` generates, the plan by which they are located, and the summary of their location.
use Rattle.std.specs.Prelude.{ℕ, zero, suc, ◌+◌, ◌*◌, ◌%◌, ◌==◌, List, [], ◌∷◌, ◌++◌, length, sum, sum_by, Some, None, codes, Bool, true, false}
use Rattle.std.specs.Int.{w32, to_be_bytes}
use Rattle.std.specs.Fmt.{decimal}
use Rattle.mufom_expr.specs.declared.token.FieldKind.TheVariants.{Either}
use Rattle.mufom_expr.specs.declared.token.Letter.TheVariants as letters
use Rattle.mufom_expr.specs.Tree.{Tree, number, variable, two, plus}
use Rattle.mufom_sections.specs.declared.section.Section.{Section}
use Rattle.mufom_sections.specs.declared.section.Purpose.TheVariants.{Code}
use Rattle.mufom_names.specs.declared.name.Public.{Public}
use Rattle.mufom_names.specs.declared.name.Reference.{Reference}
use Rattle.mufom_loads.specs.declared.load.Item.TheVariants.{Literal, Field}
use Rattle.mufom_loads.specs.declared.load.Load.{Load}
use Rattle.mufom_loads.specs.declared.load.Load.TheVariants.{SetSection, One, Repeat}
use Rattle.mufom_module.specs.declared.module.Order.TheVariants.{Most}
use Rattle.mufom_module.specs.declared.module.Parts.{Parts}
use Rattle.mufom_plan.specs.declared.plan.Plan.{Plan}
use Rattle.mufom_meaning.specs.declared.located.LocatedParts.{LocatedParts}

-- a letter followed by a number in decimal
abbrev pub name_at : List ℕ → ℕ → List ℕ
name_at letter n = letter ++ decimal n

-- the one section of each module
abbrev pub code_section : Section
code_section = record { name = codes "code"; absolute = false; purpose = Some Code; size = 16; align = 4; base = None }

-- the public of the module with this number, at offset 4 of its section
abbrev pub entry_at : ℕ → Public
entry_at n = record { name = name_at (codes "f") n; value = two plus (variable letters.R 0) (number 4); notes = [] }

-- the references of the module with this number: one to the public of the next module; none in the last module
abbrev pub references_at : (last : Bool) → ℕ → List Reference
references_at true n = []
references_at false n = record { name = name_at (codes "f") (n + 1); weak = None; notes = [] } ∷ []

-- the address of the public of the next module; 0 in the last module
abbrev pub next_value : (last : Bool) → Tree
next_value true = number 0
next_value false = variable letters.X 0

-- 16 bytes: the address of the next public, the number of the module, the program counter, and twice the lowest byte of the number and 0
abbrev pub loads_at : (last : Bool) → ℕ → List Load
loads_at last n = SetSection 0
    ∷ One (Field Either 4 (next_value last))
    ∷ One (Literal (to_be_bytes w32 n))
    ∷ One (Field Either 4 (variable letters.P 0))
    ∷ Repeat 2 (Literal (n % 256 ∷ 0 ∷ []) ∷ [])
    ∷ []

-- the module with this number, which is the last or not
abbrev pub module_at : (last : Bool) → ℕ → Parts
module_at last n = record {
  processor = codes "MADE";
  name = name_at (codes "m") n;
  maus = 4;
  order = Most;
  ext = [];
  env = [];
  sections = code_section ∷ [];
  names = record { publics = entry_at n ∷ []; references = references_at last n };
  debug = [];
  loads = loads_at last n;
  start = None;
}

-- `more` of the `count` modules, numbered from n
abbrev pub modules_from : (count more n : ℕ) → List Parts
modules_from count zero n = []
modules_from count (suc more) n = module_at (n + 1 == count) n ∷ modules_from count more (n + 1)

-- `count` modules
abbrev pub made_modules : (count : ℕ) → List Parts
made_modules count = modules_from count count 0

-- the plan for `count` modules: one region, which takes all sections
abbrev pub made_plan : (count : ℕ) → Plan
made_plan count = record {
  regions = record { name = codes "all"; base = 4096; size = 16 * count; sections = codes "*" ∷ []; common = false; load = None } ∷ [];
  symbols = [];
  keep = [];
}

-- four lines about `count` modules and their location: the number of modules, of publics and of loaded bytes, and the sum of those bytes
abbrev pub summary : (count : ℕ) → LocatedParts → List ℕ
summary count r = codes "modules " ++ decimal count
    ++ codes "\npublics " ++ decimal (length r.publics)
    ++ codes "\nbytes " ++ decimal (sum_by (λ run. length run.bytes) r.runs)
    ++ codes "\nsum " ++ decimal (sum_by (λ run. sum run.bytes) r.runs)
    ++ codes "\n"
