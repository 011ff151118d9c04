-- The values with which the code explains an error, and the lines that it makes of them.
use Rattle.std.specs.Prelude.{ℕ, ◌-◌, ◌&&◌, Bool, List, [], ◌∷◌, ◌++◌, Option, Some, None, nat_lt, slice_get, if◌then◌else◌}
use Rattle.mufom_plan.specs.declared.plan.Region.{Region}
use Rattle.mufom_text.specs.Words.{Text}
use Rattle.mufom_origins.specs.Origins.{FileModule}
use Rattle.mufom_field_values.specs.Told.{value_text}
use Rattle.mufom_explain.specs.declared.details.LinkDetails.{LinkDetails}
use Rattle.mufom_explain.specs.declared.details.LinkKind.{LinkKind}
use Rattle.mufom_explain.specs.declared.details.LinkKind.TheVariants as link
use Rattle.mufom_explain.specs.declared.details.LocateContext.{LocateContext}
use Rattle.mufom_explain.specs.declared.details.LocateDetails.{LocateDetails}
use Rattle.mufom_explain.specs.declared.details.LocateKind.{LocateKind}
use Rattle.mufom_explain.specs.declared.details.LocateKind.TheVariants as locate
use Rattle.mufom_explain.specs.declared.details.NameDetails.{NameDetails}
use Rattle.mufom_explain.specs.declared.details.SharedDetails.{SharedDetails}
use Rattle.mufom_explain.specs.Lines.{ModuleFiles, module_line}
use Rattle.mufom_explain.specs.Details.{Explained, entry_lines, has_start, lines_among, mismatch_lines, start_lines, symbol_lines}
use Rattle.mufom_origins.specs.Words.{all_files}
use Rattle.mufom_explain.specs.Flat.{flat_of, wanted_names}
use Rattle.mufom_explain.specs.Mentions.{mention_text}
use Rattle.mufom_explain.specs.Region.{region_line}

-- ---- linking

-- a line is left, and the module has a start
abbrev pub is_told : ℕ → ℕ × FileModule → Bool
is_told left p = nat_lt 0 left && has_start p

-- the number of lines that are left after the module
abbrev pub left_after : ℕ → ℕ × FileModule → ℕ
left_after left p = if is_told left p then left - 1 else left

-- the line of the module, if a line is left and it has a start
abbrev pub start_line : ModuleFiles → ℕ → ℕ × FileModule → Text
start_line names left p = if is_told left p then module_line names p.0 p.1 else []

abbrev pub link_lines : ModuleFiles → List FileModule → LinkKind → Text
link_lines names flat link.Mismatch = mismatch_lines names flat
link_lines names flat (link.Mentions mentions) = mention_text names (flat_of mentions.flat.now) (wanted_names mentions.wanted)
link_lines names flat link.Starts = start_lines names flat
link_lines names flat link.Nothing = []

abbrev pub link_text : LinkDetails → Text
link_text d = link_lines (all_files d.names.now) (flat_of d.flat.now) d.kind

-- ---- a name that should be kept

abbrev pub name_text : NameDetails → Text
name_text d = mention_text (all_files d.names.now) (flat_of d.mentions.flat.now) (wanted_names d.mentions.wanted)

-- ---- a name that the plan shares

abbrev pub shared_text : SharedDetails → Text
shared_text d = symbol_lines d.name.now d.symbol ++ name_text d.mentions

-- ---- locating

abbrev pub explained_of : LocateContext → Explained
explained_of c = record {
  names = all_files c.names.now;
  flat = flat_of c.flat.now;
  origins = c.origins.now;
  maus = c.«module».now.maus;
  modules = c.«module».now ∷ [];
  «module» = c.«module».now;
  own = c.own.now;
  plan = c.plan.now;
}

abbrev pub taken_at : Explained → ℕ → ℕ → Option Region → Text
taken_at e n taken None = []
taken_at e n taken (Some region) = region_line e.maus n region taken

-- the line of the region with a number, whose sections take this much space
abbrev pub taken_text : Explained → ℕ → ℕ → Text
taken_text e n taken = taken_at e n taken (slice_get e.plan.regions n)

abbrev pub locate_lines : Explained → LocateKind → Text
locate_lines e (locate.Entry n) = entry_lines e n
locate_lines e (locate.Placed copies n) = lines_among e copies n
locate_lines e (locate.Entries copies m n) = lines_among e copies m ++ lines_among e copies n
locate_lines e (locate.Misfit copies section region taken) = lines_among e copies section ++ taken_text e region taken
locate_lines e (locate.Field section value) = entry_lines e section ++ value_text value
locate_lines e (locate.Mentions mentions) = mention_text e.names (flat_of mentions.flat.now) (wanted_names mentions.wanted)
locate_lines e locate.Nothing = []

abbrev pub locate_text : LocateDetails → Text
locate_text d = locate_lines (explained_of d.context) d.kind
