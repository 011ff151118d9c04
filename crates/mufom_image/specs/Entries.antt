-- The parts of a location, by the entries of the located module.
use Rattle.std.specs.Prelude.{◌≡◌, List, [], ◌∷◌, map, Some, option_map}
use Rattle.mufom_debug.specs.Marks.{marks_of}
use Rattle.mufom_sections.specs.declared.section.Section.{Section}
use Rattle.mufom_meaning.specs.AddressMap.{AreRunsOf, address_map}
use Rattle.mufom_meaning.specs.declared.located.LocatedParts.{LocatedParts}
use Rattle.mufom_meaning.specs.declared.located.Run.{Run}
use Rattle.mufom_meaning.specs.Location.{first_header}
use Rattle.mufom_meaning.specs.Readings.{readings}
use Rattle.mufom_image_values.specs.Evaluated.{setting_of}
use Rattle.mufom_image_entries.specs.declared.valued.ValuedModule.{ValuedModule}
use Rattle.mufom_image_entries.specs.Valued.{parts_of, value_of, valued_mark, valued_public}
use Rattle.mufom_image.specs.Stages.{bases_of}

-- the parts have the header of the module, these sections and runs, and its other entries with their values
pub record HasEntries (valued : ValuedModule) (sections : List Section) (runs : List Run) (r : LocatedParts) : Type 0 where
  pub first : first_header (parts_of valued ∷ []) ≡ Some (r.processor, r.name, r.maus, r.order)
  pub placed : r.sections ≡ sections
  pub publics : r.publics ≡ map (valued_public valued) (parts_of valued).names.publics
  pub rows : r.runs ≡ runs
  pub start : r.start ≡ option_map (value_of valued) (parts_of valued).start
  pub debug : marks_of r.debug ≡ map (valued_mark (value_of valued)) (marks_of (parts_of valued).debug)

-- the runs are those of the bytes that the module loads
abbrev pub AreRuns : ValuedModule → List Run → Type 0
AreRuns valued runs = let m = parts_of valued in
    AreRunsOf (address_map m.order (setting_of valued.placed.now).modulus (readings (m ∷ []) (bases_of valued.placed.now)).steps) runs
