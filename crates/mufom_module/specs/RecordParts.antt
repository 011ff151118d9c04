-- The parts of a file, and the records that are in each (IEEE Std 695, module structure, in this project's profile).
use Rattle.std.specs.Prelude.{ℕ, ◌==◌, ◌&&◌, ◌||◌, Bool, true, false, List, [], ◌∷◌, Option, Some, None, if◌then◌else◌}
use Rattle.mufom_expr.specs.TokenAt.{begins_number}
use Rattle.mufom_records.specs.declared.options.ReadOptions.{ReadOptions}
use Rattle.mufom_records.specs.declared.record.Mode.{Mode}
use Rattle.mufom_records.specs.declared.record.Mode.TheVariants as mode
use Rattle.mufom_records.specs.declared.record.Record.{Record}
use Rattle.mufom_records.specs.declared.record.Record.TheVariants as r
use Rattle.mufom_records.specs.Fields.{is_one_of}
use Rattle.mufom_records.specs.Layouts.{opening_brackets}

-- the parts of a file in their order, and the record at its end
pub data Part : Type 0 where
  extension_part : Part
  environment_part : Part
  section_part : Part
  external_part : Part
  debug_part : Part
  data_part : Part
  trailer_part : Part
  end_part : Part

-- the number of the part's offset: W0 to W7
abbrev pub number_of : Part → ℕ
number_of extension_part = 0
number_of environment_part = 1
number_of section_part = 2
number_of external_part = 3
number_of debug_part = 4
number_of data_part = 5
number_of trailer_part = 6
number_of end_part = 7

-- the part to which a record belongs; the records of the header belong to none
abbrev pub part_of : Record → Option Part
part_of (r.ModuleBegin _ _) = None
part_of (r.Descriptor _ _ _) = None
part_of (r.Offset _ _) = None
part_of r.ModuleEnd = Some end_part
part_of (r.SectionType _ _ _ _ _ _ _) = Some section_part
part_of (r.Alignment _ _ _) = Some section_part
part_of (r.SectionSize _ _) = Some section_part
part_of (r.SectionBase _ _) = Some section_part
part_of (r.PublicName _ _) = Some external_part
part_of (r.PublicValue _ _) = Some external_part
part_of (r.PublicNote _ _ _ _) = Some external_part
part_of (r.ReferenceName _ _) = Some external_part
part_of (r.WeakReference _ _ _) = Some external_part
part_of (r.ReferenceNote _ _ _ _) = Some external_part
part_of (r.BlockBegin _ _ _ _) = Some debug_part
part_of (r.BlockEnd _) = Some debug_part
part_of (r.DebugName _ _) = Some debug_part
part_of (r.DebugValue _ _) = Some debug_part
part_of (r.DebugNote _ _ _ _) = Some debug_part
part_of (r.SetSection _) = Some data_part
part_of (r.SetPc _ _) = Some data_part
part_of (r.Constant _) = Some data_part
part_of r.Relocate = Some data_part
part_of (r.ConstantItem _) = Some data_part
part_of (r.FieldItem _ _ _) = Some data_part
part_of (r.RepeatConstant _ _) = Some data_part
part_of (r.RepeatRelocate _) = Some data_part
part_of (r.Start _) = Some trailer_part

-- the part is this one
abbrev pub is_this_part : Part → Option Part → Bool
is_this_part part None = false
is_this_part part (Some other) = number_of part == number_of other

-- the record may be in the part
abbrev pub stands_in : Part → Record → Bool
stands_in part row = is_this_part part (part_of row)

-- items may follow the record: it is an LR, an RE of an LR, or an item
abbrev pub opens_items : Record → Bool
opens_items r.Relocate = true
opens_items (r.RepeatRelocate _) = true
opens_items (r.ConstantItem _) = true
opens_items (r.FieldItem _ _ _) = true
opens_items _ = false

-- the first byte of an item is that of a number, or an opening bracket
abbrev pub begins_item : List ℕ → Bool
begins_item [] = false
begins_item (b ∷ _) = begins_number b || is_one_of opening_brackets b

-- an item of an LR; with the forms of GNU binutils, one in which the comma before a size is optional
abbrev pub items_mode : ReadOptions → Mode
items_mode options = if options.gnu then mode.GnuItems else mode.Items

-- what begins with these bytes: an item if items may occur here and the first byte begins one, and otherwise a record
abbrev pub mode_of : ReadOptions → Bool → List ℕ → Mode
mode_of options items bytes = if items && begins_item bytes then items_mode options else mode.Body

-- LD, LR and RE
abbrev pub is_loading : Record → Bool
is_loading (r.Constant _) = true
is_loading r.Relocate = true
is_loading (r.RepeatConstant _ _) = true
is_loading (r.RepeatRelocate _) = true
is_loading _ = false

-- SB
abbrev pub is_set_section : Record → Bool
is_set_section (r.SetSection _) = true
is_set_section _ = false
