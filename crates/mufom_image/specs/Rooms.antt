-- The space that references request, and the commons as sections while references are taken one after another (IEEE Std 695, commons).
use Rattle.std.specs.Prelude.{ℕ, ◌==◌, List, [], ◌∷◌, ◌++◌, max, Option, Some, None, slice_get, slice_set, false, if◌then◌else◌}
use Rattle.mufom_sections.specs.declared.section.Section.{Section}
use Rattle.mufom_names.specs.declared.name.Weak.{Weak}
use Rattle.mufom_image_values.specs.declared.resolutions.Resolution.{Resolution}
use Rattle.mufom_image_values.specs.declared.resolutions.Resolution.TheVariants as resolutions
use Rattle.mufom_image.specs.declared.commons.Room.{Room}

-- the space that a reference requests, given what it resolves to: the reference is weak, its size is not 0, and it resolves to a common
abbrev pub room_of : Resolution → Option Weak → Option Room
room_of (resolutions.Common n) (Some weak) = if weak.size == 0 then None else Some (record { common = n; size = weak.size })
room_of resolution weak = None

-- a common of this name and size as a section
abbrev pub common_of : List ℕ → ℕ → Section
common_of name size = record { name = name; absolute = false; purpose = None; size = size; align = 8; base = None }

-- the section, enlarged to at least this size
abbrev pub raised : ℕ → Section → Section
raised size section = record section { size = max size section.size }

-- the commons with this space: the existing common is enlarged if needed; if there is none, one is added
abbrev pub with_room_at : List Section → Room → List ℕ → Option Section → List Section
with_room_at commons room name (Some section) = slice_set commons room.common (raised room.size section)
with_room_at commons room name None = commons ++ common_of name room.size ∷ []

-- the commons with space for one more reference: its common is at least as large as the reference requests, or is added at the end
abbrev pub with_room : List Section → Room → List ℕ → List Section
with_room commons room name = with_room_at commons room name (slice_get commons room.common)

-- the same for a reference that may request no space
abbrev pub with_asked : List Section → Option Room → List ℕ → List Section
with_asked commons None name = commons
with_asked commons (Some room) name = with_room commons room name
