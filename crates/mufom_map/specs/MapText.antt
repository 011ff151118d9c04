-- The text of a map: modules, regions, entries that place no section, sections, commons and copies by address, publics by value, the start, and totals;
-- and the lines of one address.
use Rattle.std.specs.Prelude.{ℕ, ◌-◌, List, [], ◌∷◌, ◌++◌, length, map, flat_map, Option, Some, None, sum_by, nat_lt, codes, if◌then◌else◌}
use Rattle.std.specs.Prelude.{Bool, true, false}
use Rattle.mufom_plan.specs.declared.plan.Region.{Region}
use Rattle.mufom_place.specs.declared.placing.Extent.{Extent}
use Rattle.mufom_text.specs.Words.{Text, each, line, quoted}
use Rattle.mufom_text.specs.Digits.{counted, hex}
use Rattle.mufom_origins.specs.declared.origins.Origin.{Origin}
use Rattle.mufom_origins.specs.Words.{ModuleFiles, module_text}
use Rattle.mufom_map.specs.Mapped.{Mapped, MappedPublic, MappedSection}
use Rattle.mufom_map.specs.Room.{bar, used_in}
use Rattle.mufom_map.specs.Spot.{public_below, section_at}

-- ---- words

-- the position of a module, after the word
abbrev pub in_module : Option ℕ → Text
in_module None = []
in_module (Some j) = counted (codes " module ") j

-- the position of a public's module, after the word; a public without a module is a symbol of the plan
abbrev pub in_module_or_plan : Option ℕ → Text
in_module_or_plan None = codes " plan"
in_module_or_plan (Some j) = in_module (Some j)

-- the position of a region, after the word
abbrev pub in_region : Option ℕ → Text
in_region None = []
in_region (Some k) = counted (codes " region ") k

-- ---- order

-- an element, inserted before the elements whose keys are equal or greater
abbrev pub put_in : {X : Type 0} → (X → ℕ) → X → List X → List X
put_in key x [] = x ∷ []
put_in key x (y ∷ ys) = if nat_lt (key y) (key x) then y ∷ put_in key x ys else x ∷ y ∷ ys

-- elements sorted by their keys; elements with the same key stay in their order
abbrev pub by_key : {X : Type 0} → (X → ℕ) → List X → List X
by_key key [] = []
by_key key (x ∷ xs) = put_in key x (by_key key xs)

-- ---- lines

abbrev pub module_line : ModuleFiles → ℕ → Origin → Text
module_line names j o = line (module_text names j o.place o.name)

abbrev pub extent_of : MappedSection → Extent
extent_of s = record { base = s.base; section = s.number; size = s.size }

abbrev pub region_line : ℕ → List Extent → ℕ → Region → Text
region_line maus sections k region =
    let used = used_in region sections in
    line (counted (codes "region ") k ++ (codes " " ++ (quoted region.name ++ (codes " at " ++ (hex maus region.base
    ++ (counted (codes " size ") region.size ++ (counted (codes " used ") used ++ (counted (codes " free ") (region.size - used)
    ++ (codes " " ++ bar region sections)))))))))

-- an entry of a region's list that places no section
abbrev pub unused_line : ℕ → List ℕ → Text
unused_line k entry = line (counted (codes "unused region ") k ++ (codes " " ++ quoted entry))

abbrev pub unused_lines : ℕ → List (List ℕ) → Text
unused_lines k entries = flat_map (unused_line k) entries

-- the description of a section, a common or a copy, from its number on
abbrev pub placed_text : ℕ → MappedSection → Text
placed_text maus s = counted [] s.number ++ (codes " " ++ (hex maus s.base ++ (counted (codes " size ") s.size
    ++ (counted (codes " align ") s.align ++ (codes " " ++ quoted s.name)))))

-- the word for an entry: a section has a module, a common and a copy have none
abbrev pub kind_word : Bool → Option ℕ → Text
kind_word copy (Some j) = codes "section "
kind_word true None = codes "copy "
kind_word false None = codes "common "

abbrev pub section_line : ℕ → MappedSection → Text
section_line maus s = line (kind_word s.copy s.origin ++ (placed_text maus s ++ (in_module s.origin ++ in_region s.region)))

abbrev pub public_text : ℕ → MappedPublic → Text
public_text maus p = codes "public " ++ (hex maus p.value ++ (codes " " ++ (quoted p.name ++ in_module_or_plan p.origin)))

abbrev pub public_line : ℕ → MappedPublic → Text
public_line maus p = line (public_text maus p)

abbrev pub start_line : ℕ → Option (ℕ × Option ℕ) → Text
start_line maus None = []
start_line maus (Some start) = line (codes "start " ++ (hex maus start.0 ++ in_module start.1))

abbrev pub total_line : Mapped → Text
total_line m = line (counted (codes "sections ") (length m.sections)
    ++ (counted (codes " bytes ") (sum_by (λ (s : MappedSection). s.size) m.sections) ++ counted (codes " loaded ") m.loaded))

-- ---- the whole

-- the text of a map, given the files of all modules: modules, regions and entries that place no section in their order, sections, commons and copies
-- by base and then by number, publics by value and then by position
abbrev pub map_text : ModuleFiles → Mapped → Text
map_text names m =
    each (module_line names) m.origins
    ++ (each (region_line m.maus (map extent_of m.sections)) m.regions ++ (each unused_lines m.unused
    ++ (flat_map (section_line m.maus) (by_key (λ (s : MappedSection). s.base) m.sections)
    ++ (flat_map (public_line m.maus) (by_key (λ (p : MappedPublic). p.value) m.publics)
    ++ (start_line m.maus m.start ++ total_line m)))))

-- ---- one address

-- the line of the section, common or copy that holds the address
abbrev pub found_section : ℕ → Option MappedSection → Text
found_section maus None = line (codes "section none")
found_section maus (Some s) = section_line maus s

-- the line of the nearest public, with the distance of the address from it
abbrev pub found_public : ℕ → ℕ → Option MappedPublic → Text
found_public maus address None = line (codes "public none")
found_public maus address (Some p) = line (public_text maus p ++ counted (codes " offset ") (address - p.value))

-- The lines of an address: the section, common or copy that holds it, and the nearest public in that which is not above it.
abbrev pub spot_text : (maus address : ℕ) → List MappedSection → List MappedPublic → Text
spot_text maus address sections publics = let s = section_at address sections in
    found_section maus s ++ found_public maus address (public_below address s publics)

abbrev pub address_text : ℕ → Mapped → Text
address_text address m = spot_text m.maus address m.sections m.publics

-- the whole map, or the lines of an address
abbrev pub view_text : ModuleFiles → Option ℕ → Mapped → Text
view_text names None m = map_text names m
view_text names (Some address) m = address_text address m
