-- Worked examples of placement, loads, facts and selection: the definitions compute the expected answers.
use Rattle.std.proofs.Common.{◌≡◌, ℕ, List, [], ◌∷◌, ◌++◌, map, Some, None, true, false, refl}
use Rattle.std.specs.Prelude.{codes}
use Rattle.mufom_expr.specs.declared.token.FieldKind.TheVariants.{Signed, Unsigned, Either}
use Rattle.mufom_expr.specs.declared.token.Letter.TheVariants.{P, R}
use Rattle.mufom_expr.specs.Tree.{number, variable, two, divided}
use Rattle.mufom_sections.specs.declared.section.Section.{Section}
use Rattle.mufom_loads.specs.declared.load.Item.TheVariants.{Literal, Field}
use Rattle.mufom_loads.specs.declared.load.Load.{Load}
use Rattle.mufom_loads.specs.declared.load.Load.TheVariants.{SetSection, SetPc, One, Repeat}
use Rattle.mufom_module.specs.declared.module.Parts.{Parts}
use Rattle.mufom_plan.specs.declared.plan.Plan.{Plan}
use Rattle.mufom_place.specs.declared.refusal.PlaceRefusal.TheVariants.{Unplaced, Misfit, Overlap}
use Rattle.mufom_place.specs.Bases.{bases}
use Rattle.mufom_meaning.specs.declared.located.Site.TheVariants as sites
use Rattle.mufom_meaning.specs.Values.{value_within}
use Rattle.mufom_meaning.specs.Steps.{counter}
use Rattle.mufom_meaning.specs.Readings.{readings}
use Rattle.mufom_meaning.specs.Facts.{duplicate, placement, overflow, undefined, common_unplaced, image_limit, zero_divisor, load_outside, loaded_twice}
use Rattle.mufom_meaning.specs.LinkAnswer.{link_answer}
use Rattle.mufom_meaning.specs.LocateAnswer.{locate_answer}
use Rattle.mufom_meaning.specs.Selection.{is_closed}
use Rattle.mufom_meaning.proofs.rows.Built.{a_module, relocatable, absolute_at, public_of, strong, weak, region_at, plan_of, image_of}

-- Sections at the ends of the address space.
abbrev absolute_ones : List Section → List Parts
absolute_ones sections = a_module sections [] [] [] ∷ []

shared_start : locate_answer (absolute_ones (absolute_at 256 16 ∷ absolute_at 256 0 ∷ [])) (plan_of []) ≡ None
unfolding locate_answer
shared_start = refl

up_to_the_end : locate_answer (absolute_ones (absolute_at 4294967280 16 ∷ [])) (plan_of []) ≡ None
unfolding locate_answer
up_to_the_end = refl

past_the_end : locate_answer (absolute_ones (absolute_at 4294967280 17 ∷ [])) (plan_of []) ≡ Some (placement (Misfit 0 None))
unfolding locate_answer
past_the_end = refl

at_the_end : locate_answer (absolute_ones (absolute_at 4294967296 0 ∷ [])) (plan_of []) ≡ Some (placement (Misfit 0 None))
unfolding locate_answer
at_the_end = refl

-- Placement.
abbrev two_sections : List Section
two_sections = relocatable (codes "a") 3 ∷ record (relocatable (codes "b") 4) { align = 4 } ∷ []

abbrev star_plan : ℕ → Plan
star_plan size = plan_of (region_at 16 size (codes "*" ∷ []) ∷ [])

starred : bases (star_plan 32) two_sections [] ≡ 16 ∷ 20 ∷ []
starred = refl

too_small : locate_answer (absolute_ones two_sections) (star_plan 5) ≡ Some (placement (Misfit 1 (Some 0)))
unfolding locate_answer
too_small = refl

overlapped : locate_answer (absolute_ones (two_sections ++ absolute_at 22 1 ∷ [])) (star_plan 32) ≡ Some (placement (Overlap 1 2))
unfolding locate_answer
overlapped = refl

nowhere : locate_answer (absolute_ones two_sections) (plan_of []) ≡ Some (placement (Unplaced 0))
unfolding locate_answer
nowhere = refl

-- What a signed field of one byte holds.
abbrev signed_byte : ℕ → List Parts
signed_byte n = a_module (absolute_at 0 1 ∷ []) [] [] (SetSection 0 ∷ One (Field Signed 1 (number n)) ∷ []) ∷ []

holds_127 : image_of (signed_byte 127) (plan_of []) ≡ (0, 127) ∷ []
unfolding readings counter value_within
holds_127 = refl

fits_127 : locate_answer (signed_byte 127) (plan_of []) ≡ None
unfolding locate_answer counter value_within
fits_127 = refl

holds_minus_128 : image_of (signed_byte 4294967168) (plan_of []) ≡ (0, 128) ∷ []
unfolding readings counter value_within
holds_minus_128 = refl

fits_minus_128 : locate_answer (signed_byte 4294967168) (plan_of []) ≡ None
unfolding locate_answer counter value_within
fits_minus_128 = refl

overflows_128 : locate_answer (signed_byte 128) (plan_of []) ≡ Some (overflow 0 0 Signed 1 128)
unfolding locate_answer counter value_within
overflows_128 = refl

overflows_minus_129 : locate_answer (signed_byte 4294967167) (plan_of []) ≡ Some (overflow 0 0 Signed 1 4294967167)
unfolding locate_answer counter value_within
overflows_minus_129 = refl

-- Addresses of one unit and of eight.
abbrev one_unit : List Parts
one_unit = record (a_module (absolute_at 252 4 ∷ []) [] [] (SetSection 0 ∷ Repeat 4 (Field Unsigned 1 (variable P 0) ∷ []) ∷ [])) { maus = 1 } ∷ []

one_unit_image : image_of one_unit (plan_of []) ≡ (252, 252) ∷ (253, 253) ∷ (254, 254) ∷ (255, 255) ∷ []
unfolding readings counter value_within
one_unit_image = refl

one_unit_fits : locate_answer one_unit (plan_of []) ≡ None
unfolding locate_answer counter value_within
one_unit_fits = refl

abbrev eight_units : ℕ → List Parts
eight_units size =
    record (a_module (absolute_at 18446744073709551612 size ∷ []) [] [] (SetSection 0 ∷ One (Field Signed 4 (variable R 0)) ∷ [])) { maus = 8 } ∷ []

eight_units_image : image_of (eight_units 4) (plan_of [])
    ≡ (18446744073709551612, 255) ∷ (18446744073709551613, 255) ∷ (18446744073709551614, 255) ∷ (18446744073709551615, 252) ∷ []
unfolding readings counter value_within
eight_units_image = refl

eight_units_fit : locate_answer (eight_units 4) (plan_of []) ≡ None
unfolding locate_answer counter value_within
eight_units_fit = refl

eight_units_misfit : locate_answer (eight_units 5) (plan_of []) ≡ Some (placement (Misfit 0 None))
unfolding locate_answer
eight_units_misfit = refl

-- The value of a repeated field is the counter at each copy.
abbrev repeated_counter : List Parts
repeated_counter = a_module (absolute_at 16 6 ∷ []) [] [] (SetSection 0 ∷ Repeat 3 (Field Either 2 (variable P 0) ∷ []) ∷ []) ∷ []

repeated_image : image_of repeated_counter (plan_of []) ≡ (16, 0) ∷ (17, 16) ∷ (18, 0) ∷ (19, 18) ∷ (20, 0) ∷ (21, 20) ∷ []
unfolding readings counter value_within
repeated_image = refl

-- Names and loads.
nobody_defines : locate_answer (a_module [] [] (strong (codes "q") ∷ []) [] ∷ []) (plan_of []) ≡ Some (undefined (codes "q"))
unfolding locate_answer
nobody_defines = refl

no_room : locate_answer (a_module [] [] (weak (codes "c") 4 0 ∷ []) [] ∷ []) (plan_of []) ≡ Some (common_unplaced (codes "c"))
unfolding locate_answer
no_room = refl

abbrev small_section : List Load → List Parts
small_section loads = a_module (absolute_at 16 2 ∷ []) [] [] loads ∷ []

outside : locate_answer (small_section (SetSection 0 ∷ One (Literal (1 ∷ 2 ∷ 3 ∷ [])) ∷ [])) (plan_of []) ≡ Some (load_outside 0 18)
unfolding locate_answer counter
outside = refl

twice : locate_answer (small_section (SetSection 0 ∷ One (Literal (1 ∷ [])) ∷ SetPc 0 (number 16) ∷ One (Literal (1 ∷ [])) ∷ [])) (plan_of [])
    ≡ Some (loaded_twice 16)
unfolding locate_answer counter value_within
twice = refl

no_quotient : locate_answer (a_module [] (public_of (codes "d") (two divided (number 1) (number 0)) ∷ []) [] [] ∷ []) (plan_of [])
    ≡ Some (zero_divisor (sites.Public (codes "d")))
unfolding locate_answer value_within
no_quotient = refl

same_name_twice : link_answer (a_module [] (public_of (codes "main") (number 0) ∷ []) [] [] ∷ a_module [] (public_of (codes "main") (number 0) ∷ [])
    [] [] ∷ []) ≡ Some (duplicate (codes "main"))
same_name_twice = refl

-- A repeat that loads more than an image may have.
too_many : locate_answer (a_module (absolute_at 0 1 ∷ []) [] [] (SetSection 0 ∷ Repeat 4294967295 (Literal (170 ∷ []) ∷ []) ∷ []) ∷ []) (plan_of [])
    ≡ Some (image_limit 4294967295)
unfolding locate_answer
too_many = refl

-- Which members are closed: a member that defines a name may need another.
abbrev member : List (List ℕ) → List (List ℕ) → Parts
member defines uses = a_module [] (map (λ name. public_of name (number 0)) defines) (map strong uses) []

abbrev roots : List Parts
roots = member [] (codes "f" ∷ []) ∷ []

abbrev library : List Parts
library = member (codes "f" ∷ []) (codes "g" ∷ []) ∷ member (codes "f" ∷ codes "g" ∷ []) [] ∷ []

both_are_closed : is_closed roots library (0 ∷ 1 ∷ []) ≡ true
both_are_closed = refl

first_is_not : is_closed roots library (0 ∷ []) ≡ false
first_is_not = refl

second_is_not : is_closed roots library (1 ∷ []) ≡ false
second_is_not = refl

abbrev other_library : List Parts
other_library = member (codes "h" ∷ []) [] ∷ member (codes "f" ∷ codes "g" ∷ []) [] ∷ []

second_is_enough : is_closed roots other_library (1 ∷ []) ≡ true
second_is_enough = refl

none_is_not : is_closed roots other_library [] ≡ false
none_is_not = refl
