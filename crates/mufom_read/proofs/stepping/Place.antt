-- The location of the byte after a prefix, as the code finds it.
use Rattle.std.proofs.Common.{◌≡◌, ℕ, Bool, true, false, true≢false, nat_lt, length, List, Option, Some, None, is_some, cond, refl, sym, ap, ◌∙◌}
use Rattle.mufom_read.specs.declared.prefix.Location as code
use Rattle.mufom_read.specs.declared.prefix.Location.TheVariants as offset
use Rattle.mufom_read.specs.declared.part.Extent as extents
use Rattle.mufom_judging.specs.Prefixes.{Step, size_of, Extent, Location, in_header, in_part, at_end, part_at, location_by, location_after}
use Rattle.mufom_read.specs.PartsOfCode.{as_extent}
use Rattle.mufom_read.specs.PrefixOfCode.{as_location}

nothing : {A : Type 0} {x : A} → Some x ≡ None → ⊥
nothing e = true≢false (ap is_some e)

the_extent : Location → Option Extent
the_extent (in_header k) = None
the_extent (in_part e) = Some e
the_extent at_end = None

header_part : (k : ℕ) (e : Extent) → in_header k ≡ in_part e → ⊥
unfolding the_extent
header_part k e same = nothing (sym (ap the_extent same))

part_end : (e : Extent) → in_part e ≡ at_end → ⊥
unfolding the_extent
part_end e same = nothing (ap the_extent same)

part_part : (e x : Extent) → in_part e ≡ in_part x → e ≡ x
part_part e x same = ap (the_other e) same where
  the_other : Extent → Location → Extent
  the_other d (in_part y) = y
  the_other d _ = d

place_found : (lt : Bool) (k : ℕ) (o : Option Extent) (e : Extent) → in_part e ≡ cond lt (in_header k) (location_by o) → (lt ≡ false) × (o ≡ Some e)
place_found true k o e same = absurd (header_part k e (sym same))
place_found false k None e same = absurd (part_end e same)
place_found false k (Some x) e same = (refl, ap Some (sym (part_part e x same)))

-- the place of the code is in a part
pub part-found : (prefix : List Step) (at : code.Location) (e : extents.Extent) → at ≡ offset.Part e → as_location at ≡ location_after prefix
    → (nat_lt (length prefix) 10 ≡ false) × (part_at prefix (size_of prefix) ≡ Some (as_extent e))
part-found prefix at e is same = place_found _ _ _ _ (sym (ap as_location is) ∙ same)

found_header : (lt : Bool) (n k : ℕ) (o : Option Extent) → in_header k ≡ cond lt (in_header n) (location_by o) → (lt ≡ true) × (k ≡ n)
found_header true n k o same = (refl, cc)
found_header false n k None same = absurd cc
found_header false n k (Some e) same = absurd cc

found_end : (lt : Bool) (n : ℕ) (o : Option Extent) → at_end ≡ cond lt (in_header n) (location_by o) → (lt ≡ false) × (o ≡ None)
found_end true n o same = absurd cc
found_end false n None same = (refl, refl)
found_end false n (Some e) same = absurd cc

-- it is in the header
pub header-found : (prefix : List Step) (k : ℕ) → in_header k ≡ location_after prefix → (nat_lt (length prefix) 10 ≡ true) × (k ≡ length prefix)
header-found prefix k same = found_header (nat_lt (length prefix) 10) (length prefix) k (part_at prefix (size_of prefix)) same

-- the module must end there
pub end-found : (prefix : List Step) → at_end ≡ location_after prefix → (nat_lt (length prefix) 10 ≡ false) × (part_at prefix (size_of prefix) ≡ None)
end-found prefix same = found_end (nat_lt (length prefix) 10) (length prefix) (part_at prefix (size_of prefix)) same
