-- What is found among located sections and publics is what a map shows at an address.
use Rattle.std.proofs.Common.{◌≡◌, ℕ, List, map, Option, refl, ap, position}
use Rattle.std.specs.List.{enumerate_from}
use Rattle.mufom_sections.specs.declared.section.Section.{Section}
use Rattle.mufom_meaning.specs.declared.located.PublicValue.{PublicValue}
use Rattle.mufom_origins.specs.declared.origins.Origin.{Origin}
use Rattle.mufom_map.specs.Found.{element_at}
use Rattle.mufom_map.specs.Mapped.{MappedPublic, MappedSection, mapped_public}
use Rattle.mufom_map.specs.Shown.{base_of, shown_section, shown_sections}
use Rattle.mufom_map.specs.Spot.{is_nearest, lies_in, public_at, section_at, values_of}
use Rattle.mufom_map.proofs.SpotLaws.{fields-from, found-at}

-- the section that holds the address
pub section-is : (origins : List Origin) (regions : List (Option ℕ)) (copies : ℕ) (sections : List Section) (address : ℕ)
    → element_at (shown_sections origins regions copies sections) (position (λ (s : Section). lies_in (base_of s) s.size address) sections)
    ≡ section_at address (shown_sections origins regions copies sections)
section-is origins regions copies sections address =
    found-at (shown_section origins regions copies) (λ (s : MappedSection). lies_in s.base s.size address) (λ (s : Section). lies_in (base_of s) s.size address)
    (λ n s. refl) sections

-- the nearest public in a section
pub near-is : (origins : List Origin) (publics : List PublicValue) (s : MappedSection) (address : ℕ)
    → element_at (map (mapped_public origins) (enumerate_from 0 publics))
    (position (λ (p : PublicValue). is_nearest s.base s.size address (map (λ (q : PublicValue). q.value) publics) p.value) publics)
    ≡ public_at address s (map (mapped_public origins) (enumerate_from 0 publics))
near-is origins publics s address =
    let values : values_of (map (mapped_public origins) (enumerate_from 0 publics)) ≡ map (λ (q : PublicValue). q.value) publics
    = fields-from (mapped_public origins) (λ (m : MappedPublic). m.value) (λ (q : PublicValue). q.value) (λ n x. refl) 0 publics in
    found-at (mapped_public origins)
    (λ (m : MappedPublic). is_nearest s.base s.size address (values_of (map (mapped_public origins) (enumerate_from 0 publics))) m.value)
    (λ (p : PublicValue). is_nearest s.base s.size address (map (λ (q : PublicValue). q.value) publics) p.value)
    (λ n x. ap (λ (vs : List ℕ). is_nearest s.base s.size address vs x.value) values) publics
