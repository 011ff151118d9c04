-- Lists with the same readings, facts and first module have the same location.
use Rattle.std.proofs.Common.{map, ◌≡◌, ℕ, ◌*◌, List, [], ◌∷◌, ◌++◌, Option, Some, None, refl, sym, ◌∙◌, ap, subst}
use Rattle.std.specs.Prelude.{◌^◌}
use Rattle.mufom_module.specs.declared.module.Parts.{Parts}
use Rattle.mufom_plan.specs.declared.plan.Plan.{Plan}
use Rattle.mufom_meaning.specs.Bases.{Bases, no_bases}
use Rattle.mufom_meaning.specs.declared.located.LocatedParts.{LocatedParts}
use Rattle.mufom_meaning.specs.Flat.{flat_sections, commons, width}
use Rattle.mufom_meaning.specs.Readings.{Readings, readings}
use Rattle.mufom_meaning.specs.Joined.{HasFirstHeader}
use Rattle.mufom_meaning.specs.Location.{located_mark, Header, first_header, placed_sections, IsLocation}
use Rattle.mufom_meaning.specs.Staging.{NameStays}
use Rattle.mufom_meaning.specs.LinkAnswer.{link_answer}
use Rattle.mufom_meaning.specs.LocateAnswer.{locate_answer}
use Rattle.mufom_meaning.specs.AddressMap.{address_map, AreRunsOf}
use Rattle.mufom_meaning.specs.Placed.{planned_bases}
use Rattle.mufom_meaning.proofs.Placed.{same_extended, same_base_list, same_planned}

abbrev width_of : Option Header → ℕ
width_of None = 0
width_of (Some header) = 8 * header.2

width-first_header : (ms : List Parts) → width ms ≡ width_of (first_header ms)
width-first_header [] = refl
width-first_header (m ∷ ms) = refl

module _ (ms leaves : List Parts) (plan : Plan) (link : link_answer ms ≡ link_answer leaves) (locate : locate_answer ms plan ≡ locate_answer leaves plan)
    (same : (b : Bases) → readings ms b ≡ readings leaves b) (first : first_header ms ≡ first_header leaves) where
  sections : flat_sections ms ≡ flat_sections leaves
  unfolding readings
  sections = ap (λ (x : Readings). x.sections) (same no_bases)

  asked : commons ms ≡ commons leaves
  unfolding readings
  asked = ap (λ (x : Readings). x.commons) (same no_bases)

  there : readings ms (planned_bases ms plan) ≡ readings leaves (planned_bases leaves plan)
  there = same (planned_bases ms plan) ∙ ap (readings leaves) (same_planned ms leaves sections asked plan)

  widths : width ms ≡ width leaves
  widths = width-first_header ms ∙ ap width_of first ∙ sym (width-first_header leaves)

  pub location_there : (r : LocatedParts) → IsLocation ms plan r → IsLocation leaves plan r
  location_there r h = record {
    links = sym link ∙ h.links;
    locates = sym locate ∙ h.locates;
    first = sym first ∙ h.first;
    sections = let placed = same_base_list ms leaves sections asked plan in let all = same_extended ms leaves sections asked plan in
        h.sections ∙ (λ i. placed_sections (placed i) (all i));
    publics = h.publics ∙ ap (λ (x : Readings). x.publics) there;
    start = h.start ∙ ap (λ (x : Readings). x.starts) there;
    debug = h.debug ∙ ap (λ (x : Readings). map located_mark x.debug) there;
    rows = subst (λ cells. AreRunsOf cells r.runs) (λ i. address_map r.order (2 ^ widths i) (there i).steps) h.rows;
  }

-- the first module of a list in which a group is linked
pub same_first_header : (M : Parts) (ms : List Parts) → HasFirstHeader M ms → (before after : List Parts) → NameStays before M ms
    → first_header (before ++ (M ∷ after)) ≡ first_header (before ++ (ms ++ after))
same_first_header M [] h [] after stay = absurd h
same_first_header M (m ∷ ms) h [] after stay = λ i. Some (h.processor i, stay i, h.maus i, h.order i)
same_first_header M ms h (b ∷ before) after stay = refl
