-- The setting of a list with a link, and that of the list with the group that the link replaces.
use Rattle.std.proofs.Common.{◌≡◌, ℕ, ◌+◌, ◌*◌, List, [], ◌∷◌, ◌++◌, map, length, Some, true, false, refl, sym, ◌∙◌, ap, subst, zero-add, flat_map}
use Rattle.std.specs.Prelude.{slice_get, ◌^◌}
use Rattle.std.specs.Str.{bytes_eq}
use Rattle.std.proofs.lemmas.Grind.{flat_map-append}
use Rattle.mufom_names.specs.declared.name.Public.{Public}
use Rattle.mufom_names.specs.Names.{AreDistinct}
use Rattle.mufom_module.specs.declared.module.Parts.{Parts}
use Rattle.mufom_plan.specs.Names.{has_name}
use Rattle.mufom_meaning.specs.Bases.{Bases}
use Rattle.mufom_meaning.specs.Flat.{Sited, SitedPublic, sited_from, sited, sited_publics, flat_sections, flat_publics, public_names, first_named, width}
use Rattle.mufom_meaning.specs.Values.{setting}
use Rattle.mufom_meaning.specs.Joined.{IsJoined, HasFirstHeader, joined_public, position_of}
use Rattle.mufom_meaning.proofs.staging.Moved.{shifted, IsOfGroup, stays, joins, MovedPublic, AreSettings}
use Rattle.mufom_meaning.proofs.Paired.{Paired, Paired-same}
use Rattle.mufom_meaning.proofs.staging.Needs.{same_commons}
use Rattle.mufom_meaning.proofs.Sites.{next_section, next_public, next_name, sited_from-append, next_public-length}
use Rattle.mufom_meaning.proofs.Names.{names_of, names_of-sited_publics, absent_before, has_name-append_left, first_named-skip, get-skip, first_at_place}
use Rattle.mufom_meaning.proofs.staging.Groups.{paired_joined, are_of_group, home_of, paired_sites}

pub same_width : (M : Parts) (ms : List Parts) → HasFirstHeader M ms → (before after : List Parts) → width (before ++ (M ∷ after))
    ≡ width (before ++ (ms ++ after))
same_width M [] header [] after = absurd header
same_width M (m ∷ ms) header [] after = ap (λ maus. 8 * maus) header.maus
same_width M ms header (b ∷ before) after = refl

module _ (M : Parts) (ms : List Parts) (name : List ℕ) (j : IsJoined M ms name) (before after : List Parts) where
  pub same_sections : flat_sections (before ++ (M ∷ after)) ≡ flat_sections (before ++ (ms ++ after))
  same_sections =
      flat_map-append (λ m. m.sections) before (M ∷ after)
      ∙ ap (λ sections. flat_sections before ++ (sections ++ flat_sections after)) j.sections
      ∙ ap (λ more. flat_sections before ++ more) (sym (flat_map-append (λ m. m.sections) ms after))
      ∙ sym (flat_map-append (λ m. m.sections) before (ms ++ after))

  abbrev entry_at : Sited → Public → SitedPublic
  entry_at site entry = record { site = site; entry = entry }

  moved_public : (site : Sited) → IsOfGroup ms site → (entry : Public)
      → MovedPublic ms (home_of M before) (entry_at (home_of M before) (joined_public ms site entry)) (entry_at (shifted (home_of M before) site) entry)
  moved_public site within entry = record { name = refl; notes = refl; tree = joins site entry.value within }

  stays_public : (q : SitedPublic) → MovedPublic ms (home_of M before) q q
  stays_public q = record { name = refl; notes = refl; tree = stays q.site q.entry.value }

  pub paired_publics : Paired (MovedPublic ms (home_of M before)) (flat_publics (before ++ (M ∷ after))) (flat_publics (before ++ (ms ++ after)))
  paired_publics =
      let R = MovedPublic ms (home_of M before) in
      let group = paired_joined R (λ site. site.parts.names.publics) (joined_public ms) (entry_at (home_of M before))
      (λ site. entry_at (shifted (home_of M before) site))
      (IsOfGroup ms) moved_public (sited ms) (are_of_group 0 0 0 ms) in
      paired_sites M ms name j before after R (λ site. map (entry_at site) site.parts.names.publics) (λ site. map (entry_at site) site.parts.names.publics)
      (λ site. Paired-same R stays_public (map (entry_at site) site.parts.names.publics))
      (subst (λ publics. Paired R (map (entry_at (home_of M before)) publics)
      (flat_map (λ site. map (entry_at (shifted (home_of M before) site)) site.parts.names.publics) (sited ms)))
      (sym j.publics) group)

  abbrev group_publics : List SitedPublic
  group_publics = sited_publics (sited_from (next_section 0 before) (next_public 0 before) (next_name 0 before) ms)

  abbrev publics_after : List SitedPublic
  publics_after = sited_publics (sited_from (next_section (next_section 0 before) ms) (next_public (next_public 0 before) ms)
      (next_name (next_name 0 before) ms) after)

  all_publics : flat_publics (before ++ (ms ++ after)) ≡ flat_publics before ++ (group_publics ++ publics_after)
  all_publics =
      ap sited_publics (sited_from-append 0 0 0 before (ms ++ after)
      ∙ ap (λ more. sited before ++ more) (sited_from-append (next_section 0 before) (next_public 0 before) (next_name 0 before) ms after))
      ∙ flat_map-append _ (sited before) _
      ∙ ap (λ more. flat_publics before ++ more) (flat_map-append _ (sited_from (next_section 0 before) (next_public 0 before) (next_name 0 before) ms) _)

  -- a name of the group is first met in the group, at its place there
  first_in_group : AreDistinct (public_names (before ++ (ms ++ after))) → (s : List ℕ) → has_name (public_names ms) s ≡ true → (q : SitedPublic)
      × (slice_get (flat_publics (before ++ (ms ++ after))) (next_public 0 before + position_of (λ public. bytes_eq public s) (public_names ms)) ≡ Some q)
      × (first_named (flat_publics (before ++ (ms ++ after))) s ≡ Some q)
  first_in_group distinct s met =
      let names : names_of group_publics ≡ public_names ms = names_of-sited_publics _ _ _ ms in
      let q = first_at_place group_publics publics_after s (ap (λ found. has_name found s) names ∙ met) in
      let split : public_names (before ++ (ms ++ after)) ≡ public_names before ++ public_names (ms ++ after) = flat_map-append _ before (ms ++ after) in
      let following : has_name (public_names (ms ++ after)) s ≡ true
      = ap (λ found. has_name found s) (flat_map-append _ ms after) ∙ has_name-append_left (public_names ms) (public_names after) s met in
      let absent : has_name (public_names before) s ≡ false
      = absent_before (public_names before) (public_names (ms ++ after)) s (subst AreDistinct split distinct) following in
      let missing : has_name (names_of (flat_publics before)) s ≡ false = ap (λ found. has_name found s) (names_of-sited_publics 0 0 0 before) ∙ absent in
      let count : next_public 0 before ≡ length (flat_publics before) = next_public-length 0 0 0 before ∙ zero-add _ in (
        q.0,
        ap (λ publics. slice_get publics (next_public 0 before + position_of (λ public. bytes_eq public s) (public_names ms))) all_publics
            ∙ ap (λ n. slice_get (flat_publics before ++ (group_publics ++ publics_after))
            (n + position_of (λ public. bytes_eq public s) (public_names ms))) count
            ∙ get-skip (flat_publics before) (group_publics ++ publics_after) (position_of (λ public. bytes_eq public s) (public_names ms))
            ∙ ap (λ found. slice_get (group_publics ++ publics_after) (position_of (λ public. bytes_eq public s) found)) (sym names) ∙ q.1,
        ap (λ publics. first_named publics s) all_publics ∙ first_named-skip (flat_publics before) (group_publics ++ publics_after) s missing ∙ q.2,
      )

  pub are_settings : AreDistinct (public_names (before ++ (ms ++ after))) → (bases : Bases)
      → AreSettings ms (home_of M before) (setting (before ++ (M ∷ after)) bases) (setting (before ++ (ms ++ after)) bases)
  are_settings distinct bases = record {
    modulus = ap (λ w. 2 ^ w) (same_width M ms j.header before after);
    sections = same_sections;
    bases = refl;
    commons = ap (map (λ common. common.0)) (same_commons M ms name j before after);
    common_base = refl;
    publics = paired_publics;
    references = j.references;
    first = first_in_group distinct;
  }
