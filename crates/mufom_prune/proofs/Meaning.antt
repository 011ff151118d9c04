-- What remains of a module means what the module means of it.
use Rattle.std.proofs.Common.{◌≡◌, ℕ, ◌<◌, List, [], ◌∷◌, ◌++◌, map, Option, Some, None, inl, inr, Bool, true, false, refl, sym, ap, subst, ◌∙◌}
use Rattle.std.proofs.Common.{append-nil, rules}
use Rattle.std.specs.Prelude.{nat_le, option_map, option_to_list, slice_get}
use Rattle.mufom_expr.specs.Tree.{Tree}
use Rattle.mufom_names.specs.declared.name.Public.{Public}
use Rattle.mufom_module.specs.declared.module.Parts.{Parts}
use Rattle.mufom_module.specs.Defects.{IsValid, counts_of, count_for, names_no_section, names_outside}
use Rattle.mufom_module.specs.Contents.{load_any, placed_loads}
use Rattle.mufom_loads.specs.declared.load.Load.{Load}
use Rattle.mufom_meaning.specs.Steps.{steps_of, readings_after}
use Rattle.mufom_meaning.proofs.Tests.{either_false}
use Rattle.mufom_select.specs.Choice.{is_marked}
use Rattle.mufom_meaning.specs.Bases.{Bases}
use Rattle.mufom_meaning.specs.Readings.{public_reading, readings}
use Rattle.mufom_meaning.specs.Values.{value}
use Rattle.mufom_meaning.proofs.Members.{In, In-at}
use Rattle.mufom_meaning.proofs.WithoutDefect.{IsInside, inside, public_inside, load_inside, start_inside}
use Rattle.mufom_prune.specs.Reached.{HasAll}
use Rattle.mufom_prune.specs.Kept.{mentions, load_trees, IsKeptFor}
use Rattle.mufom_prune.specs.Pruned.{remaining, positions_of, new_tree, new_public, stays, remains, without_others}
use Rattle.mufom_prune.proofs.KeptLaws.{all_at, variable_kept, public_mentions, load_mentions, start_mentions}
use Rattle.mufom_prune.proofs.PrunedPlaces.{load_was}
use Rattle.mufom_prune.proofs.PrunedValid.{remaining-at, placed-In}
use Rattle.mufom_prune.specs.Meaning.{left_readings, MeansTheRest, PrunedMeansTheRest}
use Rattle.mufom_prune.proofs.SameValues.{wrap, site, site', s, s', IsWhole, same_value}
use Rattle.mufom_prune.proofs.LeftSteps.{steps_left, all_hold}
use Rattle.mufom_prune.proofs.LeftReadings.{same_readings}

not_outside : (n k : ℕ) → k < n → nat_le n k ≡ false
not_outside n k less = search rules

module _ (m : Parts) (names staying : List (List ℕ)) (marks : List Bool) (kept : IsKeptFor m names staying marks) (valid : IsValid m) (bases : Bases) where
  abbrev Whole : Tree → Type 0
  Whole t = IsWhole m names staying marks kept bases t

  pub whole_of : (t : Tree) → IsInside m t → HasAll (is_marked marks) (mentions m t) → Whole t
  whole_of t low all v h = (low v h, variable_kept m names staying marks kept t all v h (not_outside (count_for (counts_of m) v.0) v.1 (low v h)))

  pub public_whole : (n : ℕ) (p : Public) → slice_get m.names.publics n ≡ Some p → is_marked (remains m marks).publics n ≡ true → Whole p.value
  public_whole n p e h = whole_of p.value (public_inside m valid p (In-at p m.names.publics n e)) (public_mentions m names staying marks kept n p e h)

  start_whole : (t : Tree) → In t (option_to_list m.start) → Whole t
  start_whole t h = whole_of t (start_inside m valid t h) (start_mentions m names staying marks kept t h)

  one_public : (p : Public) → In p (remaining (remains m marks).publics m.names.publics)
      → public_reading (s' m names staying marks kept bases) (wrap (site' m names staying marks kept bases) (new_public (positions_of (remains m marks)) p))
      ≡ public_reading (s m names staying marks kept bases) (wrap (site m names staying marks kept bases) p)
  one_public p h =
      let at = remaining-at (remains m marks).publics m.names.publics p h in
      let same = same_value m names staying marks kept bases public_whole None p.value (public_whole at.0 p at.1 at.2) in
      λ i. record { name = p.name; notes = p.notes; value = same i }

  all_publics : (left : List Bool) (publics : List Public)
      → ((p : Public) → In p (remaining left publics) → public_reading (s' m names staying marks kept bases)
      (wrap (site' m names staying marks kept bases) (new_public (positions_of (remains m marks)) p))
      ≡ public_reading (s m names staying marks kept bases) (wrap (site m names staying marks kept bases) p))
      → map (public_reading (s' m names staying marks kept bases)) (map (wrap (site' m names staying marks kept bases))
      (map (new_public (positions_of (remains m marks))) (remaining left publics)) ++ [])
      ≡ remaining left (map (public_reading (s m names staying marks kept bases)) (map (wrap (site m names staying marks kept bases)) publics ++ []))
  all_publics [] publics each = refl
  all_publics (mark ∷ left) [] each = refl
  all_publics (true ∷ left) (p ∷ publics) each = λ i. each p (inl refl) i ∷ all_publics left publics (λ q h. each q (inr h)) i
  all_publics (false ∷ left) (p ∷ publics) each = all_publics left publics each

  all_starts : (o : Option Tree) → ((t : Tree) → In t (option_to_list o) → Whole t)
      → map (value (s' m names staying marks kept bases) (site' m names staying marks kept bases) None)
      (option_to_list (option_map (new_tree (positions_of (remains m marks))) o)) ++ []
      ≡ map (value (s m names staying marks kept bases) (site m names staying marks kept bases) None) (option_to_list o) ++ []
  all_starts None each = refl
  all_starts (Some t) each = ap (λ (v : Option ℕ). v ∷ []) (same_value m names staying marks kept bases public_whole None t (each t (inl refl)))

  load_whole : (p : Option ℕ × Load) → In p (placed_loads m) → stays (remains m marks).sections p ≡ true → (t : Tree) → In t (load_trees p.1) → Whole t
  load_whole p h left t k =
      let good = load_inside m valid p.1 (placed-In None m.loads p h) in
      let low = (either_false (names_no_section (counts_of m) p.1) (load_any (names_outside (counts_of m)) p.1) good).1 in
      whole_of t (inside m t (load_was (names_outside (counts_of m)) p.1 low t k))
      (all_at (is_marked marks) (mentions m) (load_trees p.1) t (load_mentions m names staying marks kept p h left) k)

  all_steps : readings_after (s' m names staying marks kept bases) [] (steps_of (site' m names staying marks kept bases) None (without_others m (remains m marks)).loads ++ [])
      ≡ left_readings (remains m marks).sections (readings_after (s m names staying marks kept bases) [] (steps_of (site m names staying marks kept bases) None m.loads ++ []))
  all_steps =
      let home = site m names staying marks kept bases in
      let home' = site' m names staying marks kept bases in
      let c = remains m marks in
      let moved = steps_left home home' refl refl c m.loads None None (λ k e h. absurd cc) in
      let hold = all_hold home home' refl refl c Whole m.loads None load_whole in
      let same = same_readings home home' refl refl c Whole (s m names staying marks kept bases) (s' m names staying marks kept bases) refl refl
      (same_value m names staying marks kept bases public_whole) [] (steps_of home None m.loads) tt hold in
      ap (readings_after (s' m names staying marks kept bases) []) (append-nil (steps_of home' None (without_others m c).loads) ∙ moved)
      ∙ same
      ∙ ap (λ xs. left_readings c.sections (readings_after (s m names staying marks kept bases) [] xs)) (sym (append-nil (steps_of home None m.loads)))

  pub means : MeansTheRest (without_others m (remains m marks)) m (remains m marks) bases
  unfolding readings
  means = record {
    sections = append-nil (remaining (remains m marks).sections m.sections) ∙ ap (remaining (remains m marks).sections) (sym (append-nil m.sections));
    publics = all_publics (remains m marks).publics m.names.publics one_public;
    steps = all_steps;
    starts = all_starts m.start start_whole;
  }

pub pruned_means_the_rest : PrunedMeansTheRest
pruned_means_the_rest M m names staying valid pruned bases =
    subst (λ (N : Parts). MeansTheRest N m (remains m pruned.marks) bases) (sym pruned.is) (means m names staying pruned.marks pruned.kept valid bases)
