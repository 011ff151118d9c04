-- The publics, the start and the debug items of a location are within the bounds of the types of a module.
use Rattle.std.proofs.Common.{◌≡◌, ℕ, ◌+◌, ◌*◌, ◌^◌, ◌≤◌, Bool, true, false, not, nat_le, ◌&&◌, List, ◌∷◌, map, Option, Some, None, refl, sym, ap, subst}
use Rattle.std.proofs.Common.{◌∙◌, inl, arith}
use Rattle.std.specs.Prelude.{All, option_map, option_to_list}
use Rattle.std.specs.List.{AllByRecursion}
use Rattle.std.proofs.Math.Nat.{pow-le-pow_right}
use Rattle.std.proofs.lemmas.Bool.{leb-true}
use Rattle.mufom_numbers.specs.Spelling.{AreBytes}
use Rattle.mufom_numbers.proofs.Choices.{mapped_some, some_same}
use Rattle.mufom_expr.specs.Tree.{Tree, number}
use Rattle.mufom_debug.specs.declared.item.BlockHead.{BlockHead}
use Rattle.mufom_debug.specs.declared.item.BlockHead.TheVariants as heads
use Rattle.mufom_debug.specs.Marks.{DebugMark, block_begin, block_end, name_mark, note_mark, value_mark, marks_of}
use Rattle.mufom_module.specs.declared.module.Parts.{Parts}
use Rattle.mufom_module.specs.declared.module.Defect.TheVariants as kinds
use Rattle.mufom_module.specs.Defects.{is_unit_count}
use Rattle.mufom_module.specs.Made.{IsMadeNote, IsNumber}
use Rattle.mufom_plan.specs.declared.plan.Plan.{Plan}
use Rattle.mufom_meaning.specs.declared.located.LocatedParts.{LocatedParts}
use Rattle.mufom_meaning.specs.declared.located.PublicValue.{PublicValue}
use Rattle.mufom_meaning.specs.Absolute.{absolute_public}
use Rattle.mufom_meaning.specs.Flat.{Sited, SitedPublic, flat_publics, sited, width}
use Rattle.mufom_meaning.specs.Location.{located_head, located_mark, located_public}
use Rattle.mufom_meaning.specs.Placed.{planned_bases}
use Rattle.mufom_meaning.specs.Readings.{PublicReading, head_reading, mark_reading, public_reading, readings}
use Rattle.mufom_meaning.specs.Staging.{AreValid}
use Rattle.mufom_meaning.specs.Values.{Setting, setting, value}
use Rattle.mufom_meaning.proofs.Members.{In, In-map, flat_map-In, map-In}
use Rattle.mufom_meaning.proofs.NoDefects.{no_defect}
use Rattle.mufom_meaning.proofs.absolute.Marks.{value_below, width_positive}
use Rattle.mufom_meaning.proofs.absolute.Sound.{IsSoundLocation}
use Rattle.mufom_meaning.proofs.values.Named.{site_module}
use Rattle.mufom_bounds.specs.Bounded.{IsBounded, IsBoundedHead, IsBoundedMark, IsBoundedPublic, IsBoundedTree}
use Rattle.mufom_bounds.proofs.BoundedLinks.{all-in, in-all}

-- a number is a small expression
pub one-number : (n : ℕ) → IsNumber n → IsBoundedTree (number n)
one-number n is = (omega arith, (is, tt))

-- an address has at most 64 bits
pub narrow-width : (m : Parts) → not (is_unit_count m.maus) ≡ false → 2 ^ (8 * m.maus) ≤ 2 ^ 64
narrow-width m is = by (nat_le 1 m.maus) (nat_le m.maus 8) refl is where
  by : (a b : Bool) → nat_le m.maus 8 ≡ b → not (a && b) ≡ false → 2 ^ (8 * m.maus) ≤ 2 ^ 64
  by true true high is =
      let few = leb-true m.maus 8 high in
      let most : 8 * m.maus ≤ 64 = omega (arith, few) in
      pow-le-pow_right {n = 2} (omega arith) {i = 8 * m.maus} {j = 64} most
  by true false high is = absurd cc
  by false b high is = absurd cc

module _ (m : Parts) (more : List Parts) (plan : Plan) (v : AreValid (m ∷ more)) (are : AllByRecursion IsBounded (m ∷ more)) where
  abbrev ms : List Parts
  ms = m ∷ more

  abbrev s : Setting
  s = setting ms (planned_bases ms plan)

  pub narrow : 2 ^ width ms ≤ 2 ^ 64
  narrow = narrow-width m (no_defect m v.0 kinds.BadMaus)

  value-number : (site : Sited) (t : Tree) (n : ℕ) → value s site None t ≡ Some n → IsNumber n
  value-number site t n is =
      let below = value_below ms (planned_bases ms plan) (width_positive m more v) site None t n is in
      let most = narrow in
      omega (arith, below, most)

  -- ---- debug items

  head-bounded : (site : Sited) (from located : BlockHead) → IsBoundedHead from → located_head (head_reading s site from) ≡ Some located
      → IsBoundedHead located
  head-bounded site heads.Module located is e = subst IsBoundedHead (some_same heads.Module located e) tt
  head-bounded site (heads.Global stack type_index offset) located is e =
      let (n, has, same) = mapped_some (λ n. heads.Global stack type_index (number n)) (value s site None offset) located e in
      subst IsBoundedHead same (is.0, is.1, one-number n (value-number site offset n has))
  head-bounded site (heads.Source numbers) located is e = subst IsBoundedHead (some_same (heads.Source (record { items = numbers.items })) located e) is
  head-bounded site (heads.Local stack type_index offset) located is e =
      let (n, has, same) = mapped_some (λ n. heads.Local stack type_index (number n)) (value s site None offset) located e in
      subst IsBoundedHead same (is.0, is.1, one-number n (value-number site offset n has))
  head-bounded site (heads.Section section_type section offset) located is e =
      let (n, has, same) = mapped_some (λ n. heads.Section section_type (site.first_section + section) (number n)) (value s site None offset) located e in
      subst IsBoundedHead same (is.0, one-number n (value-number site offset n has))

  mark-bounded : (site : Sited) (from mark : DebugMark) → IsBoundedMark from → located_mark (mark_reading s site from) ≡ Some mark → IsBoundedMark mark
  mark-bounded site (block_begin head name) mark is e =
      let (located, has, same) = mapped_some (λ h. block_begin h name) (located_head (head_reading s site head)) mark e in
      subst IsBoundedMark same (head-bounded site head located is.0 has, is.1)
  mark-bounded site (block_end None) mark is e = subst IsBoundedMark (some_same (block_end None) mark e) tt
  mark-bounded site (block_end (Some t)) mark is e =
      let (n, has, same) = mapped_some (λ n. block_end (Some (number n))) (value s site None t) mark e in
      subst IsBoundedMark same (one-number n (value-number site t n has))
  mark-bounded site (name_mark name) mark is e = subst IsBoundedMark (some_same (name_mark name) mark e) is
  mark-bounded site (note_mark name note) mark is e = subst IsBoundedMark (some_same (note_mark (site.first_name + name) note) mark e) is
  mark-bounded site (value_mark name t) mark is e =
      let (n, has, same) = mapped_some (λ n. value_mark (site.first_name + name) (number n)) (value s site None t) mark e in
      subst IsBoundedMark same (one-number n (value-number site t n has))

  module _ (r : LocatedParts) (h : IsSoundLocation (m ∷ more) plan r) where
    pub marks-bounded : AllByRecursion IsBoundedMark (marks_of r.debug)
    unfolding readings
    marks-bounded = all-in IsBoundedMark (marks_of r.debug) (λ mark k.
        let among = subst (In (Some mark)) h.debug (In-map (λ mark. Some mark) mark (marks_of r.debug) k) in
        let there = map-In located_mark (Some mark) (readings ms (planned_bases ms plan)).debug among in
        let site = flat_map-In (λ site. map (mark_reading s site) (marks_of site.parts.debug)) there.0 (sited ms) there.1 in
        let own = map-In (mark_reading s site.0) there.0 (marks_of site.0.parts.debug) site.2 in
        let bounded = in-all IsBounded ms are site.0.parts (site_module 0 0 0 ms site.0 site.1) in
        mark-bounded site.0 own.0 mark (in-all IsBoundedMark (marks_of site.0.parts.debug) bounded.debug own.0 own.1) (ap located_mark own.2 ∙ there.2))

    -- ---- the start

    start-number : (n : ℕ) → r.start ≡ Some n → IsNumber n
    unfolding readings
    start-number n e =
        let among : In (Some n) (map (λ v. Some v) (option_to_list r.start)) =
        subst (λ o. In (Some n) (map (λ v. Some v) (option_to_list o))) (sym e) (inl refl) in
        let there = flat_map-In (λ site. map (value s site None) (option_to_list site.parts.start)) (Some n) (sited ms) (subst (In (Some n)) h.start among) in
        let own = map-In (value s there.0 None) (Some n) (option_to_list there.0.parts.start) there.2 in
        value-number there.0 own.0 n own.2

    pub start-bounded : AllByRecursion IsBoundedTree (option_to_list (option_map (λ n. number n) r.start))
    start-bounded = by r.start refl where
      by : (o : Option ℕ) → r.start ≡ o → AllByRecursion IsBoundedTree (option_to_list (option_map (λ n. number n) o))
      by None e = tt
      by (Some n) e = (one-number n (start-number n e), tt)

    -- ---- publics

    public-bounded : (p : PublicValue) → In p r.publics → IsBoundedPublic (absolute_public p)
    unfolding readings
    public-bounded p k =
        let there = map-In (public_reading s) (located_public p) (flat_publics ms)
        (subst (In (located_public p)) h.publics (In-map located_public p r.publics k)) in
        let site = flat_map-In (λ site. map (λ entry. record { site = site; entry = entry }) site.parts.names.publics) there.0 (sited ms) there.1 in
        let own = map-In (λ entry. record { site = site.0; entry = entry }) there.0 site.0.parts.names.publics site.2 in
        let bounded = in-all IsBounded ms are site.0.parts (site_module 0 0 0 ms site.0 site.1) in
        let public = in-all IsBoundedPublic site.0.parts.names.publics bounded.publics own.0 own.1 in
        let name : own.0.name ≡ p.name = ap (λ (q : SitedPublic). q.entry.name) own.2 ∙ ap (λ (x : PublicReading). x.name) there.2 in
        let notes : own.0.notes ≡ p.notes = ap (λ (q : SitedPublic). q.entry.notes) own.2 ∙ ap (λ (x : PublicReading). x.notes) there.2 in
        let found = ap (λ (x : PublicReading). x.value) there.2 in
        record {
          name = subst AreBytes name public.name;
          value = one-number p.value (value-number there.0.site there.0.entry.value p.value found);
          notes = subst (All IsMadeNote) notes public.notes;
        }

    pub publics-bounded : AllByRecursion IsBoundedPublic (map absolute_public r.publics)
    publics-bounded = all-in IsBoundedPublic (map absolute_public r.publics) (λ entry k.
        let there = map-In absolute_public entry r.publics k in subst IsBoundedPublic there.2 (public-bounded there.0 there.1))
