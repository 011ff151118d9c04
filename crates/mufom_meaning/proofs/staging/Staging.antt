-- A partial link can replace its list.
use Rattle.std.proofs.Common.{◌≡◌, ℕ, ◌+◌, List, [], ◌∷◌, ◌++◌, map, Option, Some, None, refl, sym, ◌∙◌, ap, subst, add_assoc, flat_map}
use Rattle.std.specs.Prelude.{option_to_list, option_map}
use Rattle.mufom_expr.specs.Tree.{Tree}
use Rattle.mufom_names.specs.Names.{AreDistinct}
use Rattle.mufom_debug.specs.declared.item.BlockHead.{BlockHead}
use Rattle.mufom_debug.specs.declared.item.BlockHead.TheVariants as heads
use Rattle.mufom_debug.specs.Marks.{DebugMark, block_begin, block_end, name_mark, note_mark, value_mark, marks_of}
use Rattle.mufom_module.specs.declared.module.Parts.{Parts}
use Rattle.mufom_meaning.specs.Bases.{Bases}
use Rattle.mufom_meaning.specs.Flat.{Sited, SitedPublic, sited, public_names}
use Rattle.mufom_meaning.specs.Values.{Setting, setting, value}
use Rattle.mufom_meaning.specs.Steps.{steps, step_readings}
use Rattle.mufom_meaning.specs.Readings.{readings, public_reading, global_head, local_head, section_head, begin_reading, end_reading, note_reading}
use Rattle.mufom_meaning.specs.Readings.{value_reading, head_reading, end_value, mark_reading}
use Rattle.mufom_meaning.specs.Joined.{IsJoined, joined_tree, joined_head, joined_mark}
use Rattle.mufom_meaning.specs.Staging.{AreValid}
use Rattle.mufom_meaning.specs.StagingLaws.{JoinedStandsFor}
use Rattle.mufom_meaning.proofs.Paired.{Paired, Paired-map}
use Rattle.mufom_meaning.proofs.staging.Moved.{shifted, IsOfGroup, stays, joins, MovedPublic, AreSettings, same_value}
use Rattle.mufom_meaning.proofs.staging.MovedSteps.{same_readings}
use Rattle.mufom_meaning.proofs.staging.LinkedLoads.{paired_steps}
use Rattle.mufom_meaning.proofs.staging.Groups.{paired_joined, are_of_group, home_of, paired_sites}
use Rattle.mufom_meaning.proofs.staging.Settings.{are_settings, same_sections}
use Rattle.mufom_meaning.proofs.staging.Needs.{same_needs, same_commons, settled_unresolved, settled_apart, same_own_names}

-- lists whose elements are equal one by one are equal
pub equal_lists : {A : Type 0} (xs ys : List A) → Paired (λ x y. x ≡ y) xs ys → xs ≡ ys
equal_lists [] [] p = refl
equal_lists (x ∷ xs) (y ∷ ys) p = let rest : xs ≡ ys = equal_lists xs ys p.1 in let here : x ≡ y = p.0 in cc
equal_lists [] (y ∷ ys) p = absurd p
equal_lists (x ∷ xs) [] p = absurd p

pub equal_maps : {A B : Type 0} (f g : A → B) → ((x : A) → f x ≡ g x) → (xs : List A) → Paired (λ x y. x ≡ y) (map f xs) (map g xs)
equal_maps f g same [] = tt
equal_maps f g same (x ∷ xs) = (same x, equal_maps f g same xs)

module _ (ms : List Parts) (home : Sited) (s other : Setting) (h : AreSettings ms home s other) where
  same_public : (p q : SitedPublic) → MovedPublic ms home p q → public_reading s p ≡ public_reading other q
  same_public p q m =
      let v : value s p.site None p.entry.value ≡ value other q.site None q.entry.value =
      same_value ms home s other h None p.site p.entry.value q.site q.entry.value m.tree in
      λ i. record { name = m.name i; notes = m.notes i; value = v i }

  same_here : (site : Sited) (t : Tree) → value s site None t ≡ value other site None t
  same_here site t = same_value ms home s other h None site t site t (stays site t)

  same_there : (site : Sited) → IsOfGroup ms site → (t : Tree) → value s home None (joined_tree ms site t) ≡ value other (shifted home site) None t
  same_there site within t = same_value ms home s other h None home (joined_tree ms site t) (shifted home site) t (joins site t within)

  head_here : (site : Sited) (head : BlockHead) → head_reading s site head ≡ head_reading other site head
  head_here site heads.Module = refl
  head_here site (heads.Global stack type_index offset) = ap (global_head stack type_index) (same_here site offset)
  head_here site (heads.Local stack type_index offset) = ap (local_head stack type_index) (same_here site offset)
  head_here site (heads.Source numbers) = refl
  head_here site (heads.Section section_type section offset) = ap (section_head section_type (site.first_section + section)) (same_here site offset)

  end_here : (site : Sited) (end : Option Tree) → end_value s site end ≡ end_value other site end
  end_here site None = refl
  end_here site (Some t) = ap Some (same_here site t)

  mark_here : (site : Sited) (mark : DebugMark) → mark_reading s site mark ≡ mark_reading other site mark
  mark_here site (block_begin head name) = ap (λ reading. begin_reading reading name) (head_here site head)
  mark_here site (block_end end) = ap end_reading (end_here site end)
  mark_here site (name_mark name) = refl
  mark_here site (note_mark name note) = refl
  mark_here site (value_mark name t) = ap (value_reading (site.first_name + name)) (same_here site t)

  head_there : (site : Sited) → IsOfGroup ms site → (head : BlockHead) → head_reading s home (joined_head ms site head)
      ≡ head_reading other (shifted home site) head
  head_there site within heads.Module = refl
  head_there site within (heads.Global stack type_index offset) = ap (global_head stack type_index) (same_there site within offset)
  head_there site within (heads.Local stack type_index offset) = ap (local_head stack type_index) (same_there site within offset)
  head_there site within (heads.Source numbers) = refl
  head_there site within (heads.Section section_type section offset) =
      ap (λ n. section_head section_type n (value s home None (joined_tree ms site offset))) (sym (add_assoc home.first_section site.first_section section))
      ∙ ap (section_head section_type ((home.first_section + site.first_section) + section)) (same_there site within offset)

  end_there : (site : Sited) → IsOfGroup ms site → (end : Option Tree) → end_value s home (option_map (joined_tree ms site) end)
      ≡ end_value other (shifted home site) end
  end_there site within None = refl
  end_there site within (Some t) = ap Some (same_there site within t)

  mark_there : (site : Sited) → IsOfGroup ms site → (mark : DebugMark) → mark_reading s home (joined_mark ms site mark)
      ≡ mark_reading other (shifted home site) mark
  mark_there site within (block_begin head name) = ap (λ reading. begin_reading reading name) (head_there site within head)
  mark_there site within (block_end end) = ap end_reading (end_there site within end)
  mark_there site within (name_mark name) = refl
  mark_there site within (note_mark name note) = ap (λ n. note_reading n note) (sym (add_assoc home.first_name site.first_name name))
  mark_there site within (value_mark name t) =
      ap (λ n. value_reading n (value s home None (joined_tree ms site t))) (sym (add_assoc home.first_name site.first_name name))
      ∙ ap (value_reading ((home.first_name + site.first_name) + name)) (same_there site within t)

module _ (M : Parts) (ms : List Parts) (name : List ℕ) (j : IsJoined M ms name) (v : AreValid ms) (before after : List Parts)
    (names : AreDistinct (public_names (before ++ (ms ++ after)))) (bases : Bases) where
  abbrev home : Sited
  home = home_of M before

  abbrev s : Setting
  s = setting (before ++ (M ∷ after)) bases

  abbrev other : Setting
  other = setting (before ++ (ms ++ after)) bases

  settings : AreSettings ms (home_of M before) (setting (before ++ (M ∷ after)) bases) (setting (before ++ (ms ++ after)) bases)
  settings = are_settings M ms name j before after names bases

  same_publics : map (public_reading s) s.publics ≡ map (public_reading other) other.publics
  same_publics = Paired-map (MovedPublic ms home) (public_reading s) (public_reading other) (same_public ms home s other settings) s.publics
      other.publics settings.publics

  same_steps : step_readings s (steps (before ++ (M ∷ after))) ≡ step_readings other (steps (before ++ (ms ++ after)))
  same_steps = same_readings ms home s other settings [] [] tt _ _ (paired_steps M ms name j v before after)

  same_starts : flat_map (λ site. map (value s site None) (option_to_list site.parts.start)) (sited (before ++ (M ∷ after)))
      ≡ flat_map (λ site. map (value other site None) (option_to_list site.parts.start)) (sited (before ++ (ms ++ after)))
  same_starts =
      equal_lists _ _ (paired_sites M ms name j before after (λ x y. x ≡ y) (λ site. map (value s site None) (option_to_list site.parts.start))
      (λ site. map (value other site None) (option_to_list site.parts.start))
      (λ site. equal_maps (value s site None) (value other site None) (same_here ms home s other settings site) (option_to_list site.parts.start))
      (subst (λ ts. Paired (λ x y. x ≡ y) (map (value s home None) ts)
      (flat_map (λ site. map (value other (shifted home site) None) (option_to_list site.parts.start)) (sited ms)))
      (sym j.start)
      (paired_joined (λ x y. x ≡ y) (λ site. option_to_list site.parts.start) (joined_tree ms) (value s home None)
      (λ site. value other (shifted home site) None)
      (IsOfGroup ms) (same_there ms home s other settings) (sited ms) (are_of_group 0 0 0 ms))))

  same_debug : flat_map (λ site. map (mark_reading s site) (marks_of site.parts.debug)) (sited (before ++ (M ∷ after)))
      ≡ flat_map (λ site. map (mark_reading other site) (marks_of site.parts.debug)) (sited (before ++ (ms ++ after)))
  same_debug =
      equal_lists _ _ (paired_sites M ms name j before after (λ x y. x ≡ y) (λ site. map (mark_reading s site) (marks_of site.parts.debug))
      (λ site. map (mark_reading other site) (marks_of site.parts.debug))
      (λ site. equal_maps (mark_reading s site) (mark_reading other site) (mark_here ms home s other settings site) (marks_of site.parts.debug))
      (subst (λ marks. Paired (λ x y. x ≡ y) (map (mark_reading s home) marks)
      (flat_map (λ site. map (mark_reading other (shifted home site)) (marks_of site.parts.debug)) (sited ms)))
      (sym j.debug)
      (paired_joined (λ x y. x ≡ y) (λ site. marks_of site.parts.debug) (joined_mark ms) (mark_reading s home) (λ site. mark_reading other (shifted home site))
      (IsOfGroup ms) (mark_there ms home s other settings) (sited ms) (are_of_group 0 0 0 ms))))

  pub same_readings_there : readings (before ++ (M ∷ after)) bases ≡ readings (before ++ (ms ++ after)) bases
  unfolding readings
  same_readings_there =
      let a = same_sections M ms name j before after in
      let b = same_publics in let c = same_steps in let d = same_starts in let e = same_debug in
      let f = same_needs M ms name j before after in let g = same_commons M ms name j before after in
      λ i. record { sections = a i; publics = b i; steps = c i; starts = d i; debug = e i; needs = f i; commons = g i }

-- a partial link can replace its list
pub joined_stands_for : JoinedStandsFor
joined_stands_for M ms name j v = (
  λ before after bases context. same_readings_there M ms name j v before after context.names bases,
  j.sections,
  same_own_names M ms name j,
  record { apart = settled_apart M ms name j; unresolved = settled_unresolved M ms name j },
)
