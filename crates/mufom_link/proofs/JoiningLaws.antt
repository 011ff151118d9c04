-- The lists of a link, joined module by module, are those of the partial link.
use Rattle.std.proofs.Common.{◌≡◌, ℕ, ◌+◌, ◌<◌, ◌≤◌, ◌^◌, Bool, List, [], ◌∷◌, ◌++◌, length, map, flat_map, Option, Some, None, option_to_list, refl}
use Rattle.std.proofs.Common.{sym, ap, ◌∙◌, append_assoc, append-nil, length-append, sum_by, arith}
use Rattle.std.proofs.lemmas.List.{length-map}
use Rattle.std.proofs.lemmas.List.Sums.{sum_by-cons}
use Rattle.mufom_expr.specs.declared.token.Letter.{Letter}
use Rattle.mufom_expr.specs.Tree.{Tree}
use Rattle.mufom_names.specs.declared.name.Public.{Public}
use Rattle.mufom_loads.specs.declared.load.Load.{Load}
use Rattle.mufom_debug.specs.Marks.{DebugMark, marks_of, names_after_all}
use Rattle.mufom_module.specs.declared.module.Parts.{Parts}
use Rattle.mufom_module.specs.Contents.{any_of}
use Rattle.mufom_module.specs.Defects.{IsValid, counts_of, names_outside}
use Rattle.mufom_meaning.specs.Flat.{Sited, sited_from, sited, name_count, flat_sections, flat_starts, public_names}
use Rattle.mufom_meaning.specs.Joined.{joined_tree, joined_public, joined_load, joined_mark, kept_references}
use Rattle.mufom_meaning.specs.Staging.{AreValid}
use Rattle.mufom_meaning.specs.StagingLaws.{total_weight}
use Rattle.mufom_link.specs.declared.joined.Joined.{Joined}
use Rattle.mufom_link.specs.References.{target_in}
use Rattle.mufom_link.specs.Renaming.{Renaming, renamed_tree, renamed_public, renamed_load, renamed_mark}
use Rattle.mufom_link.specs.Joining.{start_after, IsEmpty, next_renaming, IsAppended, HasLists}
use Rattle.mufom_link.proofs.CountLaws.{all-sections, all-publics, all-names}
use Rattle.mufom_link.proofs.RenamingLaws.{Agrees, Places, places, tree-agrees, publics-agree, loads-agree, marks-agree, names-counted, site-agrees}

-- the debug names of all modules
abbrev pub names_in : List Parts → ℕ
names_in ms = sum_by (λ m. name_count (marks_of m.debug)) ms

-- the entries that the modules at some sites have in the link
module _ (ms : List Parts) where
  abbrev pub publics_at : List Sited → List Public
  publics_at sites = flat_map (λ site. map (joined_public ms site) site.parts.names.publics) sites

  abbrev pub loads_at : List Sited → List Load
  loads_at sites = flat_map (λ site. map (joined_load ms site) site.parts.loads) sites

  abbrev pub starts_at : List Sited → List Tree
  starts_at sites = flat_map (λ site. map (joined_tree ms site) (option_to_list site.parts.start)) sites

  abbrev pub marks_at : List Sited → List DebugMark
  marks_at sites = flat_map (λ site. map (joined_mark ms site) (marks_of site.parts.debug)) sites

-- the modules that are left, with the numbers of their first entries
abbrev pub sites_left : Joined → List Parts → List Sited
sites_left all rest = sited_from (length all.sections.items) (length all.publics.items) all.debug_names rest

-- What is joined, with what the modules that are left have, is the whole.
pub record IsUnderway (ms rest : List Parts) (all : Joined) : Type 0 where
  pub valid : AreValid rest → AreValid ms
  pub sections : all.sections.items ++ flat_sections rest ≡ flat_sections ms
  pub publics : all.publics.items ++ publics_at ms (sites_left all rest) ≡ publics_at ms (sited ms)
  pub loads : all.loads.items ++ loads_at ms (sites_left all rest) ≡ loads_at ms (sited ms)
  pub start : option_to_list all.start ++ starts_at ms (sites_left all rest) ≡ starts_at ms (sited ms)
  pub debug : marks_of all.debug.items ++ marks_at ms (sites_left all rest) ≡ marks_at ms (sited ms)
  pub names : all.debug_names + names_in rest ≡ names_in ms

-- ---- the start and the end

pub begun : (ms : List Parts) (all : Joined) → IsEmpty all → IsUnderway ms ms all
begun ms all empty = record {
  valid = λ v. v;
  sections = ap (λ xs. xs ++ flat_sections ms) empty.sections;
  publics = (λ i. empty.publics i ++ publics_at ms (whole i));
  loads = (λ i. empty.loads i ++ loads_at ms (whole i));
  start = (λ i. option_to_list (empty.start i) ++ starts_at ms (whole i));
  debug = (λ i. marks_of (empty.debug i) ++ marks_at ms (whole i));
  names = let e = empty.debug_names in omega (arith, e);
}
  where
    whole : sites_left all ms ≡ sited ms
    whole = λ i. sited_from (length (empty.sections i)) (length (empty.publics i)) (empty.debug_names i) ms

pub ended : (ms : List Parts) (all : Joined) → IsUnderway ms [] all → HasLists ms all
ended ms all u = record {
  sections = sym (append-nil all.sections.items) ∙ u.sections;
  publics = sym (append-nil all.publics.items) ∙ u.publics;
  loads = sym (append-nil all.loads.items) ∙ u.loads;
  start = sym (append-nil (option_to_list all.start)) ∙ u.start;
  debug = sym (append-nil (marks_of all.debug.items)) ∙ u.debug;
}

-- ---- one module more

-- an appended list, with what is left
appended : {X : Type 0} (old its mine new left left' whole : List X) → new ≡ old ++ its → its ≡ mine → left ≡ left' → old ++ (mine ++ left') ≡ whole
    → new ++ left ≡ whole
appended old its mine new left left' whole e f g h =
    (λ i. e i ++ g i) ∙ append_assoc old its left' ∙ ap (λ xs. old ++ (xs ++ left')) f ∙ h

-- the link has as many entries as the modules
flat-length : {X Y : Type 0} (own : Parts → List X) (into : Sited → X → Y) (s p d : ℕ) (ms : List Parts)
    → length (flat_map (λ site. map (into site) (own site.parts)) (sited_from s p d ms)) ≡ length (flat_map own ms)
flat-length own into s p d [] = refl
flat-length own into s p d (m ∷ ms) =
    let site : Sited = record { parts = m; first_section = s; first_public = p; first_name = d } in
    let rest = sited_from (s + length m.sections) (p + length m.names.publics) (d + name_count (marks_of m.debug)) ms in
    let a = length-append (map (into site) (own m)) (flat_map (λ (t : Sited). map (into t) (own t.parts)) rest) in
    let b = length-map (own m) (into site) in
    let c = length-append (own m) (flat_map own ms) in
    let later = flat-length own into (s + length m.sections) (p + length m.names.publics) (d + name_count (marks_of m.debug)) ms in
    omega (arith, a, b, c, later)

module _ (ms : List Parts) (light : total_weight ms < 2 ^ 32) (m : Parts) (rest : List Parts) (all : Joined)
    (u : IsUnderway ms (m ∷ rest) all) where
  abbrev site : Sited
  site = record { parts = m; first_section = length all.sections.items; first_public = length all.publics.items; first_name = all.debug_names }

  abbrev after : List Sited
  after = sited_from (length all.sections.items + length m.sections) (length all.publics.items + length m.names.publics)
      (all.debug_names + name_count (marks_of m.debug)) rest

  -- ---- all numbers fit

  pub sections-fit : length all.sections.items + length m.sections < 2 ^ 32
  sections-fit =
      let a = length-append all.sections.items (m.sections ++ flat_sections rest) in
      let b = length-append m.sections (flat_sections rest) in
      let c = ap length u.sections in
      let d = all-sections ms in
      omega (arith, a, b, c, d, light)

  pub publics-fit : length all.publics.items + length m.names.publics < 2 ^ 32
  publics-fit =
      let a = length-append all.publics.items (map (joined_public ms site) m.names.publics ++ publics_at ms after) in
      let b = length-append (map (joined_public ms site) m.names.publics) (publics_at ms after) in
      let c = length-map m.names.publics (joined_public ms site) in
      let d = ap length u.publics in
      let e = flat-length (λ (q : Parts). q.names.publics) (joined_public ms) 0 0 0 ms in
      let f = all-publics ms in
      omega (arith, a, b, c, d, e, f, light)

  pub names-fit : all.debug_names + name_count (marks_of m.debug) < 2 ^ 32
  names-fit =
      let a = sum_by-cons (λ (q : Parts). name_count (marks_of q.debug)) m rest in
      let b = u.names in
      let c = all-names ms in
      omega (arith, a, b, c, light)

  pub declared-fit : names_after_all all.debug_names (marks_of m.debug) < 2 ^ 32
  declared-fit = let a = names-counted all.debug_names (marks_of m.debug) in let b = names-fit in omega (arith, a, b)

  -- ---- the module is appended

  module _ (valid : IsValid m) (starts : length (flat_starts ms) ≤ 1)
      (targets : List (Letter × ℕ)) (new : Joined)
      (found : targets ≡ map (target_in (public_names ms) (kept_references ms)) m.names.references)
      (a : IsAppended targets m all new) where
    abbrev r : Renaming
    r = next_renaming targets all

    agrees : Agrees ms site r
    agrees = site-agrees ms site targets sections-fit publics-fit names-fit found

    own : Places m
    own = places m valid

    left : sites_left new rest ≡ after
    left =
        let s : length new.sections.items ≡ length all.sections.items + length m.sections = ap length a.sections
        ∙ length-append all.sections.items m.sections in
        let p : length new.publics.items ≡ length all.publics.items + length m.names.publics =
        ap length a.publics ∙ length-append all.publics.items (map (renamed_public r) m.names.publics)
        ∙ ap (λ k. length all.publics.items + k) (length-map m.names.publics (renamed_public r)) in
        let d : new.debug_names ≡ all.debug_names + name_count (marks_of m.debug) = a.debug_names ∙ names-counted all.debug_names (marks_of m.debug) in
        λ i. sited_from (s i) (p i) (d i) rest

    start-joined : (own_start old : Option Tree) → option_to_list old ++ (map (joined_tree ms site) (option_to_list own_start) ++ starts_at ms after)
        ≡ starts_at ms (sited ms)
        → map (renamed_tree r) (option_to_list own_start) ≡ map (joined_tree ms site) (option_to_list own_start)
        → option_to_list (start_after r own_start old) ++ starts_at ms after ≡ starts_at ms (sited ms)
    start-joined None old whole same = whole
    start-joined (Some t) None whole same = ap (λ xs. xs ++ starts_at ms after) same ∙ whole
    start-joined (Some t) (Some old) whole same =
        let two = ap length whole in
        let few = flat-length (λ (q : Parts). option_to_list q.start) (joined_tree ms) 0 0 0 ms in
        absurd (omega (arith, two, few, starts))

    start-same : (o : Option Tree) → o ≡ m.start → map (renamed_tree r) (option_to_list o) ≡ map (joined_tree ms site) (option_to_list o)
    start-same None e = refl
    start-same (Some t) e = ap (λ u. u ∷ []) (tree-agrees ms site r agrees t (ap (λ o. any_start o) e ∙ own.start)) where
      any_start : Option Tree → Bool
      any_start o = any_of (names_outside (counts_of m)) o

    pub joined : IsUnderway ms rest new
    joined = record {
      valid = λ v. u.valid (valid, v);
      sections = appended all.sections.items m.sections m.sections new.sections.items (flat_sections rest) (flat_sections rest) (flat_sections ms)
          a.sections refl refl u.sections;
      publics = appended all.publics.items (map (renamed_public r) m.names.publics) (map (joined_public ms site) m.names.publics) new.publics.items
          (publics_at ms (sites_left new rest)) (publics_at ms after) (publics_at ms (sited ms))
          a.publics (publics-agree ms site r agrees m.names.publics own.publics) (ap (publics_at ms) left) u.publics;
      loads = appended all.loads.items (map (renamed_load r) m.loads) (map (joined_load ms site) m.loads) new.loads.items
          (loads_at ms (sites_left new rest)) (loads_at ms after) (loads_at ms (sited ms))
          a.loads (loads-agree ms site r agrees m.loads own.loads) (ap (loads_at ms) left) u.loads;
      start = (λ i. option_to_list (a.start i) ++ starts_at ms (left i)) ∙ start-joined m.start all.start u.start (start-same m.start refl);
      debug = appended (marks_of all.debug.items) (map (renamed_mark r) (marks_of m.debug)) (map (joined_mark ms site) (marks_of m.debug))
          (marks_of new.debug.items) (marks_at ms (sites_left new rest)) (marks_at ms after) (marks_at ms (sited ms))
          a.debug (marks-agree ms site r agrees 0 (marks_of m.debug) own.marks own.names (let e = names-counted 0 (marks_of m.debug) in
          omega (arith, e))) (ap (marks_at ms) left) u.debug;
      names =
          let b = sum_by-cons (λ (q : Parts). name_count (marks_of q.debug)) m rest in
          let c = u.names in
          let d = a.debug_names in
          let e = names-counted all.debug_names (marks_of m.debug) in
          omega (arith, b, c, d, e);
    }
