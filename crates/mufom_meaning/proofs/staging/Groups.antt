-- Lists that go over the modules of a list, if a group of the list is linked.
use Rattle.std.proofs.Common.{◌≡◌, ℕ, zero, suc, ◌+◌, List, [], ◌∷◌, ◌++◌, map, length, Some, refl, sym, ◌∙◌, ap, subst, add_assoc, add-zero}
use Rattle.std.proofs.Common.{flat_map, length-append}
use Rattle.std.specs.Prelude.{slice_get}
use Rattle.std.proofs.lemmas.Grind.{flat_map-append}
use Rattle.std.proofs.lemmas.List.{map-append, length-map}
use Rattle.mufom_debug.specs.Marks.{DebugMark, block_begin, block_end, name_mark, note_mark, value_mark, marks_of}
use Rattle.mufom_module.specs.declared.module.Parts.{Parts}
use Rattle.mufom_meaning.specs.Flat.{Sited, name_count, sited_from, sited, sited_publics, flat_references}
use Rattle.mufom_meaning.specs.Joined.{IsJoined, joined_public, joined_mark}
use Rattle.mufom_meaning.proofs.staging.Moved.{shifted, IsOfGroup}
use Rattle.mufom_meaning.proofs.Paired.{Paired, Paired-append}
use Rattle.mufom_meaning.proofs.Sites.{next_section, next_public, next_name, sited_from-append, sited_from-shifted, next_section-length}
use Rattle.mufom_meaning.proofs.Sites.{next_public-length, name_count-append}
use Rattle.mufom_meaning.proofs.Names.{get-skip}

-- what holds of each site
abbrev pub AllSites : (Sited → Type 0) → List Sited → Type 0
AllSites P [] = Unit {0}
AllSites P (site ∷ sites) = P site × AllSites P sites

-- if a link maps each entry of each module, and the entries correspond, the lists over all modules do
module _ {X Y U V : Type 0} (R : U → V → Type 0) (entries : Sited → List X) (change : Sited → X → Y) (f : Y → U) (g : Sited → X → V) (P : Sited → Type 0)
    (moved : (site : Sited) → P site → (x : X) → R (f (change site x)) (g site x)) where
  paired_entries : (site : Sited) → P site → (xs : List X) → Paired R (map f (map (change site) xs)) (map (g site) xs)
  paired_entries site p [] = tt
  paired_entries site p (x ∷ xs) = (moved site p x, paired_entries site p xs)

  pub paired_joined : (sites : List Sited) → AllSites P sites
      → Paired R (map f (flat_map (λ site. map (change site) (entries site)) sites)) (flat_map (λ site. map (g site) (entries site)) sites)
  paired_joined [] p = tt
  paired_joined (site ∷ sites) p =
      subst (λ prefix. Paired R prefix (map (g site) (entries site) ++ flat_map (λ site. map (g site) (entries site)) sites))
      (sym (map-append f (map (change site) (entries site)) (flat_map (λ site. map (change site) (entries site)) sites)))
      (Paired-append R _ _ _ _ (paired_entries site p.0 (entries site)) (paired_joined sites p.1))

flat_map-map : {A B C : Type 0} (f : B → List C) (g : A → B) (xs : List A) → flat_map f (map g xs) ≡ flat_map (λ x. f (g x)) xs
flat_map-map f g [] = refl
flat_map-map f g (x ∷ xs) = ap (λ rest. f (g x) ++ rest) (flat_map-map f g xs)

Among-left : {A : Type 0} (r : A) (xs ys : List A) (i : ℕ) → slice_get xs i ≡ Some r → slice_get (xs ++ ys) i ≡ Some r
Among-left r [] ys i e = absurd cc
Among-left r (x ∷ xs) ys zero e = e
Among-left r (x ∷ xs) ys (suc i) e = Among-left r xs ys i e

AllSites-weaker : (P Q : Sited → Type 0) → ((site : Sited) → P site → Q site) → (sites : List Sited) → AllSites P sites → AllSites Q sites
AllSites-weaker P Q weaker [] all = tt
AllSites-weaker P Q weaker (site ∷ sites) all = (weaker site all.0, AllSites-weaker P Q weaker sites all.1)

-- the references of each module of a list are among the list's
pub are_of_group : (s p d : ℕ) (xs : List Parts) → AllSites (IsOfGroup xs) (sited_from s p d xs)
are_of_group s p d [] = tt
are_of_group s p d (x ∷ xs) = (
  λ n r e. (n, Among-left r x.names.references (flat_references xs) n e),
  AllSites-weaker (IsOfGroup xs) (IsOfGroup (x ∷ xs))
      (λ site within n r e. let found = within n r e in (
        length x.names.references + found.0,
        get-skip x.names.references (flat_references xs) found.0
            ∙ found.1,
      )) _
      (are_of_group (s + length x.sections) (p + length x.names.publics) (d + name_count (marks_of x.debug)) xs),
)

-- A module in the place of a group, after these modules.
abbrev pub home_of : Parts → List Parts → Sited
home_of M before = record { parts = M; first_section = next_section 0 before; first_public = next_public 0 before; first_name = next_name 0 before }

-- how many debug names some sites declare
abbrev names_at : List Sited → ℕ
names_at [] = 0
names_at (site ∷ sites) = name_count (marks_of site.parts.debug) + names_at sites

name_count-joined_mark : (ms : List Parts) (site : Sited) (marks : List DebugMark) → name_count (map (joined_mark ms site) marks) ≡ name_count marks
name_count-joined_mark ms site [] = refl
name_count-joined_mark ms site (block_begin head name ∷ marks) = name_count-joined_mark ms site marks
name_count-joined_mark ms site (block_end end ∷ marks) = name_count-joined_mark ms site marks
name_count-joined_mark ms site (name_mark name ∷ marks) = ap (λ n. 1 + n) (name_count-joined_mark ms site marks)
name_count-joined_mark ms site (note_mark name note ∷ marks) = name_count-joined_mark ms site marks
name_count-joined_mark ms site (value_mark name t ∷ marks) = name_count-joined_mark ms site marks

name_count-joined : (ms : List Parts) (sites : List Sited) → name_count
    (flat_map (λ site. map (joined_mark ms site) (marks_of site.parts.debug)) sites) ≡ names_at sites
name_count-joined ms [] = refl
name_count-joined ms (site ∷ sites) =
    name_count-append (map (joined_mark ms site) (marks_of site.parts.debug)) _
    ∙ ap (λ n. n + name_count (flat_map (λ site. map (joined_mark ms site) (marks_of site.parts.debug)) sites))
    (name_count-joined_mark ms site (marks_of site.parts.debug))
    ∙ ap (λ n. name_count (marks_of site.parts.debug) + n) (name_count-joined ms sites)

next_name-names_at : (s p d : ℕ) (xs : List Parts) → next_name d xs ≡ d + names_at (sited_from s p d xs)
next_name-names_at s p d [] = sym (add-zero d)
next_name-names_at s p d (x ∷ xs) =
    next_name-names_at (s + length x.sections) (p + length x.names.publics) (d + name_count (marks_of x.debug)) xs ∙ add_assoc _ _ _

names_at-shifted : (home : Sited) (sites : List Sited) → names_at (map (shifted home) sites) ≡ names_at sites
names_at-shifted home [] = refl
names_at-shifted home (site ∷ sites) = ap (λ n. name_count (marks_of site.parts.debug) + n) (names_at-shifted home sites)

length-joined : {X Y U : Type 0} (f : Sited → X → Y) (g : Sited → X → U) (entries : Sited → List X) (home : Sited)
    → ((site : Sited) → entries (shifted home site) ≡ entries site) → (sites : List Sited)
    → length (flat_map (λ site. map (f site) (entries site)) sites) ≡ length (flat_map (λ site. map (g site) (entries site)) (map (shifted home) sites))
length-joined f g entries home same [] = refl
length-joined f g entries home same (site ∷ sites) =
    let rest = length-joined f g entries home same sites in
    let here : length (map (f site) (entries site)) ≡ length (map (g (shifted home site)) (entries (shifted home site)))
    = length-map (entries site) (f site) ∙ sym (ap length (same site)) ∙ sym (length-map (entries (shifted home site)) (g (shifted home site))) in
    length-append (map (f site) (entries site)) _ ∙ ap (λ n. n + length (flat_map (λ site. map (f site) (entries site)) sites)) here
    ∙ ap (λ n. length (map (g (shifted home site)) (entries (shifted home site))) + n) rest
    ∙ sym (length-append (map (g (shifted home site)) (entries (shifted home site))) _)

module _ (M : Parts) (ms : List Parts) (name : List ℕ) (j : IsJoined M ms name) (before after : List Parts) where
  abbrev home : Sited
  home = home_of M before

  -- the modules after the group
  abbrev pub rest_of : List Sited
  rest_of = sited_from (next_section 0 before + length M.sections) (next_public 0 before + length M.names.publics)
      (next_name 0 before + name_count (marks_of M.debug)) after

  pub sites_of_link : sited (before ++ (M ∷ after)) ≡ sited before ++ (home_of M before ∷ rest_of)
  sites_of_link = sited_from-append 0 0 0 before (M ∷ after)

  group_sites : sited_from home.first_section home.first_public home.first_name ms ≡ map (shifted home) (sited ms)
  group_sites =
      let a : home.first_section + 0 ≡ home.first_section = add-zero _ in
      let b : home.first_public + 0 ≡ home.first_public = add-zero _ in
      let c : home.first_name + 0 ≡ home.first_name = add-zero _ in
      rw (a, b, c) at (sited_from-shifted home 0 0 0 ms)

  next_sections : next_section home.first_section ms ≡ home.first_section + length M.sections
  next_sections = next_section-length home.first_section ms ∙ ap (λ sections. home.first_section + length sections) (sym j.sections)

  next_publics : next_public home.first_public ms ≡ home.first_public + length M.names.publics
  next_publics =
      next_public-length home.first_section home.first_public home.first_name ms
      ∙ ap (λ sites. home.first_public + length (sited_publics sites)) group_sites
      ∙ ap (λ n. home.first_public + n) (sym (length-joined (joined_public ms) (λ site entry. record { site = site; entry = entry })
      (λ site. site.parts.names.publics) home (λ site. refl) (sited ms)))
      ∙ ap (λ publics. home.first_public + length publics) (sym j.publics)

  next_names : next_name home.first_name ms ≡ home.first_name + name_count (marks_of M.debug)
  next_names =
      next_name-names_at home.first_section home.first_public home.first_name ms
      ∙ ap (λ sites. home.first_name + names_at sites) group_sites
      ∙ ap (λ n. home.first_name + n) (names_at-shifted home (sited ms) ∙ sym (name_count-joined ms (sited ms)))
      ∙ ap (λ marks. home.first_name + name_count marks) (sym j.debug)

  pub sites_of_group : sited (before ++ (ms ++ after)) ≡ sited before ++ (map (shifted (home_of M before)) (sited ms) ++ rest_of)
  sites_of_group =
      sited_from-append 0 0 0 before (ms ++ after)
      ∙ ap (λ more. sited before ++ more)
      (sited_from-append home.first_section home.first_public home.first_name ms after
      ∙ ap (λ sites. sites ++ sited_from (next_section home.first_section ms) (next_public home.first_public ms) (next_name home.first_name ms) after)
      group_sites
      ∙ ap (λ s. map (shifted home) (sited ms) ++ sited_from s (next_public home.first_public ms) (next_name home.first_name ms) after) next_sections
      ∙ ap (λ p. map (shifted home) (sited ms) ++ sited_from (home.first_section + length M.sections) p (next_name home.first_name ms) after) next_publics
      ∙ ap (λ d. map (shifted home) (sited ms) ++ sited_from (home.first_section + length M.sections) (home.first_public + length M.names.publics) d
      after) next_names)

  -- lists over all modules correspond where those of the modules outside the group do, and that of the link and that of the group
  pub paired_sites : {U V : Type 0} (R : U → V → Type 0) (f : Sited → List U) (g : Sited → List V) → ((site : Sited) → Paired R (f site) (g site))
      → Paired R (f (home_of M before)) (flat_map (λ site. g (shifted (home_of M before) site)) (sited ms))
      → Paired R (flat_map f (sited (before ++ (M ∷ after)))) (flat_map g (sited (before ++ (ms ++ after))))
  paired_sites {U} {V} R f g outside inside =
      let context : (sites : List Sited) → Paired R (flat_map f sites) (flat_map g sites) = outside_all outside in
      let group = Paired-append R (f home) (flat_map f rest_of) _ (flat_map g rest_of) inside (context rest_of) in
      let all = Paired-append R (flat_map f (sited before)) _ (flat_map g (sited before)) _ (context (sited before)) group in
      let left : flat_map f (sited (before ++ (M ∷ after))) ≡ flat_map f (sited before) ++ (f home ++ flat_map f rest_of)
      = ap (flat_map f) sites_of_link ∙ flat_map-append f (sited before) (home ∷ rest_of) in
      let right : flat_map g (sited (before ++ (ms ++ after))) ≡ flat_map g (sited before)
      ++ (flat_map (λ site. g (shifted home site)) (sited ms) ++ flat_map g rest_of)
      = ap (flat_map g) sites_of_group ∙ flat_map-append g (sited before) (map (shifted home) (sited ms) ++ rest_of)
      ∙ ap (λ more. flat_map g (sited before) ++ more) (flat_map-append g (map (shifted home) (sited ms)) rest_of
      ∙ ap (λ prefix. prefix ++ flat_map g rest_of) (flat_map-map g (shifted home) (sited ms))) in
      subst (λ xs. Paired R xs (flat_map g (sited (before ++ (ms ++ after))))) (sym left)
      (subst (λ ys. Paired R (flat_map f (sited before) ++ (f home ++ flat_map f rest_of)) ys) (sym right) all) where
        outside_all : ((site : Sited) → Paired R (f site) (g site)) → (sites : List Sited) → Paired R (flat_map f sites) (flat_map g sites)
        outside_all outside [] = tt
        outside_all outside (site ∷ sites) = Paired-append R (f site) _ (g site) _ (outside site) (outside_all outside sites)
