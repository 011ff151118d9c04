-- Worked examples of names and links: the definitions compute the expected answers.
use Rattle.std.proofs.Common.{◌≡◌, ℕ, List, [], ◌∷◌, map, Some, None, refl, flat_map}
use Rattle.std.specs.Prelude.{codes}
use Rattle.mufom_expr.specs.declared.token.FieldKind.TheVariants.{Unsigned, Either}
use Rattle.mufom_expr.specs.declared.token.Letter.TheVariants.{I, R, X}
use Rattle.mufom_expr.specs.Tree.{number, variable, two, plus, minus}
use Rattle.mufom_loads.specs.declared.load.Item.TheVariants.{Field}
use Rattle.mufom_loads.specs.declared.load.Load.TheVariants.{SetSection, One}
use Rattle.mufom_module.specs.declared.module.Parts.{Parts}
use Rattle.mufom_plan.specs.declared.plan.Plan.{Plan}
use Rattle.mufom_place.specs.Bases.{bases}
use Rattle.mufom_meaning.specs.Values.{value_within}
use Rattle.mufom_meaning.specs.Steps.{counter}
use Rattle.mufom_meaning.specs.Flat.{sited, flat_sections}
use Rattle.mufom_meaning.specs.Readings.{readings}
use Rattle.mufom_meaning.specs.Joined.{IsJoined, joined_public, joined_load, kept_references}
use Rattle.mufom_meaning.specs.Facts.{cycle}
use Rattle.mufom_meaning.specs.LinkAnswer.{link_answer}
use Rattle.mufom_meaning.specs.LocateAnswer.{locate_answer}
use Rattle.mufom_meaning.proofs.rows.Built.{a_module, relocatable, public_of, strong, weak, region_at, plan_of, image_of, sections_at}

-- Two modules that need each other.
abbrev pub crossed_a : Parts
crossed_a = a_module (relocatable (codes "t") 4 ∷ []) (public_of (codes "f") (variable R 0) ∷ []) (strong (codes "g") ∷ [])
    (SetSection 0 ∷ One (Field Either 4 (variable X 0)) ∷ [])

abbrev pub crossed_b : Parts
crossed_b = a_module (relocatable (codes "t") 4 ∷ []) (public_of (codes "g") (two plus (variable R 0) (number 1)) ∷ []) (strong (codes "f") ∷ [])
    (SetSection 0 ∷ One (Field Either 4 (two plus (variable X 0) (number 2))) ∷ [])

abbrev pub low_plan : Plan
low_plan = plan_of (region_at 256 256 (codes "t" ∷ []) ∷ [])

crossed_bases : bases low_plan (flat_sections (crossed_a ∷ crossed_b ∷ [])) [] ≡ 256 ∷ 260 ∷ []
crossed_bases = refl

crossed_image : image_of (crossed_a ∷ crossed_b ∷ []) low_plan
    ≡ (256, 0) ∷ (257, 0) ∷ (258, 1) ∷ (259, 5) ∷ (260, 0) ∷ (261, 0) ∷ (262, 1) ∷ (263, 2) ∷ []
unfolding readings counter value_within
crossed_image = refl

crossed_fine : locate_answer (crossed_a ∷ crossed_b ∷ []) low_plan ≡ None
unfolding locate_answer counter value_within
crossed_fine = refl

crossed_links : link_answer (crossed_a ∷ crossed_b ∷ []) ≡ None
crossed_links = refl

-- the link of the two: its publics, references and loads
crossed_publics : flat_map (λ site. map (joined_public (crossed_a ∷ crossed_b ∷ []) site) site.parts.names.publics) (sited (crossed_a ∷ crossed_b ∷ []))
    ≡ public_of (codes "f") (variable R 0) ∷ public_of (codes "g") (two plus (variable R 1) (number 1)) ∷ []
crossed_publics = refl

crossed_loads : flat_map (λ site. map (joined_load (crossed_a ∷ crossed_b ∷ []) site) site.parts.loads) (sited (crossed_a ∷ crossed_b ∷ []))
    ≡ SetSection 0 ∷ One (Field Either 4 (variable I 1)) ∷ SetSection 1 ∷ One (Field Either 4 (two plus (variable I 0) (number 2))) ∷ []
crossed_loads = refl

crossed_references : kept_references (crossed_a ∷ crossed_b ∷ []) ≡ []
crossed_references = refl

-- Names that lead in a circle.
abbrev circle : List Parts
circle = a_module [] (public_of (codes "a") (two plus (variable X 0) (number 1)) ∷ []) (strong (codes "b") ∷ []) []
    ∷ a_module [] (public_of (codes "b") (two minus (variable X 0) (number 1)) ∷ []) (strong (codes "a") ∷ []) []
    ∷ []

circle_found : locate_answer circle (plan_of []) ≡ Some (cycle (codes "a"))
unfolding locate_answer
circle_found = refl

-- The circle is found in the link of the two as well.
abbrev circle_linked : Parts
circle_linked = a_module [] (public_of (codes "a") (two plus (variable I 1) (number 1)) ∷ public_of (codes "b")
    (two minus (variable I 0) (number 1)) ∷ []) [] []

circle_is_joined : IsJoined circle_linked circle (codes "a")
circle_is_joined = record {
  named = refl;
  header = record { processor = refl; maus = refl; order = refl; ext = refl; env = refl };
  sections = refl;
  publics = refl;
  references = refl;
  loads = refl;
  start = refl;
  debug = refl;
}

circle_found_linked : locate_answer (circle_linked ∷ []) (plan_of []) ≡ Some (cycle (codes "a"))
unfolding locate_answer
circle_found_linked = refl

-- A public that leads into a circle and lies on none.
led_in : locate_answer (a_module [] (public_of (codes "c") (variable I 1) ∷ public_of (codes "a") (two plus (variable I 2) (number 1)) ∷ public_of
    (codes "b") (two minus (variable I 1) (number 1)) ∷ []) [] [] ∷ []) (plan_of [])
    ≡ Some (cycle (codes "a"))
unfolding locate_answer
led_in = refl

-- Weak references keep their own defaults, until a public has the name.
abbrev pub with_default : ℕ → Parts
with_default n = a_module (relocatable (codes "t") 1 ∷ []) [] (weak (codes "x") 0 n ∷ []) (SetSection 0 ∷ One (Field Unsigned 1 (variable X 0)) ∷ [])

abbrev pub at_zero : Plan
at_zero = plan_of (region_at 0 256 (codes "t" ∷ []) ∷ [])

defaults_used : image_of (with_default 1 ∷ with_default 2 ∷ []) at_zero ≡ (0, 1) ∷ (1, 2) ∷ []
unfolding readings counter value_within
defaults_used = refl

defaults_kept : kept_references (with_default 1 ∷ with_default 2 ∷ []) ≡ weak (codes "x") 0 1 ∷ weak (codes "x") 0 2 ∷ []
defaults_kept = refl

equal_merged : kept_references (with_default 1 ∷ with_default 1 ∷ []) ≡ weak (codes "x") 0 1 ∷ []
equal_merged = refl

abbrev with_public : List Parts
with_public = with_default 1 ∷ with_default 2 ∷ a_module [] (public_of (codes "x") (number 7) ∷ []) [] [] ∷ []

public_used : image_of with_public at_zero ≡ (0, 7) ∷ (1, 7) ∷ []
unfolding readings counter value_within
public_used = refl

references_gone : kept_references with_public ≡ []
references_gone = refl

-- The module that the link of the two is, and that it is their link.
abbrev pub crossed_link : Parts
crossed_link = a_module (relocatable (codes "t") 4 ∷ relocatable (codes "t") 4 ∷ [])
    (public_of (codes "f") (variable R 0) ∷ public_of (codes "g") (two plus (variable R 1) (number 1)) ∷ []) []
    (SetSection 0 ∷ One (Field Either 4 (variable I 1)) ∷ SetSection 1 ∷ One (Field Either 4 (two plus (variable I 0) (number 2))) ∷ [])

crossed_is_joined : IsJoined crossed_link (crossed_a ∷ crossed_b ∷ []) (codes "a")
crossed_is_joined = record {
  named = refl;
  header = record { processor = refl; maus = refl; order = refl; ext = refl; env = refl };
  sections = refl;
  publics = refl;
  references = refl;
  loads = refl;
  start = refl;
  debug = refl;
}

crossed_link_image : image_of (crossed_link ∷ []) low_plan ≡ image_of (crossed_a ∷ crossed_b ∷ []) low_plan
unfolding readings counter value_within
crossed_link_image = refl

crossed_link_readings : readings (crossed_link ∷ []) (sections_at (256 ∷ 260 ∷ [])) ≡ readings (crossed_a ∷ crossed_b ∷ []) (sections_at (256 ∷ 260 ∷ []))
unfolding readings value_within counter
crossed_link_readings = refl
