-- What the work of a task comes to, from what its inputs and their modules come to.
use Rattle.std.proofs.Common.{◌≡◌, ℕ, length, List, Option, Some, None, refl, sym, ap, subst, IfSome, inl, inr}
use Rattle.mufom_host.specs.World.{NamedFile}
use Rattle.mufom_map.specs.Mapped.{Mapped}
use Rattle.mufom_origins.specs.Words.{ModuleFiles}
use Rattle.mufom_module.specs.declared.module.Parts.{Parts}
use Rattle.mufom_module.specs.Written.{written}
use Rattle.mufom_plan.specs.declared.plan.Plan.{Plan}
use Rattle.mufom_words.specs.Sound.{HasTree}
use Rattle.mufom_words.specs.Tree.{tree_of}
use Rattle.mufom_groups.specs.Linked.{linked_module}
use Rattle.mufom_groups.specs.Work.{Reached, Work, gives, stops, with_stops}
use Rattle.mufom_outcome.specs.Stop.{Stop, link_fact}
use Rattle.mufom_task.specs.declared.task.Inputs.{Inputs}
use Rattle.mufom_task.specs.declared.task.Product.{Product}
use Rattle.mufom_task.specs.declared.task.Product.TheVariants as product
use Rattle.mufom_task.specs.Inputs.{module_files}
use Rattle.mufom_task.specs.Reading.{modules_in, plan_in}
use Rattle.mufom_task.specs.InputsRead.{inputs_in}
use Rattle.mufom_task.proofs.InputsLaws.{known-both, known-map}
use Rattle.mufom_prepare.specs.declared.locating.Location.{Location}
use Rattle.mufom_prepare.specs.Locations.{AreLinkable, AreMapped, shown_of}
use Rattle.mufom_prepare.specs.Prepared.{AreReadFrom, AreReadOver}
use Rattle.mufom_works.specs.Roots.{roots_by}
use Rattle.mufom_works.specs.Works.{IsHeld, Output, linked_file, linking, listing, locating, locating_kept, made, printed, producing, product_of}
use Rattle.mufom_works.specs.Text.{Text}
use Rattle.mufom_works.specs.WorkEnds.{location_of}

-- ---- the inputs end the work

pub linking-begins : (output : List Parts → Plan → List Parts → Work Stop Output) (c : Inputs) (files : List NamedFile) (s : Stop)
    → inputs_in files c (stops s) → linking output files c (stops s)
linking-begins output c files s (inl is) = inl is
linking-begins output c files s (inr (plan, planned, inl is)) = inr (plan, planned, inl is)
linking-begins output c files s (inr (plan, planned, inr (ms, read, never))) = absurd never

pub locating-begins : (keep : List (List ℕ)) (p : Product) (c : Inputs) (files : List NamedFile) (s : Stop) → inputs_in files c (stops s)
    → locating keep p files c (stops s)
locating-begins keep p c files =
    linking-begins (λ ms plan flat. locating_kept (producing p (module_files files c) (tree_of c.marks) ms plan) (roots_by keep plan) plan flat) c files

no-plan-stops : (files : List NamedFile) (name : Option (List ℕ)) (s : Stop) → name ≡ None → plan_in files name (stops s) → ⊥
no-plan-stops files None s none is = is
no-plan-stops files (Some name) s none is = absurd cc

pub listing-begins : (text : List Parts → Text) (c : Inputs) → c.plan ≡ None → (files : List NamedFile) (s : Stop) → inputs_in files c (stops s)
    → listing text files c (stops s)
listing-begins text c none files s (inl is) = absurd (no-plan-stops files c.plan s none is)
listing-begins text c none files s (inr (plan, planned, inl is)) = inl is
listing-begins text c none files s (inr (plan, planned, inr (ms, read, never))) = absurd never

-- ---- the inputs were read

-- their modules can be linked by their tree, whose files are the first ones
pub linkable-tree : (c : Inputs) (ms : List Parts) → AreLinkable c ms → HasTree c.marks (length ms)
linkable-tree c ms is = record { spelled = is.sound.tree.spelled; numbered = is.sound.tree.numbered; within = is.count.within }

-- what was read, with the files of the modules
pub read-from : (files : Option (List NamedFile)) (c : Inputs) (names : ModuleFiles) (plan : Plan) (ms : List Parts)
    → IfSome files (λ fs. inputs_in fs c (gives (plan, ms))) → IfSome files (λ fs. names ≡ module_files fs c) → AreReadFrom files c names plan ms
read-from files c names plan ms read named =
    known-map (λ fs. inputs_in fs c (gives (plan, ms)) × (names ≡ module_files fs c)) (λ fs. AreReadOver fs c names plan ms) files
    (λ fs both. record { read = both.0; named = both.1 })
    (known-both (λ fs. inputs_in fs c (gives (plan, ms))) (λ fs. names ≡ module_files fs c) files read named)

-- the two parts of what was read
pub inputs-planned : (files : List NamedFile) (c : Inputs) (plan : Plan) (ms : List Parts) → inputs_in files c (gives (plan, ms))
    → plan_in files c.plan (gives plan)
inputs-planned files c plan ms (p, planned, (list, read, same)) =
    subst (λ (x : Plan). plan_in files c.plan (gives x)) (sym (ap (λ (both : Plan × List Parts). both.0) same)) planned

pub inputs-modules : (files : List NamedFile) (c : Inputs) (plan : Plan) (ms : List Parts) → inputs_in files c (gives (plan, ms))
    → modules_in files c (gives ms)
inputs-modules files c plan ms (p, planned, (list, read, same)) =
    subst (λ (x : List Parts). modules_in files c (gives x)) (sym (ap (λ (both : Plan × List Parts). both.1) same)) read

module _ (c : Inputs) (plan : Plan) (ms : List Parts) (files : List NamedFile) (is : inputs_in files c (gives (plan, ms))) where
  -- a text of the modules
  pub listing-gives : (text : List Parts → Text) → listing text files c (gives (printed (text ms)))
  listing-gives text = (ms, inputs-modules files c plan ms is, refl)

  -- the file of the link
  pub link-gives : (name : Option (List ℕ)) (out : List ℕ) (M : Parts) → linked_module (tree_of c.marks) name ms (gives M) → IsHeld M
      → linking (λ ms plan flat. linked_file name out flat) files c (gives (made out (written M)))
  link-gives name out M (flat, is_linked, joined) held = (
    plan,
    inputs-planned files c plan ms is,
    (
      ms,
      inputs-modules files c plan ms is,
      (flat, is_linked, (M, joined, (held, refl))),
    ),
  )

  -- or the link fact
  pub link-stops : (name : Option (List ℕ)) (out : List ℕ) (s : Stop) → with_stops link_fact (linked_module (tree_of c.marks) name ms) (stops s)
      → linking (λ ms plan flat. linked_file name out flat) files c (stops s)
  link-stops name out s (f, inl ends, same) =
      inr (plan, inputs-planned files c plan ms is, inr (ms, inputs-modules files c plan ms is, inl (f, ends, same)))
  link-stops name out s (f, inr (flat, is_linked, never), same) = absurd never

  -- ---- the files were located

  module _ (keep : List (List ℕ)) (p : Product) where
    -- the fact that ends the locating
    pub locating-stops : (s : Stop) → location_of (tree_of c.marks) (roots_by keep plan) plan ms (stops s) → locating keep p files c (stops s)
    locating-stops s (inl ends) = inr (plan, inputs-planned files c plan ms is, inr (ms, inputs-modules files c plan ms is, inl ends))
    locating-stops s (inr (flat, is_linked, inl ends)) =
        inr (plan, inputs-planned files c plan ms is, inr (ms, inputs-modules files c plan ms is, inr (flat, is_linked, inl ends)))
    locating-stops s (inr (flat, is_linked, inr (kept, is_kept, ends))) =
        inr (plan, inputs-planned files c plan ms is, inr (ms, inputs-modules files c plan ms is, inr (flat, is_linked, inr (kept, is_kept, inl ends))))

    -- what is made of the location, or why nothing is
    product-there : (m : Location) → AreMapped (tree_of c.marks) (roots_by keep plan) plan ms m → (x : Reached Stop Output)
        → product_of p (module_files files c) (shown_of m) m.located x → locating keep p files c x
    product-there m are (gives o) puts = (
      plan,
      inputs-planned files c plan ms is,
      (
        ms,
        inputs-modules files c plan ms is,
        (
          are.list,
          are.links,
          (
            are.kept,
            are.keeps,
            (
              m.located,
              are.location,
              (
                are.flat,
                are.files,
                subst (λ (shown : Mapped). product_of p (module_files files c) shown m.located (gives o)) are.shows puts,
              ),
            ),
          ),
        ),
      ),
    )
    product-there m are (stops s) ends = inr (
      plan,
      inputs-planned files c plan ms is,
      inr (
        ms,
        inputs-modules files c plan ms is,
        inr (
          are.list,
          are.links,
          inr (
            are.kept,
            are.keeps,
            inr (
              m.located,
              are.location,
              inr (
                are.flat,
                are.files,
                subst (λ (shown : Mapped). product_of p (module_files files c) shown m.located (stops s)) are.shows ends,
              ),
            ),
          ),
        ),
      ),
    )

    -- the same for the files of the modules, as they were found in reading
    pub product-comes : (names : ModuleFiles) → names ≡ module_files files c → (m : Location)
        → AreMapped (tree_of c.marks) (roots_by keep plan) plan ms m → (x : Reached Stop Output) → product_of p names (shown_of m) m.located x
        → locating keep p files c x
    product-comes names named m are x is =
        product-there m are x (subst (λ (l : ModuleFiles). product_of p l (shown_of m) m.located x) named is)
