-- The partial link of modules that are within the bounds of the types of a module is within them.
use Rattle.std.proofs.Common.{ℕ, ◌+◌, List, [], ◌∷◌, length, map, flat_map, Option, Some, None, option_map, refl, sym, subst, inl, inr}
use Rattle.std.specs.Prelude.{IfSome, not, option_to_list}
use Rattle.std.specs.List.{AllByRecursion}
use Rattle.mufom_numbers.specs.Spelling.{AreBytes}
use Rattle.mufom_expr.specs.Tree.{Tree}
use Rattle.mufom_names.specs.declared.name.Public.{Public}
use Rattle.mufom_names.specs.declared.name.Reference.{Reference}
use Rattle.mufom_loads.specs.declared.load.Item.{Item}
use Rattle.mufom_loads.specs.declared.load.Item.TheVariants.{Literal, Field}
use Rattle.mufom_loads.specs.declared.load.Load.{Load}
use Rattle.mufom_loads.specs.declared.load.Load.TheVariants.{SetSection, SetPc, One, Repeat}
use Rattle.mufom_debug.specs.declared.item.BlockHead.{BlockHead}
use Rattle.mufom_debug.specs.declared.item.BlockHead.TheVariants as heads
use Rattle.mufom_debug.specs.Marks.{DebugMark, block_begin, block_end, name_mark, note_mark, value_mark, marks_of}
use Rattle.mufom_module.specs.declared.module.Parts.{Parts}
use Rattle.mufom_module.specs.Made.{IsMadeReference, IsMadeSection}
use Rattle.mufom_plan.specs.Names.{has_name}
use Rattle.mufom_meaning.specs.Flat.{Sited, flat_references, name_count, public_names, sited_from, unresolved_references}
use Rattle.mufom_meaning.specs.Joined.{HasFirstHeader, IsJoined, joined_head, joined_item, joined_load, joined_mark, joined_public, joined_tree}
use Rattle.mufom_meaning.specs.Joined.{joined_variable, kept_references, same_reference}
use Rattle.mufom_meaning.proofs.Members.{In, distinct-In, filter-In}
use Rattle.mufom_bounds.specs.Bounded.{IsBounded, IsBoundedHead, IsBoundedItem, IsBoundedLoad, IsBoundedMark, IsBoundedPublic, IsBoundedTree}
use Rattle.mufom_bounds.proofs.Bounded.{all-append, renamed-tree}

-- ---- lists

pub in-all : {A : Type 0} (Is : A → Type 0) (xs : List A) → AllByRecursion Is xs → (x : A) → In x xs → Is x
in-all Is [] are x there = absurd there
in-all Is (y ∷ ys) are x (inl same) = subst Is same are.0
in-all Is (y ∷ ys) are x (inr there) = in-all Is ys are.1 x there

pub all-in : {A : Type 0} (Is : A → Type 0) (xs : List A) → ((x : A) → In x xs → Is x) → AllByRecursion Is xs
all-in Is [] each = tt
all-in Is (x ∷ xs) each = (each x (inl refl), all-in Is xs (λ y there. each y (inr there)))

-- an entry of each module
pub flat-all : {A : Type 0} (Is : A → Type 0) (list : Parts → List A) → ((m : Parts) → IsBounded m → AllByRecursion Is (list m))
    → (ms : List Parts) → AllByRecursion IsBounded ms → AllByRecursion Is (flat_map list ms)
flat-all Is list each [] are = tt
flat-all Is list each (m ∷ ms) are = all-append Is (list m) (flat_map list ms) (each m are.0) (flat-all Is list each ms are.1)

-- ---- the entries of a module, as the link has them
module _ (ms : List Parts) where
  tree-joined : (site : Sited) (tree : Tree) → IsBoundedTree tree → IsBoundedTree (joined_tree ms site tree)
  tree-joined site tree is = renamed-tree (joined_variable ms site) tree is

  public-joined : (site : Sited) (p : Public) → IsBoundedPublic p → IsBoundedPublic (joined_public ms site p)
  public-joined site p is = record { name = is.name; value = tree-joined site p.value is.value; notes = is.notes }

  item-joined : (site : Sited) (item : Item) → IsBoundedItem item → IsBoundedItem (joined_item ms site item)
  item-joined site (Literal bytes) is = is
  item-joined site (Field kind size value) is = tree-joined site value is

  items-joined : (site : Sited) (items : List Item) → AllByRecursion IsBoundedItem items → AllByRecursion IsBoundedItem (map (joined_item ms site) items)
  items-joined site [] are = tt
  items-joined site (item ∷ items) are = (item-joined site item are.0, items-joined site items are.1)

  load-joined : (site : Sited) (load : Load) → IsBoundedLoad load → IsBoundedLoad (joined_load ms site load)
  load-joined site (SetSection section) is = tt
  load-joined site (SetPc section value) is = tree-joined site value is
  load-joined site (One item) is = item-joined site item is
  load-joined site (Repeat count items) is = (is.0, items-joined site items is.1)

  head-joined : (site : Sited) (head : BlockHead) → IsBoundedHead head → IsBoundedHead (joined_head ms site head)
  head-joined site heads.Module is = tt
  head-joined site (heads.Global stack type_index offset) is = (is.0, is.1, tree-joined site offset is.2)
  head-joined site (heads.Source numbers) is = is
  head-joined site (heads.Local stack type_index offset) is = (is.0, is.1, tree-joined site offset is.2)
  head-joined site (heads.Section section_type section offset) is = (is.0, tree-joined site offset is.1)

  end-joined : (site : Sited) (end : Option Tree) → IfSome end IsBoundedTree → IfSome (option_map (joined_tree ms site) end) IsBoundedTree
  end-joined site None is = tt
  end-joined site (Some value) is = tree-joined site value is

  mark-joined : (site : Sited) (mark : DebugMark) → IsBoundedMark mark → IsBoundedMark (joined_mark ms site mark)
  mark-joined site (block_begin head name) is = (head-joined site head is.0, is.1)
  mark-joined site (block_end end) is = end-joined site end is
  mark-joined site (name_mark name) is = is
  mark-joined site (note_mark name note) is = is
  mark-joined site (value_mark name value) is = tree-joined site value is

  -- entries of all modules, each as the link has it
  module _ {A : Type 0} (Is : A → Type 0) (list : Parts → List A) (join : Sited → A → A) (each : (m : Parts) → IsBounded m → AllByRecursion Is (list m))
      (keeps : (site : Sited) (x : A) → Is x → Is (join site x)) where
    entries-joined : (site : Sited) (xs : List A) → AllByRecursion Is xs → AllByRecursion Is (map (join site) xs)
    entries-joined site [] are = tt
    entries-joined site (x ∷ xs) are = (keeps site x are.0, entries-joined site xs are.1)

    sites-joined : (s p d : ℕ) (list_ : List Parts) → AllByRecursion IsBounded list_
        → AllByRecursion Is (flat_map (λ site. map (join site) (list site.parts)) (sited_from s p d list_))
    sites-joined s p d [] are = tt
    sites-joined s p d (m ∷ others) are =
        let site : Sited = record { parts = m; first_section = s; first_public = p; first_name = d } in
        let after = sited_from (s + length m.sections) (p + length m.names.publics) (d + name_count (marks_of m.debug)) others in
        all-append Is (map (join site) (list m)) (flat_map (λ (next : Sited). map (join next) (list next.parts)) after)
        (entries-joined site (list m) (each m are.0))
        (sites-joined (s + length m.sections) (p + length m.names.publics) (d + name_count (marks_of m.debug)) others are.1)

-- ---- the link

-- a reference that the list's publics leave unresolved is one of the list
pub unresolved-in : (ms : List Parts) (r : Reference) → In r (unresolved_references ms) → In r (flat_references ms)
unresolved-in ms r there = filter-In (λ (q : Reference). not (has_name (public_names ms) q.name)) r (flat_references ms) there

references-kept : (ms : List Parts) → AllByRecursion IsBounded ms → AllByRecursion IsMadeReference (kept_references ms)
references-kept ms are =
    let all = flat-all IsMadeReference (λ m. m.names.references) (λ m is. is.references) ms are in
    all-in IsMadeReference (kept_references ms) (λ r there.
    in-all IsMadeReference (flat_references ms) all r (unresolved-in ms r (distinct-In same_reference r (unresolved_references ms) there)))

-- the bytes that a link has from its first module
record HasBoundedHeader (M : Parts) : Type 0 where
  processor : AreBytes M.processor
  ext : AreBytes M.ext
  env : AreBytes M.env

header-bounded : (M : Parts) (ms : List Parts) → HasFirstHeader M ms → AllByRecursion IsBounded ms → HasBoundedHeader M
header-bounded M [] header are = absurd header
header-bounded M (m ∷ ms) header are =
    let first = are.0 in
    record {
      processor = subst AreBytes (sym header.processor) first.processor;
      ext = subst AreBytes (sym header.ext) first.ext;
      env = subst AreBytes (sym header.env) first.env;
    }

pub joined-bounded : (M : Parts) (ms : List Parts) (name : List ℕ) → IsJoined M ms name → AreBytes name → AllByRecursion IsBounded ms → IsBounded M
joined-bounded M ms name joined bytes are =
    let header = header-bounded M ms joined.header are in
    record {
      processor = header.processor;
      name = subst AreBytes (sym joined.named) bytes;
      ext = header.ext;
      env = header.env;
      sections = subst (AllByRecursion IsMadeSection) (sym joined.sections) (flat-all IsMadeSection (λ m. m.sections) (λ m is. is.sections) ms are);
      publics = subst (AllByRecursion IsBoundedPublic) (sym joined.publics)
          (sites-joined ms IsBoundedPublic (λ m. m.names.publics) (joined_public ms) (λ m is. is.publics) (public-joined ms) 0 0 0 ms are);
      references = subst (AllByRecursion IsMadeReference) (sym joined.references) (references-kept ms are);
      debug = subst (AllByRecursion IsBoundedMark) (sym joined.debug)
          (sites-joined ms IsBoundedMark (λ m. marks_of m.debug) (joined_mark ms) (λ m is. is.debug) (mark-joined ms) 0 0 0 ms are);
      loads = subst (AllByRecursion IsBoundedLoad) (sym joined.loads)
          (sites-joined ms IsBoundedLoad (λ m. m.loads) (joined_load ms) (λ m is. is.loads) (load-joined ms) 0 0 0 ms are);
      start = subst (AllByRecursion IsBoundedTree) (sym joined.start)
          (sites-joined ms IsBoundedTree (λ m. option_to_list m.start) (joined_tree ms) (λ m is. is.start) (tree-joined ms) 0 0 0 ms are);
    }
