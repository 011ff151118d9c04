-- The name of the first module of a list changes nothing about its links.
use Rattle.std.proofs.Common.{◌≡◌, ℕ, zero, suc, ◌+◌, List, [], ◌∷◌, ◌++◌, length, map, flat_map, Option, Some, None, refl, sym, ap, ◌∙◌}
use Rattle.std.specs.Prelude.{option_map, option_to_list, slice_get}
use Rattle.mufom_expr.specs.declared.token.Letter.{Letter}
use Rattle.mufom_expr.specs.declared.token.Letter.TheVariants as letters
use Rattle.mufom_expr.specs.Tree.{Tree}
use Rattle.mufom_expr.specs.Value.{with_variables}
use Rattle.mufom_names.specs.declared.name.Public.{Public}
use Rattle.mufom_names.specs.declared.name.Reference.{Reference}
use Rattle.mufom_loads.specs.declared.load.Item.{Item}
use Rattle.mufom_loads.specs.declared.load.Item.TheVariants.{Literal, Field}
use Rattle.mufom_loads.specs.declared.load.Load.{Load}
use Rattle.mufom_loads.specs.declared.load.Load.TheVariants.{SetSection, SetPc, One, Repeat}
use Rattle.mufom_debug.specs.declared.item.BlockHead.{BlockHead}
use Rattle.mufom_debug.specs.declared.item.BlockHead.TheVariants as heads
use Rattle.mufom_debug.specs.Marks.{DebugMark, block_begin, block_end, name_mark, note_mark, value_mark, marks_of}
use Rattle.mufom_module.specs.declared.module.Parts.{Parts}
use Rattle.mufom_meaning.specs.Flat.{Sited, sited, sited_from, name_count}
use Rattle.mufom_meaning.specs.Joined.{HasFirstHeader, IsJoined, joined_head, joined_item, joined_load, joined_mark, joined_public, joined_reference}
use Rattle.mufom_meaning.specs.Joined.{joined_tree, joined_variable}
use Rattle.mufom_meaning.specs.Facts.{descriptor, LinkFact, mismatch, duplicate, duplicate_start}
use Rattle.mufom_meaning.specs.Stands.{LinkFactStands}
use Rattle.mufom_stages.specs.Stages.{named}
use Rattle.mufom_stages.specs.StageLaws.{FirstNamesChangeNoLink}

-- a module's place in a list, under another name
abbrev site_named : List ℕ → Sited → Sited
site_named name site = record site { parts = named name site.parts }

module _ (m : Parts) (name : List ℕ) (ms : List Parts) where
  abbrev under : List Parts
  under = named name m ∷ ms

  abbrev own : List Parts
  own = m ∷ ms

  -- ---- link facts

  -- what stands at a place has the same descriptor in both lists
  at-own : (a : Parts) (i : ℕ) → slice_get under i ≡ Some a → (b : Parts) × (slice_get own i ≡ Some b) × (descriptor b ≡ descriptor a)
  at-own a zero at = (m, refl, let same : named name m ≡ a = cc in ap descriptor same)
  at-own a (suc i) at = (a, at, refl)

  at-under : (a : Parts) (i : ℕ) → slice_get own i ≡ Some a → (b : Parts) × (slice_get under i ≡ Some b) × (descriptor b ≡ descriptor a)
  at-under a zero at = (named name m, refl, let same : m ≡ a = cc in ap descriptor same)
  at-under a (suc i) at = (a, at, refl)

  fact-there : (fact : LinkFact) → LinkFactStands under fact → LinkFactStands own fact
  fact-there (mismatch d e) (a, b, (i, at_i), (j, at_j), is_d, is_e, differ) =
      let (x, at_x, like_x) = at-own a i at_i in
      let (y, at_y, like_y) = at-own b j at_j in
      (x, y, (i, at_x), (j, at_y), like_x ∙ is_d, like_y ∙ is_e, differ)
  fact-there (duplicate double) stands = stands
  fact-there duplicate_start stands = stands

  fact-back : (fact : LinkFact) → LinkFactStands own fact → LinkFactStands under fact
  fact-back (mismatch d e) (a, b, (i, at_i), (j, at_j), is_d, is_e, differ) =
      let (x, at_x, like_x) = at-under a i at_i in
      let (y, at_y, like_y) = at-under b j at_j in
      (x, y, (i, at_x), (j, at_y), like_x ∙ is_d, like_y ∙ is_e, differ)
  fact-back (duplicate double) stands = stands
  fact-back duplicate_start stands = stands

  -- ---- entries by flat numbers

  same-reference : (o : Option Reference) → joined_reference under o ≡ joined_reference own o
  same-reference None = refl
  same-reference (Some r) = refl

  same-variable : (k : List ℕ) (site : Sited) (letter : Letter) (n : ℕ) → joined_variable under (site_named k site) letter n ≡ joined_variable own site letter n
  same-variable k site letters.R n = refl
  same-variable k site letters.L n = refl
  same-variable k site letters.S n = refl
  same-variable k site letters.P n = refl
  same-variable k site letters.I n = refl
  same-variable k site letters.X n = same-reference (slice_get site.parts.names.references n)

  module _ (k : List ℕ) (site : Sited) where
    tree : (t : Tree) → joined_tree under (site_named k site) t ≡ joined_tree own site t
    tree t = λ i. with_variables (λ letter n. same-variable k site letter n i) t

    public-same : (entry : Public) → joined_public under (site_named k site) entry ≡ joined_public own site entry
    public-same entry = λ i. record { name = entry.name; value = tree entry.value i; notes = entry.notes }

    item : (x : Item) → joined_item under (site_named k site) x ≡ joined_item own site x
    item (Literal bytes) = refl
    item (Field kind size t) = ap (Field kind size) (tree t)

    load : (x : Load) → joined_load under (site_named k site) x ≡ joined_load own site x
    load (SetSection section) = refl
    load (SetPc section t) = ap (SetPc (site.first_section + section)) (tree t)
    load (One x) = ap One (item x)
    load (Repeat count items) = λ i. Repeat count (map (λ x. item x i) items)

    head : (x : BlockHead) → joined_head under (site_named k site) x ≡ joined_head own site x
    head heads.Module = refl
    head (heads.Global stack type_index offset) = ap (heads.Global stack type_index) (tree offset)
    head (heads.Local stack type_index offset) = ap (heads.Local stack type_index) (tree offset)
    head (heads.Source numbers) = refl
    head (heads.Section section_type section offset) = ap (heads.Section section_type (site.first_section + section)) (tree offset)

    mark : (x : DebugMark) → joined_mark under (site_named k site) x ≡ joined_mark own site x
    mark (block_begin x text) = λ i. block_begin (head x i) text
    mark (block_end end) = λ i. block_end (option_map (λ t. tree t i) end)
    mark (name_mark text) = refl
    mark (note_mark n note) = refl
    mark (value_mark n t) = ap (value_mark (site.first_name + n)) (tree t)

  -- all entries of a kind
  entries : {X : Type 0} (of : Parts → List X) (make : List Parts → Sited → X → X)
      → (of (named name m) ≡ of m) → ((k : List ℕ) (site : Sited) (x : X) → make under (site_named k site) x ≡ make own site x)
      → flat_map (λ site. map (make under site) (of site.parts)) (sited under) ≡ flat_map (λ site. map (make own site) (of site.parts)) (sited own)
  entries of make kept same =
      let first : Sited = record { parts = m; first_section = 0; first_public = 0; first_name = 0 } in
      let more = sited_from (0 + length m.sections) (0 + length m.names.publics) (0 + name_count (marks_of m.debug)) ms in
      λ i. map (λ x. same name first x i) (kept i) ++ flat_map (λ site. map (λ x. same site.parts.name site x i) (of site.parts)) more

  -- ---- links

  header-there : (M : Parts) → HasFirstHeader M under → HasFirstHeader M own
  header-there M h = record { processor = h.processor; maus = h.maus; order = h.order; ext = h.ext; env = h.env }

  header-back : (M : Parts) → HasFirstHeader M own → HasFirstHeader M under
  header-back M h = record { processor = h.processor; maus = h.maus; order = h.order; ext = h.ext; env = h.env }

  -- the entries of all modules, by the functions that move them
  abbrev moved : {X : Type 0} → (Parts → List X) → (List Parts → Sited → X → X) → List Parts → List X
  moved of make list = flat_map (λ site. map (make list site) (of site.parts)) (sited list)

  publics-same : moved (λ p. p.names.publics) joined_public under ≡ moved (λ p. p.names.publics) joined_public own
  publics-same = entries (λ p. p.names.publics) joined_public refl public-same

  loads-same : moved (λ p. p.loads) joined_load under ≡ moved (λ p. p.loads) joined_load own
  loads-same = entries (λ p. p.loads) joined_load refl load

  starts-same : moved (λ p. option_to_list p.start) joined_tree under ≡ moved (λ p. option_to_list p.start) joined_tree own
  starts-same = entries (λ p. option_to_list p.start) joined_tree refl tree

  marks-same : moved (λ p. marks_of p.debug) joined_mark under ≡ moved (λ p. marks_of p.debug) joined_mark own
  marks-same = entries (λ p. marks_of p.debug) joined_mark refl mark

  links-there : (M : Parts) (outer : List ℕ) → IsJoined M under outer → IsJoined M own outer
  links-there M outer is = record {
    named = is.named;
    header = header-there M is.header;
    sections = is.sections;
    publics = is.publics ∙ publics-same;
    references = is.references;
    loads = is.loads ∙ loads-same;
    start = is.start ∙ starts-same;
    debug = is.debug ∙ marks-same;
  }

  links-back : (M : Parts) (outer : List ℕ) → IsJoined M own outer → IsJoined M under outer
  links-back M outer is = record {
    named = is.named;
    header = header-back M is.header;
    sections = is.sections;
    publics = is.publics ∙ sym publics-same;
    references = is.references;
    loads = is.loads ∙ sym loads-same;
    start = is.start ∙ sym starts-same;
    debug = is.debug ∙ sym marks-same;
  }

pub first-names-change-no-link : FirstNamesChangeNoLink
first-names-change-no-link [] name =
    (record { names = refl; answer = refl; facts = λ fact. (λ h. h, λ h. h) }, λ M outer. (λ h. h, λ h. h))
first-names-change-no-link (m ∷ ms) name = (
  record { names = refl; answer = refl; facts = λ fact. (fact-there m name ms fact, fact-back m name ms fact) },
  λ M outer. (links-there m name ms M outer, links-back m name ms M outer),
)
