-- The link of modules without their debug items is their link without its debug items.
use Rattle.std.proofs.Common.{◌≡◌, ℕ, zero, suc, ◌+◌, ◌<◌, List, [], ◌∷◌, length, map, find, flat_map, Option, Some, None, Bool, true, false, cond}
use Rattle.std.proofs.Common.{refl, sym, ap, subst, ◌∙◌}
use Rattle.std.specs.Prelude.{not, option_map, option_to_list, slice_get}
use Rattle.std.specs.Str.{bytes_eq}
use Rattle.mufom_expr.specs.declared.token.Letter.{Letter}
use Rattle.mufom_expr.specs.declared.token.Letter.TheVariants as letters
use Rattle.mufom_expr.specs.Tree.{Tree}
use Rattle.mufom_expr.specs.Value.{with_variables}
use Rattle.mufom_names.specs.Names.{RepeatsAt}
use Rattle.mufom_names.specs.declared.name.Public.{Public}
use Rattle.mufom_names.specs.declared.name.Reference.{Reference}
use Rattle.mufom_loads.specs.declared.load.Item.{Item}
use Rattle.mufom_loads.specs.declared.load.Item.TheVariants.{Literal, Field}
use Rattle.mufom_loads.specs.declared.load.Load.{Load}
use Rattle.mufom_loads.specs.declared.load.Load.TheVariants.{SetSection, SetPc, One, Repeat}
use Rattle.mufom_debug.specs.Marks.{marks_of}
use Rattle.mufom_module.specs.declared.module.Parts.{Parts}
use Rattle.mufom_plan.specs.Names.{has_name}
use Rattle.mufom_place.specs.Facts.{◌or_else◌}
use Rattle.mufom_meaning.specs.Flat.{Sited, sited}
use Rattle.mufom_meaning.specs.Joined.{HasFirstHeader, IsJoined, joined_item, joined_load, joined_mark, joined_public}
use Rattle.mufom_meaning.specs.Joined.{joined_reference, joined_tree, joined_variable}
use Rattle.mufom_meaning.specs.Joined.{position_of, same_reference}
use Rattle.mufom_meaning.specs.Facts.{descriptor, LinkFact, mismatch, duplicate, duplicate_start}
use Rattle.mufom_meaning.specs.LinkAnswer.{first_duplicate, first_mismatch, link_answer, same_descriptor, two_starts}
use Rattle.mufom_meaning.specs.Stands.{LinkFactStands}
use Rattle.mufom_meaning.proofs.staging.JoinedSingle.{joined_is_single}
use Rattle.mufom_debug_laws.specs.Without.{without_debug, all_without_debug}
use Rattle.mufom_debug_laws.specs.LinkLaws.{DebugChangesNoLinkFact, LinksLoseDebugAlone}
use Rattle.mufom_debug_laws.proofs.Sites.{bare_site, sited-bare, flat-sites, no-entries, sections-bare, names-bare, starts-bare, kept-bare}

-- ---- the fact that is returned

mismatches : (m : Parts) (ms : List Parts)
    → option_map (λ other. mismatch (descriptor (without_debug m)) (descriptor other)) (find (λ other. not (same_descriptor (without_debug m) other))
    (all_without_debug ms))
    ≡ option_map (λ other. mismatch (descriptor m) (descriptor other)) (find (λ other. not (same_descriptor m other)) ms)
mismatches m [] = refl
mismatches m (x ∷ ms) = by-case (not (same_descriptor m x)) (mismatches m ms) where
  by-case : (b : Bool)
      → option_map (λ other. mismatch (descriptor m) (descriptor other)) (find (λ other. not (same_descriptor m other)) (all_without_debug ms))
      ≡ option_map (λ other. mismatch (descriptor m) (descriptor other)) (find (λ other. not (same_descriptor m other)) ms)
      → option_map (λ other. mismatch (descriptor m) (descriptor other))
      (cond b (Some (without_debug x)) (find (λ other. not (same_descriptor m other)) (all_without_debug ms)))
      ≡ option_map (λ other. mismatch (descriptor m) (descriptor other)) (cond b (Some x) (find (λ other. not (same_descriptor m other)) ms))
  by-case true rest = refl
  by-case false rest = rest

mismatch-bare : (ms : List Parts) → first_mismatch (all_without_debug ms) ≡ first_mismatch ms
mismatch-bare [] = refl
mismatch-bare (m ∷ ms) = mismatches m ms

pub answer-bare : (ms : List Parts) → link_answer (all_without_debug ms) ≡ link_answer ms
answer-bare ms = λ i. mismatch-bare ms i or_else (option_map duplicate (first_duplicate [] (names-bare ms i)) or_else two_starts (starts-bare ms i))

-- ---- the facts

-- what is at a place has the same descriptor in both lists
at-own : (ms : List Parts) (a : Parts) (i : ℕ) → slice_get (all_without_debug ms) i ≡ Some a
    → (b : Parts) × (slice_get ms i ≡ Some b) × (descriptor b ≡ descriptor a)
at-own [] a i at = absurd cc
at-own (m ∷ ms) a zero at = (m, refl, let same : without_debug m ≡ a = cc in ap descriptor same)
at-own (m ∷ ms) a (suc i) at = at-own ms a i at

at-bare : (ms : List Parts) (a : Parts) (i : ℕ) → slice_get ms i ≡ Some a
    → (b : Parts) × (slice_get (all_without_debug ms) i ≡ Some b) × (descriptor b ≡ descriptor a)
at-bare [] a i at = absurd cc
at-bare (m ∷ ms) a zero at = (without_debug m, refl, let same : m ≡ a = cc in ap descriptor same)
at-bare (m ∷ ms) a (suc i) at = at-bare ms a i at

-- a name is at a position, and at an earlier one too
abbrev Doubles : List ℕ → List (List ℕ) → Type 0
Doubles name names = (place : ℕ) × (slice_get names place ≡ Some name) × RepeatsAt names place

fact-there : (ms : List Parts) (fact : LinkFact) → LinkFactStands (all_without_debug ms) fact → LinkFactStands ms fact
fact-there ms (mismatch d e) (a, b, (i, at_i), (j, at_j), is_d, is_e, differ) =
    let (x, at_x, like_x) = at-own ms a i at_i in
    let (y, at_y, like_y) = at-own ms b j at_j in
    (x, y, (i, at_x), (j, at_y), like_x ∙ is_d, like_y ∙ is_e, differ)
fact-there ms (duplicate double) stands = subst (Doubles double) (names-bare ms) stands
fact-there ms duplicate_start stands = subst (λ (starts : List Tree). 1 < length starts) (starts-bare ms) stands

fact-back : (ms : List Parts) (fact : LinkFact) → LinkFactStands ms fact → LinkFactStands (all_without_debug ms) fact
fact-back ms (mismatch d e) (a, b, (i, at_i), (j, at_j), is_d, is_e, differ) =
    let (x, at_x, like_x) = at-bare ms a i at_i in
    let (y, at_y, like_y) = at-bare ms b j at_j in
    (x, y, (i, at_x), (j, at_y), like_x ∙ is_d, like_y ∙ is_e, differ)
fact-back ms (duplicate double) stands = subst (Doubles double) (sym (names-bare ms)) stands
fact-back ms duplicate_start stands = subst (λ (starts : List Tree). 1 < length starts) (sym (starts-bare ms)) stands

pub debug-changes-no-link-fact : DebugChangesNoLinkFact
debug-changes-no-link-fact ms = record {
  names = names-bare ms;
  answer = answer-bare ms;
  facts = λ fact. (fact-there ms fact, fact-back ms fact);
}

-- ---- entries by flat numbers

module _ (ms : List Parts) where
  abbrev bare : List Parts
  bare = all_without_debug ms

  reference-same : (o : Option Reference) → joined_reference bare o ≡ joined_reference ms o
  reference-same None = λ i. (letters.X, length (kept-bare ms i))
  reference-same (Some r) = λ i. cond (has_name (names-bare ms i) r.name) (letters.I, position_of (λ name. bytes_eq name r.name) (names-bare ms i))
      (letters.X, position_of (same_reference r) (kept-bare ms i))

  variable-same : (site : Sited) (letter : Letter) (n : ℕ) → joined_variable bare (bare_site site) letter n ≡ joined_variable ms site letter n
  variable-same site letters.R n = refl
  variable-same site letters.L n = refl
  variable-same site letters.S n = refl
  variable-same site letters.P n = refl
  variable-same site letters.I n = refl
  variable-same site letters.X n = reference-same (slice_get site.parts.names.references n)

  module _ (site : Sited) where
    tree-same : (t : Tree) → joined_tree bare (bare_site site) t ≡ joined_tree ms site t
    tree-same t = λ i. with_variables (λ letter n. variable-same site letter n i) t

    public-same : (entry : Public) → joined_public bare (bare_site site) entry ≡ joined_public ms site entry
    public-same entry = λ i. record { name = entry.name; value = tree-same entry.value i; notes = entry.notes }

    item-same : (x : Item) → joined_item bare (bare_site site) x ≡ joined_item ms site x
    item-same (Literal bytes) = refl
    item-same (Field kind size t) = ap (Field kind size) (tree-same t)

    load-same : (x : Load) → joined_load bare (bare_site site) x ≡ joined_load ms site x
    load-same (SetSection section) = refl
    load-same (SetPc section t) = ap (SetPc (site.first_section + section)) (tree-same t)
    load-same (One x) = ap One (item-same x)
    load-same (Repeat count items) = λ i. Repeat count (map (λ x. item-same x i) items)

  -- the entries of all modules, by the functions that move them
  abbrev moved : {X : Type 0} → (Parts → List X) → (List Parts → Sited → X → X) → List Parts → List X
  moved of make list = flat_map (λ site. map (make list site) (of site.parts)) (sited list)

  entries : {X : Type 0} (of : Parts → List X) (make : List Parts → Sited → X → X) → ((m : Parts) → of (without_debug m) ≡ of m)
      → ((site : Sited) (x : X) → make bare (bare_site site) x ≡ make ms site x) → moved of make bare ≡ moved of make ms
  entries of make kept same =
      ap (λ sites. flat_map (λ site. map (make bare site) (of site.parts)) sites) (sited-bare ms)
      ∙ flat-sites (λ site. map (make bare site) (of site.parts)) (λ site. map (make ms site) (of site.parts))
      (λ site i. map (λ x. same site x i) (kept site.parts i)) (sited ms)

  marks-bare : flat_map (λ site. map (joined_mark bare site) (marks_of site.parts.debug)) (sited bare) ≡ []
  marks-bare =
      ap (λ sites. flat_map (λ site. map (joined_mark bare site) (marks_of site.parts.debug)) sites) (sited-bare ms)
      ∙ no-entries (λ site. map (joined_mark bare site) (marks_of site.parts.debug)) (λ site. refl) (sited ms)

header-bare : (M : Parts) (ms : List Parts) → HasFirstHeader M ms → HasFirstHeader (without_debug M) (all_without_debug ms)
header-bare M [] h = absurd h
header-bare M (m ∷ ms) h = record { processor = h.processor; maus = h.maus; order = h.order; ext = h.ext; env = h.env }

pub link-bare : (M : Parts) (ms : List Parts) (name : List ℕ) → IsJoined M ms name → IsJoined (without_debug M) (all_without_debug ms) name
link-bare M ms name is = record {
  named = is.named;
  header = header-bare M ms is.header;
  sections = is.sections ∙ sym (sections-bare ms);
  publics = is.publics ∙ sym (entries ms (λ p. p.names.publics) joined_public (λ m. refl) (public-same ms));
  references = is.references ∙ sym (kept-bare ms);
  loads = is.loads ∙ sym (entries ms (λ p. p.loads) joined_load (λ m. refl) (load-same ms));
  start = is.start ∙ sym (entries ms (λ p. option_to_list p.start) joined_tree (λ m. refl) (tree-same ms));
  debug = sym (marks-bare ms);
}

pub links-lose-debug-alone : LinksLoseDebugAlone
links-lose-debug-alone M ms name is =
    let there = link-bare M ms name is in
    (there, λ other also. joined_is_single other (without_debug M) (all_without_debug ms) name also there)
