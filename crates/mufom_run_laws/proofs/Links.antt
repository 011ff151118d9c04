-- The partial link of a list that can be linked exists.
use Rattle.std.proofs.Common.{◌≡◌, ℕ, ◌+◌, ◌<◌, List, [], ◌∷◌, ◌++◌, length, map, flat_map, Option, Some, None, refl, sym, ◌∙◌, arith}
use Rattle.std.proofs.Common.{length-append}
use Rattle.std.specs.Prelude.{option_map, option_to_list}
use Rattle.mufom_expr.specs.Tree.{Tree}
use Rattle.mufom_debug.specs.declared.item.DebugItem.{DebugItem}
use Rattle.mufom_debug.specs.Marks.{DebugMark, block_begin, block_end, name_mark, note_mark, value_mark, marks_of}
use Rattle.mufom_module.specs.declared.module.Parts.{Parts}
use Rattle.mufom_meaning.specs.Facts.{duplicate_start}
use Rattle.mufom_meaning.specs.Flat.{Sited, sited, sited_from, flat_sections, flat_starts, name_count}
use Rattle.mufom_meaning.specs.Joined.{IsJoined, joined_head, joined_load, joined_mark, joined_public, joined_tree, kept_references}
use Rattle.mufom_meaning.specs.LinkAnswer.{link_answer}
use Rattle.mufom_meaning.proofs.locations.ChangedMarks.{changed, changed_items, marks_of-append}
use Rattle.mufom_meaning.proofs.values.ValueLaws.{no_link_fact}
use Rattle.mufom_run_laws.specs.Exist.{LinksExist}

-- the only element of a list that has at most one
abbrev only : {A : Type 0} → List A → Option A
only [] = None
only (x ∷ xs) = Some x

only-all : {A : Type 0} (xs : List A) → ¬ (1 < length xs) → option_to_list (only xs) ≡ xs
only-all [] few = refl
only-all (x ∷ []) few = refl
only-all (x ∷ y ∷ xs) few = absurd (few (omega arith))

module _ (ms : List Parts) where
  -- the start of each module, by flat numbers
  abbrev starts : List Sited → List Tree
  starts sites = flat_map (λ site. map (joined_tree ms site) (option_to_list site.parts.start)) sites

  starts-count : (a b d : ℕ) (list : List Parts) → length (starts (sited_from a b d list)) ≡ length (flat_starts list)
  starts-count a b d [] = refl
  starts-count a b d (m ∷ list) =
      let site : Sited = record { parts = m; first_section = a; first_public = b; first_name = d } in
      let later = starts-count (a + length m.sections) (b + length m.names.publics) (d + name_count (marks_of m.debug)) list in
      length-append (map (joined_tree ms site) (option_to_list m.start)) _ ∙ (λ i. own site m.start i + later i)
      ∙ sym (length-append (option_to_list m.start) (flat_starts list)) where
        own : (site : Sited) (o : Option Tree) → length (map (joined_tree ms site) (option_to_list o)) ≡ length (option_to_list o)
        own site None = refl
        own site (Some t) = refl

  -- a debug record with its expressions and numbers by flat numbers
  abbrev moved : Sited → DebugMark → DebugMark
  moved site = changed (joined_head ms site) (option_map (joined_tree ms site)) (λ n. site.first_name + n) (joined_tree ms site)

  moved-joined : (site : Sited) (marks : List DebugMark) → map (moved site) marks ≡ map (joined_mark ms site) marks
  moved-joined site [] = refl
  moved-joined site (mark ∷ marks) = λ i. own mark i ∷ moved-joined site marks i where
    own : (mark : DebugMark) → moved site mark ≡ joined_mark ms site mark
    own (block_begin head name) = refl
    own (block_end end) = refl
    own (name_mark name) = refl
    own (note_mark name note) = refl
    own (value_mark name t) = refl

  -- debug items with these records
  debug-joined : (sites : List Sited) → (items : List DebugItem)
      × (marks_of items ≡ flat_map (λ site. map (joined_mark ms site) (marks_of site.parts.debug)) sites)
  debug-joined [] = ([], refl)
  debug-joined (site ∷ sites) =
      let later = debug-joined sites in
      let here = changed_items (joined_head ms site) (option_map (joined_tree ms site)) (λ n. site.first_name + n) (joined_tree ms site) site.parts.debug in (
        here.0 ++ later.0,
        marks_of-append here.0 later.0 ∙ (λ i. (here.1 ∙ moved-joined site (marks_of site.parts.debug)) i ++ later.1 i),
      )

joined-list : (m : Parts) (more : List Parts) (name : List ℕ) → link_answer (m ∷ more) ≡ None → (M : Parts) × IsJoined M (m ∷ more) name
joined-list m more name links =
    let ms = m ∷ more in
    let debug = debug-joined ms (sited ms) in
    let count = starts-count ms 0 0 0 ms in
    let few : ¬ (1 < length (starts ms (sited ms))) = λ less. no_link_fact ms links duplicate_start (omega (arith, less, count)) in (
      record {
        processor = m.processor;
        name = name;
        maus = m.maus;
        order = m.order;
        ext = m.ext;
        env = m.env;
        sections = flat_sections ms;
        names = record {
          publics = flat_map (λ site. map (joined_public ms site) site.parts.names.publics) (sited ms);
          references = kept_references ms;
        };
        debug = debug.0;
        loads = flat_map (λ site. map (joined_load ms site) site.parts.loads) (sited ms);
        start = only (starts ms (sited ms));
      },
      record {
        named = refl;
        header = record { processor = refl; maus = refl; order = refl; ext = refl; env = refl };
        sections = refl;
        publics = refl;
        references = refl;
        loads = refl;
        start = only-all (starts ms (sited ms)) few;
        debug = debug.1;
      },
    )

pub links-exist : LinksExist
links-exist [] name some links = absurd (some refl)
links-exist (m ∷ more) name some links = joined-list m more name links
