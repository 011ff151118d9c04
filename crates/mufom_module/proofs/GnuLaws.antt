-- A file is the file of the same module if the forms of GNU binutils are accepted too.
use Rattle.std.proofs.Common.{◌≡◌, ◌⊎◌, ℕ, ◌&&◌, Bool, true, false, cond, List, [], ◌∷◌, ◌++◌, Option, Some, None, refl, sym, subst, inl, inr}
use Rattle.mufom_records.specs.declared.options.ReadOptions.{ReadOptions}
use Rattle.mufom_records.specs.declared.record.Mode.TheVariants as mode
use Rattle.mufom_records.specs.declared.record.Record.{Record}
use Rattle.mufom_records.specs.Fields.{first_of}
use Rattle.mufom_records.specs.Layouts.{IsWholeRecord}
use Rattle.mufom_records.proofs.EndLaws.{ends-anywhere, item-gnu}
use Rattle.mufom_module.specs.declared.module.Parts.{Parts}
use Rattle.mufom_module.specs.SpelledRecords.{SpelledRecord, bytes_of}
use Rattle.mufom_module.specs.RecordParts.{Part, opens_items, begins_item, mode_of}
use Rattle.mufom_module.specs.Grammar.{FileParts, AreWhole, IsPart, SpellsModule, module_end, from_debug}
use Rattle.mufom_module.specs.Grammar.{seen_from_debug, ends_before_debug, offsets_in}

abbrev pub plainly : Bool → ReadOptions
plainly debug = record { debug = debug; gnu = false }

abbrev pub as_gnu : Bool → ReadOptions
as_gnu debug = record { debug = debug; gnu = true }

mode_gnu : (test : Bool) (row : Record) (bytes : List ℕ) (next : Option ℕ) → IsWholeRecord (cond test mode.Items mode.Body) row bytes next
    → IsWholeRecord (cond test mode.GnuItems mode.Body) row bytes next
mode_gnu true row bytes next is = item-gnu row bytes next is
mode_gnu false row bytes next is = is

-- the first byte is the same, or it is now the code of the module's end
abbrev SeesSame : List ℕ → List ℕ → Type 0
SeesSame a b = (first_of b None ≡ first_of a None) ⊎ (first_of b None ≡ Some 0xE1)

sees_after : (own a b : List ℕ) → SeesSame a b → SeesSame (own ++ a) (own ++ b)
sees_after [] a b same = same
sees_after (x ∷ own) a b same = inl refl

whole_gnu : (debug items : Bool) (records : List SpelledRecord) (a b : List ℕ) → SeesSame a b → AreWhole (plainly debug) items records a
    → AreWhole (as_gnu debug) items records b
whole_gnu debug items [] a b same are = tt
whole_gnu debug items (p ∷ records) a b same are =
    let m = mode_of (as_gnu debug) items p.bytes in
    let here = mode_gnu (items && begins_item p.bytes) p.row p.bytes (first_of (bytes_of records ++ a) None) are.0 in
    let there : IsWholeRecord m p.row p.bytes (first_of (bytes_of records ++ b) None) = elim (sees_after (bytes_of records) a b same) [
      | inl equal ↦ subst (λ (n : Option ℕ). IsWholeRecord m p.row p.bytes n) (sym equal) here
      | inr ends ↦ subst (λ (n : Option ℕ). IsWholeRecord m p.row p.bytes n) (sym ends)
          (ends-anywhere m p.row p.bytes (first_of (bytes_of records ++ a) None) here)
    ] in
    (there, whole_gnu debug (opens_items p.row) records a b same are.1)

part_gnu : (debug : Bool) (part : Part) (records : List SpelledRecord) (a b : List ℕ) → SeesSame a b → IsPart (plainly debug) part records a
    → IsPart (as_gnu debug) part records b
part_gnu debug part records a b same is = record { are_whole = whole_gnu debug false records a b same is.are_whole; own = is.own }

sees_debug : (debug : Bool) (f : FileParts) → SeesSame (seen_from_debug (plainly debug) f) (seen_from_debug (as_gnu debug) f)
sees_debug debug f = by_end (ends_before_debug (as_gnu debug) (offsets_in f.offsets)) where
  by_end : (t : Bool) → SeesSame (from_debug f) (cond t module_end (from_debug f))
  by_end true = inr refl
  by_end false = inl refl

-- the law
pub plain-gnu : (debug : Bool) (m : Parts) (bytes : List ℕ) → SpellsModule m bytes (plainly debug) → SpellsModule m bytes (as_gnu debug)
plain-gnu debug m bytes (f, cut, names, states, valid) = (
  f,
  record {
    all = cut.all;
    limit = cut.limit;
    header = cut.header;
    offsets = cut.offsets;
    sections = part_gnu debug _ f.sections _ _ (sees_after (bytes_of f.externals) _ _ (sees_debug debug f)) cut.sections;
    externals = part_gnu debug _ f.externals _ _ (sees_debug debug f) cut.externals;
    debug = part_gnu debug _ f.debug _ _ (inl refl) cut.debug;
    debug_read = cut.debug_read;
    loads = part_gnu debug _ f.loads _ _ (inl refl) cut.loads;
    trailer = part_gnu debug _ f.trailer _ _ (inl refl) cut.trailer;
  },
  names,
  states,
  valid,
)
