-- A file of a module is, if its debug part is skipped, a file of the module without its debug items.
use Rattle.std.proofs.Common.{◌≡◌, ◌⊎◌, ℕ, Bool, true, false, cond, List, [], ◌∷◌, ◌++◌, Option, Some, None, refl, sym, subst, ◌∙◌, inl, inr}
use Rattle.mufom_records.specs.declared.options.ReadOptions.{ReadOptions}
use Rattle.mufom_records.specs.Fields.{first_of}
use Rattle.mufom_records.specs.Layouts.{IsWholeRecord}
use Rattle.mufom_records.proofs.EndLaws.{ends-anywhere}
use Rattle.mufom_module.specs.declared.module.Parts.{Parts}
use Rattle.mufom_module.specs.SpelledRecords.{SpelledRecord, bytes_of}
use Rattle.mufom_module.specs.RecordParts.{Part, debug_part, data_part, trailer_part, opens_items, mode_of}
use Rattle.mufom_module.specs.Grammar.{FileParts, AreWhole, IsPart, IsCutInto, HasNames, States, SpellsModule, debug_bytes, module_end, from_debug}
use Rattle.mufom_module.specs.Grammar.{seen_from_debug, ends_before_debug, offsets_in, indexes_of}
use Rattle.mufom_module.proofs.OneModule.{one_module}
use Rattle.mufom_debug_laws.specs.Without.{without_debug}
use Rattle.mufom_debug_laws.specs.DebugLaws.{DebugPartsMayBeSkipped}
use Rattle.mufom_debug_laws.proofs.Valid.{modules-stay-valid}
use Rattle.mufom_debug_laws.proofs.Names.{AreIn, follow-without, outside-of, outside-append}
use Rattle.mufom_debug_laws.proofs.Stated.{publics-same, loads-same, starts-same}

abbrev reading : Bool → ReadOptions
reading gnu = record { debug = true; gnu = gnu }

abbrev skipping : Bool → ReadOptions
skipping gnu = record { debug = false; gnu = gnu }

-- the parts of the file, with a debug part that is skipped
abbrev skipped_debug : FileParts → FileParts
skipped_debug f = record f { debug = []; skipped = debug_bytes f }

-- ---- the bytes

-- the first byte is the same, or it is now the code of the module's end
abbrev SeesSame : List ℕ → List ℕ → Type 0
SeesSame a b = (first_of b None ≡ first_of a None) ⊎ (first_of b None ≡ Some 0xE1)

sees-after : (own a b : List ℕ) → SeesSame a b → SeesSame (own ++ a) (own ++ b)
sees-after [] a b same = same
sees-after (x ∷ own) a b same = inl refl

whole-skipped : (gnu items : Bool) (records : List SpelledRecord) (a b : List ℕ) → SeesSame a b → AreWhole (reading gnu) items records a
    → AreWhole (skipping gnu) items records b
whole-skipped gnu items [] a b same are = tt
whole-skipped gnu items (p ∷ records) a b same are =
    let m = mode_of (skipping gnu) items p.bytes in
    let there : IsWholeRecord m p.row p.bytes (first_of (bytes_of records ++ b) None) = elim (sees-after (bytes_of records) a b same) [
      | inl equal ↦ subst (λ (n : Option ℕ). IsWholeRecord m p.row p.bytes n) (sym equal) are.0
      | inr ends ↦ subst (λ (n : Option ℕ). IsWholeRecord m p.row p.bytes n) (sym ends)
          (ends-anywhere m p.row p.bytes (first_of (bytes_of records ++ a) None) are.0)
    ] in
    (there, whole-skipped gnu (opens_items p.row) records a b same are.1)

part-skipped : (gnu : Bool) (part : Part) (records : List SpelledRecord) (a b : List ℕ) → SeesSame a b → IsPart (reading gnu) part records a
    → IsPart (skipping gnu) part records b
part-skipped gnu part records a b same is = record { are_whole = whole-skipped gnu false records a b same is.are_whole; own = is.own }

sees-debug : (gnu : Bool) (f : FileParts) → SeesSame (seen_from_debug (reading gnu) f) (seen_from_debug (skipping gnu) (skipped_debug f))
sees-debug false f = inl refl
sees-debug true f = by-end (ends_before_debug (skipping true) (offsets_in f.offsets)) where
  by-end : (t : Bool) → SeesSame (from_debug f) (cond t module_end (from_debug f))
  by-end true = inr refl
  by-end false = inl refl

cut-skipped : (gnu : Bool) (bytes : List ℕ) (f : FileParts) → IsCutInto bytes (reading gnu) f → IsCutInto bytes (skipping gnu) (skipped_debug f)
cut-skipped gnu bytes f cut = record {
  all = cut.all;
  limit = cut.limit;
  header = cut.header;
  offsets = cut.offsets;
  sections = part-skipped gnu _ f.sections _ _ (sees-after (bytes_of f.externals) _ _ (sees-debug gnu f)) cut.sections;
  externals = part-skipped gnu _ f.externals _ _ (sees-debug gnu f) cut.externals;
  debug = record { are_whole = tt; own = refl };
  debug_read = refl;
  loads = part-skipped gnu _ f.loads _ _ (inl refl) cut.loads;
  trailer = part-skipped gnu _ f.trailer _ _ (inl refl) cut.trailer;
}

-- ---- the names

names-skipped : (f : FileParts) → AreIn debug_part f.debug → AreIn data_part f.loads → AreIn trailer_part f.trailer → HasNames f → HasNames (skipped_debug f)
names-skipped f debug loads trailer names = record {
  follow = follow-without f.sections f.externals f.debug (f.loads ++ f.trailer) debug
      (outside-append f.loads f.trailer (outside-of data_part refl f.loads loads) (outside-of trailer_part refl f.trailer trailer)) names.follow;
  values = names.values;
  valued = names.valued;
}

-- ---- what is stated

states-skipped : (f : FileParts) (m : Parts) → States f (indexes_of f) m → States (skipped_debug f) (indexes_of (skipped_debug f)) (without_debug m)
states-skipped f m states = let ix = indexes_of f in record {
  begin = states.begin;
  descriptor = states.descriptor;
  extension = states.extension;
  environment = states.environment;
  sections = states.sections;
  publics = states.publics ∙ sym (publics-same ix f.externals);
  references = states.references;
  debug = refl;
  loads = states.loads ∙ sym (loads-same ix m.maus f.loads);
  start = states.start ∙ sym (starts-same ix f.trailer);
}

-- ---- the law

spells-skipped : (gnu : Bool) (m : Parts) (bytes : List ℕ) → SpellsModule m bytes (reading gnu) → SpellsModule (without_debug m) bytes (skipping gnu)
spells-skipped gnu m bytes (f, cut, names, states, valid) = (
  skipped_debug f,
  cut-skipped gnu bytes f cut,
  names-skipped f cut.debug.own cut.loads.own cut.trailer.own names,
  states-skipped f m states,
  modules-stay-valid m valid,
)

pub debug-parts-may-be-skipped : DebugPartsMayBeSkipped
debug-parts-may-be-skipped gnu bytes m is =
    let there = spells-skipped gnu m bytes is in
    (there, λ other also. one_module other (without_debug m) bytes (skipping gnu) also there)
