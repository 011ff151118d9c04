-- What is written of the module of a text's runs is read as it, with or without the debug part that it lacks.
use Rattle.std.proofs.Common.{◌≡◌, Bool, true, false, Some, refl, ℕ, ◌*◌, ◌≤◌, List, [], ◌∷◌, length}
use Rattle.mufom_numbers.specs.declared.limits.TheConstants.{MOST_FILE_BYTES}
use Rattle.mufom_records.specs.declared.options.ReadOptions.{ReadOptions}
use Rattle.mufom_host.specs.World.{NamedFile, file_named}
use Rattle.mufom_module.specs.Grammar.{AreWhole, IsCutInto, IsPart}
use Rattle.mufom_module.specs.RecordParts.{Part, opens_items}
use Rattle.mufom_module.specs.SpelledRecords.{SpelledRecord}
use Rattle.mufom_module.proofs.GnuLaws.{plain-gnu, plainly}
use Rattle.mufom_module.proofs.OneModule.{one_module}
use Rattle.mufom_module.specs.Written.{written}
use Rattle.mufom_module.specs.declared.module.Parts.{Parts}
use Rattle.mufom_write.proofs.CutFile.{IsFittingModule, cut, file_of}
use Rattle.mufom_write.proofs.Fitting.{IsInside, inside_module, loads-placed, module-fits}
use Rattle.mufom_write.proofs.NamingFile.{has-names}
use Rattle.mufom_write.proofs.Stated.{states}
use Rattle.mufom_judging.specs.Judging.{IsModule}
use Rattle.mufom_meaning.specs.declared.located.Run.{Run}
use Rattle.mufom_titxt.specs.TextModules.{HaveModule, HaveText, text_parts}
use Rattle.mufom_task.specs.Inputs.{ComeTo, accepted}
use Rattle.mufom_works.specs.Works.{IsHeld}
use Rattle.mufom_run_laws.proofs.TextHeld.{text-held}
use Rattle.mufom_headline.proofs.Places.{accepted-alone}

-- ---- its file

-- the records of a part are the same if the debug part is skipped
skipped-records : (items : Bool) (records : List SpelledRecord) (after : List ℕ) → AreWhole (plainly true) items records after
    → AreWhole (plainly false) items records after
skipped-records items [] after are = tt
skipped-records items (p ∷ records) after are = (are.0, skipped-records (opens_items p.row) records after are.1)

skipped-part : (part : Part) (records : List SpelledRecord) (after : List ℕ) → IsPart (plainly true) part records after
    → IsPart (plainly false) part records after
skipped-part part records after is = record { are_whole = skipped-records false records after is.are_whole; own = is.own }

module _ (maus : ℕ) (runs : List Run) (low : 1 ≤ maus) (high : maus ≤ 8) (h : HaveModule (8 * maus) runs) (t : HaveText (8 * maus) runs)
    (few : length (written (text_parts maus runs)) ≤ MOST_FILE_BYTES) where
  abbrev m : Parts
  m = text_parts maus runs

  held : IsHeld (text_parts maus runs)
  held = text-held maus runs low high h t

  fits : IsFittingModule (text_parts maus runs)
  fits = module-fits m held.valid held.made

  inside : IsInside (text_parts maus runs)
  inside = inside_module m held.valid

  cut-into : (debug : Bool) → IsCutInto (written (text_parts maus runs)) (plainly debug) (file_of (text_parts maus runs))
  cut-into true = cut m fits few
  cut-into false =
      let read = cut m fits few in record {
        all = read.all;
        limit = read.limit;
        header = read.header;
        offsets = read.offsets;
        sections = skipped-part _ _ _ read.sections;
        externals = skipped-part _ _ _ read.externals;
        debug = skipped-part _ _ _ read.debug;
        debug_read = refl;
        loads = skipped-part _ _ _ read.loads;
        trailer = skipped-part _ _ _ read.trailer;
      }

  text-plain : (debug : Bool) → IsModule (plainly debug) (written (text_parts maus runs)) (text_parts maus runs)
  text-plain debug = (file_of m, cut-into debug, has-names m fits inside (loads-placed m held.valid), states m fits inside, held.valid)

  text-read : (debug gnu : Bool) → IsModule (record { debug = debug; gnu = gnu }) (written (text_parts maus runs)) (text_parts maus runs)
  text-read debug false = text-plain debug
  text-read debug true = plain-gnu debug (text_parts maus runs) (written (text_parts maus runs)) (text-plain debug)

  pub text-is-module : (options : ReadOptions) → IsModule options (written (text_parts maus runs)) (text_parts maus runs)
  text-is-module options = text-read options.debug options.gnu

  -- the file alone is accepted
  pub text-accepted : (options : ReadOptions) (roots : ℕ) (files : List NamedFile) (name : List ℕ)
      → file_named name files ≡ Some (written (text_parts maus runs))
      → ComeTo options roots files (name ∷ []) (accepted (text_parts maus runs ∷ []))
  text-accepted options roots files name there =
      accepted-alone options (written m) m (text-is-module options) (λ n other. one_module n m (written m) options other (text-is-module options))
      roots files name there few
