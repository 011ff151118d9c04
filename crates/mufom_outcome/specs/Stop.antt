-- The errors that end a run before it has an output.
use Rattle.std.specs.Prelude.{ℕ, List}
use Rattle.mufom_words.specs.declared.stop.WordsStop.{WordsStop}
use Rattle.mufom_plan.specs.declared.refusal.PlanRefusal.{PlanRefusal}
use Rattle.mufom_read.specs.declared.refusal.ReadRefusal.{ReadRefusal}
use Rattle.mufom_refusals.specs.declared.text.TxtRefusal.{TxtRefusal}
use Rattle.mufom_refusals.specs.declared.build.BuildRefusal.{BuildRefusal}
use Rattle.mufom_meaning.specs.Facts.{LinkFact, LocateFact}
use Rattle.mufom_outcome.specs.declared.outcome.BinRefusal.{BinRefusal}

-- An error in the arguments; an error in the plan's file; an error in the file with this number; the file with this number, in which the total length
-- of the files exceeds the limit; a number of modules that is too great; a link error; a name that should be kept and that no public has; a name that a
-- symbol of the plan shares with a public; another error of locating, with the length of an address in units; an error in what `bin` writes; an error in
-- a TI-TXT text; or an error in a listing.
pub data Stop : Type 0 where
  words_refused : WordsStop → Stop
  plan_refused : PlanRefusal → Stop
  file_refused : ℕ → ReadRefusal → Stop
  past_limit : ℕ → Stop
  too_many_modules : ℕ → Stop
  link_fact : LinkFact → Stop
  keep_unknown : List ℕ → Stop
  name_shared : List ℕ → Stop
  locate_fact : ℕ → LocateFact → Stop
  bytes_refused : BinRefusal → Stop
  text_refused : TxtRefusal → Stop
  listing_refused : BuildRefusal → Stop
