-- The effect of printing through a page.
use Rattle.std.specs.Prelude.{◌≡◌, ℕ, ◌≤◌, Bool, true, false, List, ◌++◌, Option}
use Rattle.mufom_host.specs.World.{Meaning, Faults, GrowsBy, GrowsByPrefix, KeepsAllButOut, KeepsAllButWrites, Rose}

-- The output grows by some bytes; these and the bytes that are then held are the bytes that were held before and the text.
abbrev pub HoldsOn : Option (List ℕ) → Option (List ℕ) → List ℕ → List ℕ → List ℕ → Type 0
HoldsOn before after held holds text = (printed : List ℕ) × GrowsBy before after printed × (printed ++ holds ≡ held ++ text)

-- The effect of adding text to a page that held the bytes `held` before and holds `holds` after it. `had` and `has` say whether a print had failed
-- before, and has failed after it. If none has, the text is printed or held; if one fails now, a prefix of the held bytes and the text is printed; if
-- one had failed before, nothing is printed.
abbrev pub Adds : Meaning → Meaning → Faults → Faults → List ℕ → List ℕ → Bool → Bool → List ℕ → Type 0
Adds old new before now held holds false false text = HoldsOn old.out new.out held holds text
Adds old new before now held holds false true text = GrowsByPrefix old.out new.out (held ++ text) × Rose before.writes now.writes
Adds old new before now held holds true false text = ⊥
Adds old new before now held holds true true text = new.out ≡ old.out

-- Text is added to a page. Nothing outside changes except the output and the count of failed writes.
pub record Puts (old new : Meaning) (before now : Faults) (held holds : List ℕ) (had has : Bool) (text : List ℕ) : Type 0 where
  pub added : Adds old new before now held holds had has text
  pub stays : KeepsAllButOut old new
  pub counts : KeepsAllButWrites before now
  pub later : before.writes ≤ now.writes
