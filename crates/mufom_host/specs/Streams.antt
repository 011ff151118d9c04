-- Passing bytes on to a writer, and taking bytes from a reader, whose contents may be known or not.
use Rattle.std.specs.Prelude.{◌≡◌, List, [], ℕ, ◌++◌, Option, Some, Result, Ok, Err, IfSome}
use Rattle.mufom_host.specs.World.{GrowsBy, GrowsByPrefix, StaysKnown, TakesPrefix}

-- the writer holds all of the bytes behind what it held; after an error, a prefix of them
abbrev pub PassesOn : {T E : Type 0} → Option (List ℕ) → Option (List ℕ) → Result T E → List ℕ → Type 0
PassesOn before after (Ok done) bytes = GrowsBy before after bytes
PassesOn before after (Err e) bytes = GrowsByPrefix before after bytes

-- The writer and the gathered bytes hold all of the bytes behind what they held together. After an error, the writer holds a prefix of the gathered
-- bytes and these ones behind what it held.
abbrev pub Gathers : {T E : Type 0} → Option (List ℕ) → List ℕ → Option (List ℕ) → List ℕ → Result T E → List ℕ → Type 0
Gathers before gathered after left (Ok done) bytes =
    IfSome before (λ old. (held : List ℕ) × (after ≡ Some held) × (held ++ left ≡ old ++ (gathered ++ bytes)))
Gathers before gathered after left (Err e) bytes = GrowsByPrefix before after (gathered ++ bytes)

-- The reader's next bytes are copied to the start of the buffer. After an error, nothing is taken.
abbrev pub TakesFrom : {E : Type 0} → Option (List ℕ) → Option (List ℕ) → Result ℕ E → List ℕ → Type 0
TakesFrom before after (Ok n) buffer = IfSome before (λ left. TakesPrefix left after n buffer)
TakesFrom before after (Err e) buffer = StaysKnown before after
