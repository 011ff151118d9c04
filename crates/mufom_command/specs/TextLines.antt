-- The runs of a TI-TXT text, and the lines of one run.
use Rattle.std.specs.Prelude.{ℕ, ◌<◌, List, length}
use Rattle.mufom_meaning.specs.declared.located.Run.{Run}
use Rattle.mufom_titxt.specs.Written.{run_text}

-- the run has at least one byte
abbrev pub HasByte : Run → Type 0
HasByte run = 0 < length run.bytes

-- the lines of the run in a TI-TXT text
abbrev pub run_lines : Run → List ℕ
run_lines run = run_text run.address run.bytes
