-- Runs of loaded bytes.
use Rattle.std.specs.Prelude.{ℕ, ◌+◌, length}
use Rattle.mufom_meaning.specs.declared.located.Run.{Run}

-- the address after the last byte of a run
abbrev pub run_end : Run → ℕ
run_end run = run.address + length run.bytes
