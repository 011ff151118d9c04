-- The raw image of loaded bytes: one byte for each address from the first that is loaded to the last.
use Rattle.std.specs.Prelude.{ℕ, ◌-◌, List, [], ◌∷◌, ◌++◌, replicate}
use Rattle.mufom_meaning.specs.declared.located.Run.{Run}
use Rattle.mufom_meaning.specs.Runs.{run_end}

-- the address of the first run, or 0 if there is none
abbrev pub first_address : List Run → ℕ
first_address [] = 0
first_address (run ∷ runs) = run.address

-- the bytes from the address `end` to the end of the last run: those of the runs, and `fill` at each address between them
abbrev pub runs_from : ℕ → ℕ → List Run → List ℕ
runs_from fill end [] = []
runs_from fill end (run ∷ runs) = (replicate (run.address - end) fill ++ run.bytes) ++ runs_from fill (run_end run) runs

-- The bytes of the runs, in the order of their addresses, with `fill` at each address between them.
abbrev pub raw_image : ℕ → List Run → List ℕ
raw_image fill runs = runs_from fill (first_address runs) runs
