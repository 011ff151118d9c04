-- The rest of the rows of an image is the next run with the gap before it, and the rows after it.
use Rattle.std.proofs.Common.{◌≡◌, ℕ, ◌+◌, ◌-◌, ◌<◌, List, ◌++◌, length, drop, get_or, replicate, sym, ap, ◌∙◌}
use Rattle.std.proofs.lemmas.List.{drop_more}
use Rattle.mufom_meaning.specs.declared.located.Run.{Run}
use Rattle.mufom_write.specs.Raw.{runs_from}
use Rattle.mufom_meaning.specs.Runs.{run_end}

pub rows_next : (fill end : ℕ) (runs : List Run) (i : ℕ) (d run : Run) → i < length runs → run ≡ get_or runs i d
    → runs_from fill end (drop i runs) ≡ (replicate (run.address - end) fill ++ run.bytes) ++ runs_from fill (run_end run) (drop (i + 1) runs)
rows_next fill end runs i d run inside is =
    ap (runs_from fill end) (drop_more runs i d inside)
    ∙ ap (λ (r : Run). (replicate (r.address - end) fill ++ r.bytes) ++ runs_from fill (run_end r) (drop (i + 1) runs)) (sym is)
