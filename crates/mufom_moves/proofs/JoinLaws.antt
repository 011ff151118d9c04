-- Runs that touch, as one run.
use Rattle.std.proofs.Common.{◌≡◌, ◌≢◌, ℕ, ◌+◌, ◌<◌, ◌≤◌, List, [], ◌∷◌, ◌++◌, length, refl, sym, ◌∙◌, ap, subst, arith}
use Rattle.std.proofs.Common.{append_assoc, append-nil, length-append}
use Rattle.mufom_meaning.specs.declared.located.Run.{Run}
use Rattle.mufom_meaning.specs.AddressMap.{cells_from, run_cells, AreApart}
use Rattle.mufom_meaning.specs.Runs.{run_end}
use Rattle.mufom_image_bytes.specs.Spread.{free_after}
use Rattle.mufom_image_bytes.proofs.ChunkLaws.{cells_from-append}
use Rattle.mufom_moves.specs.declared.joining.Joiner.{Joiner}
use Rattle.mufom_moves.specs.Joined.{HasBytes, AreTouching, bytes_of, joined_run, joiner_cells, IsJoining}
use Rattle.mufom_moves.proofs.PieceLaws.{run_cells-append, run_cells-push}

-- ---- runs that touch

touching_cells : (start : ℕ) (runs : List Run) (end : ℕ) → AreTouching start runs end → cells_from start (bytes_of runs) ≡ run_cells runs
touching_cells start [] end h = refl
touching_cells start (run ∷ runs) end h =
    cells_from-append start run.bytes (bytes_of runs)
    ∙ ap (λ a. cells_from a run.bytes ++ cells_from (a + length run.bytes) (bytes_of runs)) (sym h.0)
    ∙ ap (λ rest. cells_from run.address run.bytes ++ rest) (touching_cells (run_end run) runs end h.2)

touching_end : (start : ℕ) (runs : List Run) (end : ℕ) → AreTouching start runs end → start + length (bytes_of runs) ≡ end
touching_end start [] end h = let same = h in omega (arith, same)
touching_end start (run ∷ runs) end h =
    let own = h.0 in let later = touching_end (run_end run) runs end h.2 in let both = length-append run.bytes (bytes_of runs) in
    omega (arith, own, later, both)

pub joined_cells : (start : ℕ) (runs : List Run) (end : ℕ) → AreTouching start runs end → run_cells (joined_run runs) ≡ run_cells runs
joined_cells start [] end h = refl
joined_cells start (run ∷ runs) end h =
    append-nil (cells_from run.address (bytes_of (run ∷ runs))) ∙ touching_cells run.address (run ∷ runs) end (refl, h.1, h.2)

touching-push : (start : ℕ) (runs : List Run) (end : ℕ) (run : Run) → AreTouching start runs end → end ≡ run.address → HasBytes run
    → AreTouching start (runs ++ run ∷ []) (run_end run)
touching-push start [] end run h at some = (sym (h ∙ at), some, refl)
touching-push start (first ∷ runs) end run h at some = (h.0, h.1, touching-push (run_end first) runs end run h.2 at some)

-- a single run
pub single_run : (run : Run) → run ∷ [] ≡ joined_run (run ∷ [])
single_run run = λ i. record { address = run.address; bytes = sym (append-nil run.bytes) i } ∷ []

-- ---- one run more

run-push : (from : ℕ) (runs : List Run) (run : Run) → AreApart from runs → free_after from runs ≤ run.address → 0 < length run.bytes
    → AreApart from (runs ++ run ∷ []) × (free_after from (runs ++ run ∷ []) ≡ run.address + length run.bytes + 1)
run-push from [] run h low some = ((low, some, tt {0}), refl)
run-push from (first ∷ runs) run h low some = let later = run-push (first.address + length first.bytes + 1) runs run h.2 low some in
    ((h.0, h.1, later.0), later.1)

-- the group is complete, and what follows it begins after a free address
closed : (joined group : List Run) (start end next : ℕ) → AreApart 0 joined → free_after 0 joined ≤ start → AreTouching start group end → end < next
    → AreApart 0 (joined ++ joined_run group) × (free_after 0 (joined ++ joined_run group) ≤ next)
closed joined [] start end next apart free h less =
    let same = h in let low : free_after 0 joined ≤ next = omega (arith, free, same, less) in
    subst (λ runs. AreApart 0 runs × (free_after 0 runs ≤ next)) (sym (append-nil joined)) (apart, low)
closed joined (run ∷ runs) start end next apart free h less =
    let own = h.0 in let some = h.1 in
    let long = touching_end start (run ∷ runs) end h in
    let both = length-append run.bytes (bytes_of runs) in
    let push = run-push 0 joined (record { address = run.address; bytes = bytes_of (run ∷ runs) }) apart (omega (arith, free, own))
    (omega (arith, some, both)) in
    let after = push.1 in
    (push.0, omega (arith, after, long, own, less))

-- ---- the steps of a joiner

pub finished : (j : Joiner) → IsJoining j → AreApart 0 (j.joined ++ joined_run j.group.items)
finished j h = (closed j.joined j.group.items h.start j.end (j.end + 1) h.apart h.free h.touching (omega arith)).0

pub closed_cells : (j : Joiner) → IsJoining j → run_cells (j.joined ++ joined_run j.group.items) ≡ joiner_cells j
closed_cells j h = run_cells-append j.joined (joined_run j.group.items)
    ∙ ap (λ rest. run_cells j.joined ++ rest) (joined_cells h.start j.group.items j.end h.touching)

-- another group begins
pub opened : (old new : Joiner) (address : ℕ) → IsJoining old → old.end ≤ address → old.end ≢ address
    → new.joined ≡ old.joined ++ joined_run old.group.items → new.group.items ≡ [] → new.end ≡ address
    → IsJoining new
opened old new address h after other joined group end =
    let less : old.end < address = omega (arith, after, other) in
    let own = closed old.joined old.group.items h.start old.end address h.apart h.free h.touching less in
    record {
      start = address;
      apart = subst (AreApart 0) (sym joined) own.0;
      free = subst (λ runs. free_after 0 runs ≤ address) (sym joined) own.1;
      touching = subst (λ runs. AreTouching address runs new.end) (sym group) (sym end);
    }

pub opened_cells : (old new : Joiner) → IsJoining old → new.joined ≡ old.joined ++ joined_run old.group.items → new.group.items ≡ []
    → joiner_cells new ≡ joiner_cells old
opened_cells old new h joined group =
    (λ i. run_cells (joined i) ++ run_cells (group i)) ∙ append-nil (run_cells (old.joined ++ joined_run old.group.items)) ∙ closed_cells old h

-- a run is added to the group
pub added : (old new : Joiner) (run : Run) → IsJoining old → old.end ≡ run.address → HasBytes run → new.joined ≡ old.joined
    → new.group.items ≡ old.group.items ++ run ∷ [] → new.end ≡ run_end run → IsJoining new
added old new run h at some joined group end = record {
  start = h.start;
  apart = subst (AreApart 0) (sym joined) h.apart;
  free = subst (λ runs. free_after 0 runs ≤ h.start) (sym joined) h.free;
  touching = subst (λ (x : List Run × ℕ). AreTouching h.start x.0 x.1) (λ i. (sym group i, sym end i))
      (touching-push h.start old.group.items old.end run h.touching at some);
}

pub added_cells : (old new : Joiner) (run : Run) → new.joined ≡ old.joined → new.group.items ≡ old.group.items ++ run ∷ []
    → joiner_cells new ≡ joiner_cells old ++ cells_from run.address run.bytes
added_cells old new run joined group =
    (λ i. run_cells (joined i) ++ run_cells (group i))
    ∙ ap (λ rest. run_cells old.joined ++ rest) (run_cells-push old.group.items run)
    ∙ sym (append_assoc (run_cells old.joined) (run_cells old.group.items) (cells_from run.address run.bytes))
