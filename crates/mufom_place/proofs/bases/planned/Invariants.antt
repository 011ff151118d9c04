use Rattle.std.proofs.Common.{◌≡◌, ℕ, ◌<◌, None, take, get_or, vec_len}
use Rattle.mufom_place.specs.Bases.{placing_of}
use Rattle.mufom_place.proofs.bases.planned.Given as goal

abbrev pub invariant-loop-placing : goal.invariant-loop-placing
invariant-loop-placing l = record {
  count : vec_len l.planned ≡ l.count;
  value : (n : ℕ) → n < l.count → get_or l.planned.items n None ≡ placing_of (take l.placing-index l.placings) n;
}
