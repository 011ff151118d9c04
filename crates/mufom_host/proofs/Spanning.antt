-- Calls of one kind in a row: before the first call, and after one more.
use Rattle.std.proofs.Common.{refl, ℕ, List, [], ◌++◌, take, Ok, arith}
use Rattle.mufom_host.specs.World.{Meaning, Faults, HasCause, Reads, Writes, Grows, KeepsAllButReads, KeepsAllButWrites, KeepsAllButLeft}
use Rattle.mufom_host.specs.World.{KeepsAllButMaking, KeepsAllButOut}
use Rattle.mufom_host.specs.Spans.{AfterReads, AfterWrites, AfterPrints}
use Rattle.mufom_host.proofs.Composing.{ReadsOff-refl, ReadsOff-trans, ReadsOff-read, MakingGrowsBy-refl, MakingGrowsBy-trans, GrowsBy-refl}
use Rattle.mufom_host.proofs.Composing.{GrowsBy-trans, KeepsAllButReads-trans, KeepsAllButWrites-trans, KeepsAllButLeft-trans}
use Rattle.mufom_host.proofs.Composing.{KeepsAllButMaking-trans, KeepsAllButOut-trans}

pub AfterReads-start : (m : Meaning) (f : Faults) → AfterReads m m f f []
AfterReads-start m f = record { taken = ReadsOff-refl m.left; stays = refl; later = omega arith; counts = refl }

pub AfterWrites-start : (m : Meaning) (f : Faults) → AfterWrites m m f f []
AfterWrites-start m f = record { added = MakingGrowsBy-refl m.making; stays = refl; later = omega arith; counts = refl }

pub AfterPrints-start : (m : Meaning) (f : Faults) → AfterPrints m m f f []
AfterPrints-start m f = record { added = GrowsBy-refl m.out; stays = refl; later = omega arith; counts = refl }

module _ (a b c : Meaning) (f g h : Faults) (bytes : List ℕ) where
  pub AfterReads-read : (n : ℕ) (buffer : List ℕ) → AfterReads a b f g bytes
      → Reads b.left c.left (Ok n) buffer → KeepsAllButLeft b c → HasCause {T = ℕ} g.reads h.reads (Ok n) → KeepsAllButReads g h
      → AfterReads a c f h (bytes ++ take n buffer)
  AfterReads-read n buffer so_far reads stays cause counts = record {
    taken = ReadsOff-trans a.left b.left c.left bytes (take n buffer) so_far.taken (ReadsOff-read b.left c.left n buffer reads);
    stays = KeepsAllButLeft-trans a b c so_far.stays stays;
    later = omega (arith, so_far.later, cause.later);
    counts = KeepsAllButReads-trans f g h so_far.counts counts;
  }

  pub AfterWrites-write : (n : ℕ) (chunk : List ℕ) → AfterWrites a b f g bytes
      → Writes b.making c.making (Ok n) chunk → KeepsAllButMaking b c → HasCause {T = ℕ} g.writes h.writes (Ok n) → KeepsAllButWrites g h
      → AfterWrites a c f h (bytes ++ take n chunk)
  AfterWrites-write n chunk so_far writes stays cause counts = record {
    added = MakingGrowsBy-trans a.making b.making c.making bytes (take n chunk) so_far.added writes.0;
    stays = KeepsAllButMaking-trans a b c so_far.stays stays;
    later = omega (arith, so_far.later, cause.later);
    counts = KeepsAllButWrites-trans f g h so_far.counts counts;
  }

  pub AfterPrints-print : (text : List ℕ) → AfterPrints a b f g bytes
      → Grows b.out c.out (Ok tt) text → KeepsAllButOut b c → HasCause {T = Unit {0}} g.writes h.writes (Ok tt) → KeepsAllButWrites g h
      → AfterPrints a c f h (bytes ++ text)
  AfterPrints-print text so_far grows stays cause counts = record {
    added = GrowsBy-trans a.out b.out c.out bytes text so_far.added grows;
    stays = KeepsAllButOut-trans a b c so_far.stays stays;
    later = omega (arith, so_far.later, cause.later);
    counts = KeepsAllButWrites-trans f g h so_far.counts counts;
  }
