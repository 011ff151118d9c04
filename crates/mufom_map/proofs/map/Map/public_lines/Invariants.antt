use Rattle.std.proofs.Common.{ℕ, take, flat_map}
use Rattle.mufom_meaning.specs.declared.located.PublicValue.{PublicValue}
use Rattle.mufom_map.specs.Mapped.{mapped_public}
use Rattle.mufom_map.specs.MapText.{public_line}
use Rattle.mufom_map.proofs.OrderedLaws.{ordered}
use Rattle.mufom_map.proofs.map.Map.public_lines.Given as goal

abbrev pub invariant-loop-position : goal.invariant-loop-position
invariant-loop-position g l = g.K.Output.takes l.fn.out l.out
    (flat_map (λ p. public_line l.self.entries.maus (mapped_public l.self.entries.origins.now p))
    (take l.position-index (ordered (λ (p : ℕ × PublicValue). p.1.value) l.self.entries.publics.now)))
