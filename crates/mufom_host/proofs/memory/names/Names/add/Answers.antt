use Rattle.std.proofs.Common.{◌+◌, ◌<◌, ◌≤◌, length, refl, arith}
use Rattle.mufom_host.specs.Kept.{cut, name_weight}
use Rattle.mufom_host.proofs.KeptNames.{cut-push, name_weight-cut, names_with-fits, names_with-full}
use Rattle.mufom_host.proofs.memory.names.Names.add.Goals as goal
use Rattle.mufom_host.proofs.memory.names.Names.add.Goals.{then-free-lt8-via-then-free-lt8, then-free-lt8-via-else-free-lt8+then-free-name}

pub returns-then-free-lt8-clause-after : goal.returns-then-free-lt8-clause-after
returns-then-free-lt8-clause-after c =
    let s = c.self.inside in
    let name = c.args.name.now in
    let weight = name_weight-cut s.lengths.items s.bytes.items c.self.invariant.whole in
    let full : s.room < name_weight (cut s.lengths.items s.bytes.items) + (length name + 8) =
    elim c.then-free-lt8.branch [
      | then-free-lt8-via-then-free-lt8 w ↦ omega (arith, weight, w.if-free-lt8.true, c.len.ensures, c.len-2.ensures, s.bytes.ok.0, s.lengths.ok.0)
      | then-free-lt8-via-else-free-lt8+then-free-name w ↦ omega (
        arith,
        weight,
        w.if-free-lt8.false,
        w.if-free-name.true,
        c.len.ensures,
        c.len-2.ensures,
        s.bytes.ok.0,
        s.lengths.ok.0,
      )
    ] in
    rw (← c.self.view_is, c.if-not-self.false, names_with-full s.room (cut s.lengths.items s.bytes.items) name full) refl

pub returns-clause-after : goal.returns-clause-after
returns-clause-after c =
    let s = c.self.inside in
    let name = c.args.name.now in
    let weight = name_weight-cut s.lengths.items s.bytes.items c.self.invariant.whole in
    let fits : name_weight (cut s.lengths.items s.bytes.items) + (length name + 8) ≤ s.room =
    omega (arith, weight, c.if-free-lt8.false, c.if-free-name.false, c.len.ensures, c.len-2.ensures, s.bytes.ok.0, s.lengths.ok.0) in
    let added = c.extend_from_slice.ensures.succeeds (omega (
      arith,
      c.if-free-lt8.false,
      c.if-free-name.false,
      c.len.ensures,
      c.len-2.ensures,
      c.self.invariant.bytes_fit,
    )) in
    let bytes = rw added at c.extend_from_slice.ensures.items in
    rw (
      ← c.self.view_is,
      c.if-not-self.false,
      names_with-fits s.room (cut s.lengths.items s.bytes.items) name fits,
      bytes,
      c.push_reserved.ensures.items,
      cut-push s.lengths.items s.bytes.items name c.self.invariant.whole,
    ) refl
