use Rattle.std.proofs.Common.{◌≡◌, refl, sym, None}
use Rattle.mufom_host.specs.World.{file_named}
use Rattle.mufom_host.proofs.KeptFiles.{file_named-none, file_named-some}
use Rattle.mufom_host.proofs.memory.files.Files.open.Goals as goal
use Rattle.mufom_host.proofs.memory.files.Files.open.Goals.{In_default, In-Some}

none : (c : In_default) → file_named c.args.name.now c.self.inside.files ≡ None
none c = file_named-none c.args.name.now c.self.inside.files (rw c.as_slice.ensures at (sym c.in_default.ensures))

pub returns-in_default-clause-answer : goal.returns-in_default-clause-answer
returns-in_default-clause-answer c = rw (← c.self.view_is, none c) refl

pub returns-in_default-clause-after : goal.returns-in_default-clause-after
returns-in_default-clause-after c = rw (← c.self.view_is, none c) refl

pub returns-clause-answer : goal.returns-clause-answer
returns-clause-answer c =
    let found = file_named-some c.args.name.now c.self.inside.files c.in-Some.place (rw c.as_slice.ensures at (sym c.in-Some.ensures)) in
    rw (← c.self.view_is, found) refl

pub returns-clause-after : goal.returns-clause-after
returns-clause-after c =
    let found = file_named-some c.args.name.now c.self.inside.files c.in-Some.place (rw c.as_slice.ensures at (sym c.in-Some.ensures)) in
    rw (← c.self.view_is, found) refl
