use Rattle.std.proofs.Common.{refl, sym}
use Rattle.mufom_host.proofs.KeptFiles.{file_named-none, file_named-some}
use Rattle.mufom_host.proofs.memory.files.Files.has.Goals as goal

pub returns-in_default : goal.returns-in_default
returns-in_default c =
    let none = file_named-none c.args.name.now c.self.inside.files (rw c.as_slice.ensures at (sym c.in_default.ensures)) in
    rw (← c.self.view_is, none) refl

pub returns : goal.returns
returns c =
    let found = file_named-some c.args.name.now c.self.inside.files c.in-Some.field-0 (rw c.as_slice.ensures at (sym c.in-Some.ensures)) in
    rw (← c.self.view_is, found) refl
