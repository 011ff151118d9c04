use Rattle.std.proofs.Common.{◌≡◌, ◌∙◌, List, None, Some, Option, ap, sym, ℕ}
use Rattle.std.specs.Prelude.{is_none}
use Rattle.std.specs.List.{find}
use Rattle.mufom_names.specs.Index.{Entry, position_of}
use Rattle.mufom_prune.proofs.NeedLaws.{unknown-found}
use Rattle.mufom_prune.proofs.pruning.check_names.Goals as goal

-- the first name that the index of the publics does not have
abbrev missing : List Entry → List (List ℕ) → Option (List ℕ)
missing publics names = find (λ name. is_none (position_of publics name)) names

pub returns-in_ok-copy_bytes-in-Some-clause-refused :
    goal.returns-in_ok-copy_bytes-in-Some-clause-refused
returns-in_ok-copy_bytes-in-Some-clause-refused c =
    let names : List (List ℕ) = c.args.names.now in
    let found : Some c.in-Some.name.now ≡ missing c.args.publics.now names = rw c.in-Some.is at c.first_unknown.ensures in
    sym (unknown-found c.args.parts.now names) ∙ ap (λ (es : List Entry). missing es names) (sym c.requires) ∙ sym found
    ∙ ap (λ (n : List ℕ). Some n) (sym c.in_ok-copy_bytes-in-Some.ensures)

pub returns-in-None-clause-known : goal.returns-in-None-clause-known
returns-in-None-clause-known c =
    let names : List (List ℕ) = c.args.names.now in
    let none : None ≡ missing c.args.publics.now names = rw c.in-None.is at c.first_unknown.ensures in
    sym (unknown-found c.args.parts.now names) ∙ ap (λ (es : List Entry). missing es names) (sym c.requires) ∙ sym none
