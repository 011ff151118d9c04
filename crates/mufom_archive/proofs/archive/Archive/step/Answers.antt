use Rattle.std.proofs.Common.{sym, ◌≡◌, ◌∙◌, ◌-◌, ◌≤◌, refl, ◌++◌, ap, take, length, arith}
use Rattle.std.proofs.lemmas.List.{length-take}
use Rattle.std.proofs.Math.Seq.{take-length}
use Rattle.mufom_archive.proofs.StepLaws.{front_again, known_as, passed, stopped}
use Rattle.mufom_archive.proofs.archive.Archive.step.Goals as goal

pub returns-then-self-clause-read : goal.returns-then-self-clause-read
returns-then-self-clause-read c = λ stream k.
    let p = c.in_ok-pass.ensures in
    let part = c.first_bytes-part.result.now in
    let bytes = c.args.bytes.now in
    let room = c.args.self.now.next - c.args.self.now.length in
    let is : part ≡ take room bytes = c.first_bytes-part.ensures in
    let front : part ≡ take (length part) bytes = is ∙ sym (front_again room bytes) ∙ ap (λ l. take (length l) bytes) (sym is) in
    let few : length part ≤ room = omega (arith, ap length is, length-take room bytes) in
    let ahead = c.if-self.true in
    known_as (passed _ part _ _ _ _ _ _ k (omega arith)) (ap (λ l. stream ++ l) front) p.length p.entries p.next (ap (λ h. h.items) p.header) p.table p.names

pub returns-then-missing-eq0-clause-read : goal.returns-then-missing-eq0-clause-read
returns-then-missing-eq0-clause-read c = λ stream k.
    let p = c.in_ok-pass-2.ensures in
    let bytes = c.args.bytes.now in
    let full : length c.args.self.now.header.items ≡ 60 = omega (arith, c.remaining_capacity-missing.ensures, c.if-missing-eq0.true) in
    known_as (stopped _ bytes _ _ _ _ _ _ k full) (ap (λ l. stream ++ l) (sym (take-length bytes))) p.length p.entries p.next
    (ap (λ h. h.items) p.header) p.table p.names

pub returns-clause-read : goal.returns-clause-read
returns-clause-read c = λ stream k.
    let part = c.first_bytes-part-2.result.now in
    let bytes = c.args.bytes.now in
    let missing = c.remaining_capacity-missing.result in
    let is : part ≡ take missing bytes = c.first_bytes-part-2.ensures in
    let front : part ≡ take (length part) bytes = is ∙ sym (front_again missing bytes) ∙ ap (λ l. take (length l) bytes) (sym is) in
    known_as (c.in_ok-take_header.ensures.read stream k) (ap (λ l. stream ++ l) front) refl refl refl refl refl refl
