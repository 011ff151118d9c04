use Rattle.std.proofs.Common.{◌≡◌, sym, ◌∙◌, ap, refl, ◌++◌, ◌∷◌, [], Some, None}
use Rattle.mufom_archive.specs.Entries.{entry_of}
use Rattle.mufom_archive.specs.Reading.{table_with}
use Rattle.mufom_archive.proofs.StepLaws.{finished, known_as, unfinished}
use Rattle.mufom_archive.proofs.archive.Archive.take_header.Goals as goal

pub returns-in-None-clause-read : goal.returns-in-None-clause-read
returns-in-None-clause-read c = λ stream k.
    let p = c.in_ok-pass.ensures in
    let bytes = c.args.bytes.now in
    let old = c.args.self.now in
    let joined : c.try_extend_from_slice.new.self.items ≡ old.header.items ++ bytes = c.in-Ok.ensures.ok ∙ ap (λ h. h.items ++ bytes) p.header in
    let header : c.deref.result.now ≡ old.header.items ++ bytes = c.deref.ensures.0 ∙ joined in
    let same : entry_of c.pass.new.self.next c.deref.result.now ≡ entry_of old.next (old.header.items ++ bytes) = λ i. entry_of (p.next i) (header i) in
    let none : entry_of old.next (old.header.items ++ bytes) ≡ None = sym same ∙ sym c.in-None.ensures.entry in
    known_as (unfinished _ bytes _ _ _ _ _ _ k c.requires.pending c.requires.short c.requires.room none) refl p.length p.entries p.next joined p.table p.names

pub returns-in_ok-add-in-Some-clause-read : goal.returns-in_ok-add-in-Some-clause-read
returns-in_ok-add-in-Some-clause-read c = λ stream k.
    let p = c.in_ok-pass.ensures in
    let a = c.in_ok-add-in-Some.ensures in
    let bytes = c.args.bytes.now in
    let old = c.args.self.now in
    let e = c.in-Some.entry in
    let joined : c.try_extend_from_slice.new.self.items ≡ old.header.items ++ bytes = c.in-Ok.ensures.ok ∙ ap (λ h. h.items ++ bytes) p.header in
    let header : c.deref.result.now ≡ old.header.items ++ bytes = c.deref.ensures.0 ∙ joined in
    let same : entry_of c.pass.new.self.next c.deref.result.now ≡ entry_of old.next (old.header.items ++ bytes) = λ i. entry_of (p.next i) (header i) in
    let some : entry_of old.next (old.header.items ++ bytes) ≡ Some e = sym same ∙ sym c.in-Some.ensures.entry in
    known_as (finished _ bytes _ _ _ _ _ _ e k c.requires.pending c.requires.short c.requires.room some) refl
    (a.length ∙ p.length) (a.entries ∙ ap (λ l. l ++ e ∷ []) p.entries) a.next a.header (a.table ∙ ap (λ t. table_with t e) p.table)
    (ap (λ v. v.items) a.names ∙ p.names)
