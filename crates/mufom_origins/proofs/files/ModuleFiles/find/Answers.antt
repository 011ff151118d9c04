use Rattle.std.proofs.Common.{ℕ, ◌+◌, drop, Some, sym, ap, ◌∙◌, arith}
use Rattle.mufom_origins.specs.Words.{file_at, listed_files}
use Rattle.mufom_origins.proofs.WordLaws.{files-from, own-get, own-past}
use Rattle.mufom_origins.proofs.files.ModuleFiles.find.Goals as goal

pub returns-then-rest-file : goal.returns-then-rest-file
returns-then-rest-file c =
    let items = c.as_slice-file-items.result.now in let i = c.loop-file.file-index in let rest = c.loop-file.rest in let f = c.file-item.result in
    ap (λ (k : ℕ). Some (file_at f k)) (omega arith) ∙ sym (own-get f 0 f.modules rest (listed_files (drop (i + 1) items)) c.if-rest-file.true)
    ∙ sym (files-from items i rest f c.loop-file-test.true c.file-item.is) ∙ c.loop-file.invariant

pub loop-file-preserved : goal.loop-file-preserved
loop-file-preserved c =
    let items = c.as_slice-file-items.result.now in let i = c.loop-file.file-index in let rest = c.loop-file.rest in let f = c.file-item.result in
    sym (own-past f 0 f.modules rest (listed_files (drop (i + 1) items)) c.if-rest-file.false)
    ∙ sym (files-from items i rest f c.loop-file-test.true c.file-item.is) ∙ c.loop-file.invariant
