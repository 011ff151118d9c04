use Rattle.std.proofs.Common.{◌∙◌}
use Rattle.mufom_build.specs.FirstWords.{keyword_of}
use Rattle.mufom_build_text.proofs.Loosely.{failed_bad}
use Rattle.mufom_build.proofs.Keywords.{any_line_read, line_shorter, no_line_read, no_word_told, same_word}
use Rattle.mufom_build.proofs.read_row.read_row.Goals as goal

pub returns-in_default : goal.returns-in_default
returns-in_default c = record {
  reads = λ s have. no_line_read s _ (λ j rest word. no_word_told j (c.in_default.ensures j rest (c.rest.ensures ∙ word))) c.bad.ensures;
  shorter = λ sound. absurd (failed_bad c.bad.ensures sound);
}

pub returns : goal.returns
returns c =
    let reads = any_line_read c.read_line.result (keyword_of c.in-Some.keyword) c.args.counts _ _ c.read_line.ensures.reads
    (λ j rest word. same_word (c.in-Some.ensures j rest (c.rest.ensures ∙ word))) in
    record { reads = reads; shorter = line_shorter c.read_line.result c.args.counts _ _ reads }
