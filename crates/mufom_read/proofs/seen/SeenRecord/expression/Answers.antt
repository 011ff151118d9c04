use Rattle.std.proofs.Common.{◌≡◌, ◌∙◌, ap, Option, Some}
use Rattle.std.specs.Prelude.{option_map}
use Rattle.mufom_numbers.specs.declared.taken.Span.{Span}
use Rattle.mufom_expr.specs.Tree.{Tree}
use Rattle.mufom_records.specs.Parts.{expression_of}
use Rattle.mufom_module.specs.SpelledRecords.{text_in, tree_in}
use Rattle.mufom_read.specs.Kept.{record_of_seen}
use Rattle.mufom_read.proofs.TreeLaws.{tokens-there, tree-of_tokens}
use Rattle.mufom_read.proofs.seen.SeenRecord.expression.Goals as goal

pub returns-in_ok-tree-in-Some : goal.returns-in_ok-tree-in-Some
returns-in_ok-tree-in-Some c =
    let it = c.args.self.now in
    let p = record_of_seen it in
    let span = c.in-Some.field-0 in
    let tokens = it.tokens.now in
    let same : Some span ≡ expression_of it.row.now = c.in-Some.ensures in
    let there = tokens-there it.bytes.now it.row.now tokens (Some span) c.requires same in
    ap (λ (t : Tree). Some t) (tree-of_tokens c.in_ok-tree-in-Some.tree (text_in p span) tokens c.in_ok-tree-in-Some.ensures there)
    ∙ ap (λ (o : Option Span). option_map (tree_in p) o) same
