use Rattle.std.proofs.Common.{◌≡◌, ◌+◌, ◌≤◌, ◌++◌, length, drop}
use Rattle.mufom_expr.specs.TokenAt.{tokens_at}
use Rattle.mufom_records.specs.Reading.{tokens_from}
use Rattle.mufom_records.proofs.expression.read_tokens.Given as goal

-- the tokens from here on are what is left of all of them
abbrev pub invariant-loop-b : goal.invariant-loop-b
invariant-loop-b l = record {
  begun : l.start ≤ l.at;
  within : l.at ≤ length l.input;
  few : l.room + l.terms ≤ 255;
  count : length l.tokens + l.room ≡ 255;
  same : tokens_from l.room l.terms l.input l.at ≡ tokens_from 255 0 l.input l.start;
  kept : tokens_at 255 (drop l.start l.input) ≡ l.tokens ++ tokens_at l.room (drop l.at l.input);
}

abbrev pub decreases-loop-b : goal.decreases-loop-b
decreases-loop-b l = l.room
