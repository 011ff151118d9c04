use Rattle.std.proofs.Common.{ℕ, List, map}
use Rattle.std.specs.String.{string_bytes}
use Rattle.mufom_host.specs.World.{Faults, Meaning}
use Rattle.mufom_words.specs.Answer.{answer_of}
use Rattle.mufom_task.specs.Calls.{Call, call_of}
use Rattle.mufom_command.proofs.AnswerLaws.{IsAnswered, answered, err-before, line-since}
use Rattle.mufom_command.proofs.HelpLaws.{never-lacks}
use Rattle.mufom_works.proofs.Runs.{answers-complete}
use Rattle.mufom_command.proofs.command.run.Goals as goal

pub returns : goal.returns
returns g c =
    let words : List (List ℕ) = map (λ word. string_bytes word) c.args.words.now in
    let old : Meaning = g.H.World.meaning c.args.host.now in let mid : Meaning = g.H.World.meaning c.answer-outcome.new.host in
    let new : Meaning = g.H.World.meaning c.print_error_line.new.host in
    let before : Faults = g.H.World.faults c.args.host.now in let between : Faults = g.H.World.faults c.answer-outcome.new.host in
    let now : Faults = g.H.World.faults c.print_error_line.new.host in
    let call : Call = call_of g.H.World.meaning g.H.World.faults c.args.host.now c.print_error_line.new.host in
    let is : IsAnswered words (answer_of words) old new before now c.print_error_line.result =
    answered words (answer_of words) old mid new before between now c.answer-outcome.result c.print_error_line.result c.print_error_line.ensures.same
    c.print_error_line.ensures.only c.answer-outcome.ensures.does in
    let stays = err-before words (answer_of words) old mid before between c.answer-outcome.result c.answer-outcome.ensures.does in
    record {
      answers = is.answers;
      complete = answers-complete words call c.print_error_line.result (g.H.World.together c.args.host.now).bytes is.answers;
      opens = is.opens;
      line = line-since old mid new before between now c.print_error_line.result stays.0 stays.1 c.print_error_line.ensures.line;
      counts = is.counts;
      memory = λ prints. never-lacks c.answer-outcome.result c.print_error_line.result c.print_error_line.ensures.same
          (c.answer-outcome.ensures.memory prints);
    }
