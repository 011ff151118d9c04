use Rattle.std.proofs.Common.{◌∙◌, ◌+◌, ap, sym, length, take, arith}
use Rattle.mufom_image_values.specs.Graph.{mentions_of}
use Rattle.mufom_image_values.specs.Circles.{Search, search_of, with_position}
use Rattle.mufom_image_values.proofs.SearchLaws.{followed-length}
use Rattle.mufom_image_values.proofs.TokenLoops.{follow-step, mention-at}
use Rattle.mufom_image_values.proofs.cycles.follow.Goals.{in-Some+in_ok-mark, in_default}
use Rattle.mufom_image_values.proofs.cycles.follow.Goals as goal

pub mark-requires : goal.mark-requires
mark-requires c =
    let inside = c.requires c.in-Some.next (mention-at c.args.graph.now.resolutions.now c.args.tokens.now c.loop-token.token-index _ c.in-Some.next
    c.loop-token-test.true (sym c.in-Some.is ∙ c.mentioned.ensures)) in
    omega (arith, inside, c.loop-token.invariant.1)

pub loop-token-preserved : goal.loop-token-preserved
loop-token-preserved c =
    let met = c.args.graph.now.resolutions.now in
    let tokens = c.args.tokens.now in
    let i = c.loop-token.token-index in
    let begun = search_of c.args.marks.now.items c.args.pending.now.items in
    elim c.match-mentioned.branch [
      | in-Some+in_ok-mark w ↦
          let marks = w.marks-is in
          let pending = w.pending-is in
          let all = (λ j. search_of (marks j).items (pending j).items)
          ∙ w.in_ok-mark.ensures
          ∙ ap (λ s. with_position s w.in-Some.next) c.loop-token.invariant.0
          ∙ sym (follow-step met tokens i _ begun _ c.loop-token-test.true (sym w.in-Some.is ∙ c.mentioned.ensures)) in
          (all, ap (λ (s : Search). length s.marks) all ∙ followed-length (mentions_of met (take (i + 1) tokens)) begun)
      | in_default w ↦
          let marks = w.marks-is in
          let pending = w.pending-is in
          let all = (λ j. search_of (marks j).items (pending j).items)
          ∙ c.loop-token.invariant.0
          ∙ sym (follow-step met tokens i _ begun _ c.loop-token-test.true (sym w.in_default.is ∙ c.mentioned.ensures)) in
          (all, ap (λ (s : Search). length s.marks) all ∙ followed-length (mentions_of met (take (i + 1) tokens)) begun)
    ]
