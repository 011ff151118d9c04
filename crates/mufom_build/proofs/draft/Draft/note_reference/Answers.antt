use Rattle.mufom_build.proofs.Drafts.{reference_noted}
use Rattle.mufom_build.proofs.draft.Draft.note_reference.Goals as goal

pub returns-in_ok-push-2 : goal.returns-in_ok-push-2
returns-in_ok-push-2 c = reference_noted c.args.self.now _ c.pop.new.self c.in-Some.reference _ c.args.note c.requires c.in-Some.ensures.last
    c.in_ok-push-2.ensures.ok c.in_ok-push.ensures.ok
