use Rattle.mufom_build.proofs.Drafts.{public_noted}
use Rattle.mufom_build.proofs.draft.Draft.note_public.Goals as goal

pub returns-in_ok-push-2 : goal.returns-in_ok-push-2
returns-in_ok-push-2 c = public_noted c.args.self.now _ c.pop.new.self c.in-Some.public _ c.args.note c.requires c.in-Some.ensures.last
    c.in_ok-push-2.ensures.ok c.in_ok-push.ensures.ok
