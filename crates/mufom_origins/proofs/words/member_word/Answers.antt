use Rattle.std.proofs.Common.{List, ℕ, sym, subst}
use Rattle.mufom_origins.proofs.WordLaws.{member-parts}
use Rattle.mufom_origins.proofs.words.member_word.Goals as goal

pub returns : goal.returns
returns g c = let l = g.met.K.Output in
    subst (λ (t : List ℕ). g.K.Output.takes c.args.out.now c.put-3.new.self t) (sym (member-parts c.args.name.now c.args.member.now))
    (l.joins _ _ _ _ _ c.put.ensures (l.joins _ _ _ _ _ c.quoted_bytes.ensures (l.joins _ _ _ _ _ c.put-2.ensures
    (l.joins _ _ _ _ _ c.quoted_bytes-2.ensures c.put-3.ensures))))
