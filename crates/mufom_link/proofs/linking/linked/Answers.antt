use Rattle.std.proofs.Common.{sym, subst}
use Rattle.mufom_module.specs.declared.module.Parts.{Parts}
use Rattle.mufom_meaning.specs.Joined.{IsJoined}
use Rattle.mufom_link.proofs.RefusalLaws.{stands}
use Rattle.mufom_link.proofs.linking.linked.Goals as goal

pub sound-requires : goal.sound-requires
sound-requires c =
    (c.laws.ensures.valid c.in_ok-parts.parts c.args.list.items c.args.name.now c.in_ok-parts.ensures.joined c.in_ok-parts.ensures.valid).valid
    c.requires.conditions.short c.requires.conditions.light

pub returns : goal.returns
returns c =
    let ms = c.args.list.items in
    let name = c.args.name.now in
    let joined = subst (λ (M : Parts). IsJoined M ms name) (sym c.sound.ensures.same) c.in_ok-parts.ensures.joined in
    let its = stands ms c.sound.result c.in_ok-parts.parts name c.laws.ensures.stands c.laws.ensures.linkable c.requires.linkable c.sound.ensures.same
    c.in_ok-parts.ensures.joined c.in_ok-parts.ensures.valid in
    record {
      joined = joined;
      stands = its.0;
      sections = its.1;
      names = its.2;
      settled = its.3;
      weighs = (c.laws.ensures.valid c.sound.result ms name joined c.in_ok-parts.ensures.valid).weighs;
    }
