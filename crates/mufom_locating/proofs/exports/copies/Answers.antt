use Rattle.std.proofs.Common.{[], ◌∷◌, ◌∙◌, subst, sym}
use Rattle.std.proofs.lemmas.List.Elements.{All-nil}
use Rattle.std.specs.Prelude.{All}
use Rattle.mufom_place.specs.Filling.{IsPlaceableCopy}
use Rattle.mufom_locating.proofs.ExportLaws.{no-copies}
use Rattle.mufom_locating.proofs.exports.copies.Goals as goal

pub returns-then-loads_in_place : goal.returns-then-loads_in_place
returns-then-loads_in_place c =
    let none = c.loads_in_place.ensures c.if-loads_in_place.true in
    record {
      copies = record {
        are = c.new.ensures ∙ no-copies (c.args.module.now ∷ []) c.args.plan.now none;
        placeable = subst (All (IsPlaceableCopy c.args.plan.now.regions)) (sym c.new.ensures) (All-nil (IsPlaceableCopy c.args.plan.now.regions));
      };
    }
