use Rattle.std.proofs.Common.{◌≡◌, ◌∙◌, ◌*◌, List, [], sym, ap, subst, map}
use Rattle.std.specs.Prelude.{◌^◌}
use Rattle.mufom_names.specs.declared.name.Public.{Public}
use Rattle.mufom_module.specs.declared.module.Parts.{Parts}
use Rattle.mufom_module.specs.Defects.{IsValid}
use Rattle.mufom_planned.specs.PlanSymbols.{symbols_module, symbol_public}
use Rattle.mufom_planned.proofs.SymbolsModule.{symbols_valid}
use Rattle.mufom_locating.specs.Linked.{named_publics}
use Rattle.mufom_locating.proofs.LinkLaws.{made-module}
use Rattle.mufom_locating.proofs.symbols.symbols_module.Goals as goal

pub sound-requires : goal.sound-requires
sound-requires c =
    let numbers = c.requires.values.numbers in
    let made = made-module c.args.first.now numbers c.args.symbols.now c.args.values.now c.requires.values.are c.new-parts.result c.new-parts.ensures
    c.in_ok-parts.field-0 c.in_ok-parts.ensures in
    subst IsValid (sym made) (symbols_valid c.args.first.now c.requires.valid numbers c.args.symbols.now c.requires.short)

pub returns : goal.returns
returns c = λ numbers are.
    c.sound.ensures.same
    ∙ made-module c.args.first.now numbers c.args.symbols.now c.args.values.now are c.new-parts.result c.new-parts.ensures c.in_ok-parts.field-0 c.in_ok-parts.ensures
