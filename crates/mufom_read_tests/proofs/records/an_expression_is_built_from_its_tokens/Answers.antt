use Rattle.std.proofs.Common.{[], ◌∷◌, refl, inl, arith}
use Rattle.mufom_expr.specs.declared.token.Letter.TheVariants.{P, X}
use Rattle.mufom_expr.specs.Tree.{Tree, variable, two, minus}
use Rattle.mufom_expr.specs.Spelled.{SpellsTree}
use Rattle.mufom_read_tests.proofs.records.an_expression_is_built_from_its_tokens.Goals as goal

-- X 11, P 1, -
abbrev difference : Tree
difference = two minus (variable X 11) (variable P 1)

spelled : SpellsTree difference (0xD8 ∷ 0x0B ∷ 0xD0 ∷ 0x01 ∷ 0xA6 ∷ [])
spelled = (
  omega arith,
  (
    0xD8 ∷ 0x0B ∷ [],
    0xD0 ∷ 0x01 ∷ 0xA6 ∷ [],
    (omega arith, 0x0B ∷ [], inl (omega arith, refl, refl), refl),
    (0xD0 ∷ 0x01 ∷ [], 0xA6 ∷ [], (omega arith, 0x01 ∷ [], inl (omega arith, refl, refl), refl), (0xA6 ∷ [], [], refl, refl, refl), refl),
    refl,
  ),
)

pub postfix_of-requires : goal.postfix_of-requires
postfix_of-requires c = λ room. (difference, 0xD8 ∷ 0x0B ∷ 0xD0 ∷ 0x01 ∷ 0xA6 ∷ [], spelled, refl)
