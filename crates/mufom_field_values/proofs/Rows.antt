-- Worked fields: which one is at an address, its value, and the names in it, once each.
use Rattle.std.proofs.Common.{◌≡◌, [], ◌∷◌, ◌++◌, Some, None, false, refl}
use Rattle.std.specs.Prelude.{codes}
use Rattle.std.specs.Fmt.{digits}
use Rattle.hex.proofs.OnLiterals.{hex_on_literals}
use Rattle.mufom_expr.specs.declared.token.Letter.TheVariants.{I, P, R, S, X}
use Rattle.mufom_expr.specs.Tree.{variable, two, number, plus, times, divided}
use Rattle.mufom_expr.specs.declared.token.FieldKind.TheVariants.{Unsigned}
use Rattle.mufom_loads.specs.declared.load.Item.TheVariants.{Field, Literal}
use Rattle.mufom_loads.specs.declared.load.Load.TheVariants.{SetSection, SetPc, One, Repeat}
use Rattle.mufom_module.specs.declared.module.Order.TheVariants.{Most}
use Rattle.mufom_module.specs.declared.module.Parts.{Parts}
use Rattle.mufom_plan.specs.declared.plan.Plan.{Plan}
use Rattle.mufom_text.specs.Words.{line}
use Rattle.mufom_meaning.specs.Steps.{counter}
use Rattle.mufom_meaning.specs.Values.{value_within}
use Rattle.mufom_field_values.specs.Fields.{field_of}
use Rattle.mufom_field_values.specs.Lines.{value_lines}

-- a section, a public and a reference
abbrev linked : Parts
linked = record {
  processor = [];
  name = codes "a";
  maus = 4;
  order = Most;
  ext = [];
  env = [];
  sections = record { name = codes "t"; absolute = false; purpose = None; size = 4; align = 1; base = None } ∷ [];
  names = record {
    publics = record { name = codes "g"; value = variable R 0; notes = [] } ∷ [];
    references = record { name = codes "far"; weak = None; notes = [] } ∷ [];
  };
  debug = [];
  loads = [];
  start = None;
}

far_is : value_lines linked (two plus (variable X 0) (variable R 0))
    ≡ line (codes "value: (X0 + R0)") ++ line (codes "  X0: \"far\"") ++ line (codes "  R0: \"t\"")
unfolding hex_on_literals digits
far_is = refl

-- a variable that is mentioned twice has one line, at its first place
once_is : value_lines linked (two plus (variable P 0) (two plus (variable I 0) (two times (variable P 0) (variable S 0))))
    ≡ line (codes "value: (P0 + (I0 + (P0 * S0)))") ++ line (codes "  P0: \"t\"") ++ line (codes "  I0: \"g\"") ++ line (codes "  S0: \"t\"")
unfolding hex_on_literals digits
once_is = refl

number_is : value_lines linked (two divided (number 7) (number 0)) ≡ line (codes "value: (7 / 0)")
unfolding hex_on_literals digits
number_is = refl

-- ---- which field is at an address

abbrev plan : Plan
plan = record {
  regions = record { name = codes "r"; base = 256; size = 64; sections = codes "t" ∷ []; common = false; load = None } ∷ [];
  symbols = [];
  keep = [];
}

-- a byte and a field, and behind them, from an address that is set, copies of a byte and a field
abbrev loaded : Parts
loaded = record linked {
  loads = SetSection 0 ∷ One (Literal (1 ∷ [])) ∷ One (Field Unsigned 1 (two plus (variable X 0) (variable R 0)))
      ∷ SetPc 0 (two plus (variable R 0) (number 3)) ∷ Repeat 2 (Literal (2 ∷ []) ∷ Field Unsigned 1 (number 7) ∷ []) ∷ [];
}

first_is : field_of loaded loaded plan 0 257 ≡ Some (two plus (variable X 0) (variable R 0))
unfolding counter value_within
first_is = refl

repeated_is : field_of loaded loaded plan 0 262 ≡ Some (number 7)
unfolding counter value_within
repeated_is = refl

-- a byte is no field, and another section has none
byte_is : field_of loaded loaded plan 0 256 ≡ None
unfolding counter value_within
byte_is = refl

other_is : field_of loaded loaded plan 1 257 ≡ None
unfolding counter value_within
other_is = refl

-- the module before a name of the plan is linked with it: the field stands at the same place, and its own expression is shown
abbrev named : Parts
named = record loaded {
  loads = SetSection 0 ∷ One (Literal (1 ∷ [])) ∷ One (Field Unsigned 1 (two plus (variable I 1) (variable R 0)))
      ∷ SetPc 0 (two plus (variable R 0) (number 3)) ∷ Repeat 2 (Literal (2 ∷ []) ∷ Field Unsigned 1 (number 7) ∷ []) ∷ [];
}

shown_is : field_of named loaded plan 0 257 ≡ Some (two plus (variable X 0) (variable R 0))
unfolding counter value_within
shown_is = refl
