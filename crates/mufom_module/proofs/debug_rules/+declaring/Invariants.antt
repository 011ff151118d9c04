use Rattle.std.proofs.Common.{◌≡◌, ℕ, drop}
use Rattle.mufom_debug.specs.Marks.{marks_of}
use Rattle.mufom_module.specs.Defects.{declared_after}
use Rattle.mufom_module.specs.Weights.{capped}
use Rattle.mufom_module.proofs.debug_rules.+declaring.Given as goal

-- given what is declared so far, the remaining items decide
abbrev pub invariant-all_declare-loop-item : goal.invariant-all_declare-loop-item
invariant-all_declare-loop-item l = (n : ℕ) → capped n ≡ l.fn.declared
    → (k : ℕ) × (capped k ≡ l.declared) × (declared_after n (marks_of l.items) ≡ declared_after k (marks_of (drop l.item-index l.items)))
