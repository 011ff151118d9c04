use Rattle.std.proofs.Common.{◌≡◌, ◌∷◌, ◌++◌, List, ℕ, [], length, take, drop, sym, ◌∙◌, ap, append_assoc}
use Rattle.mufom_loads.specs.declared.load.Item.TheVariants.{Literal}
use Rattle.mufom_loads.specs.declared.load.Load.{Load}
use Rattle.mufom_loads.specs.declared.load.Load.TheVariants.{One}
use Rattle.mufom_titxt.specs.TextModules.{literals}
use Rattle.mufom_titxt.proofs.LineLaws.{not_zero}
use Rattle.mufom_titxt.proofs.ModuleLaws.{literals-step}
use Rattle.mufom_titxt.proofs.module.add_literals.Goals as goal

-- a literal more
step : (loads : List Load) (part part_copy after rest : List ℕ) (n : ℕ) (next : List Load)
    → next ≡ loads ++ One (Literal part_copy) ∷ [] → part_copy ≡ part → part ≡ take n rest → after ≡ drop n rest
    → literals (length rest) rest ≡ One (Literal (take n rest)) ∷ literals (length (drop n rest)) (drop n rest)
    → next ++ literals (length after) after ≡ loads ++ literals (length rest) rest
step loads part part_copy after rest n next pushed copied front back e =
    ap (λ (l : List Load). l ++ literals (length after) after) pushed
    ∙ (append_assoc loads (One (Literal part_copy) ∷ []) (literals (length after) after)
    ∙ (ap (λ (p : List ℕ). loads ++ One (Literal p) ∷ literals (length after) after) (copied ∙ front)
    ∙ (ap (λ (p : List ℕ). loads ++ One (Literal (take n rest)) ∷ literals (length p) p) back
    ∙ ap (λ (l : List Load). loads ++ l) (sym e))))

pub loop-rest-preserved : goal.loop-rest-preserved
loop-rest-preserved c =
    step c.loop-rest.loads c.split_at.result.0.now c.in_ok-from_slice.field-0 c.split_at.result.1.now c.loop-rest.rest.now c.min.result c.push.new.self
    c.in_ok-push.ensures.ok c.in_ok-from_slice.ensures c.split_at.ensures.front c.split_at.ensures.back
    (literals-step c.min.result c.loop-rest.rest.now (not_zero (length c.loop-rest.rest.now) (sym c.is_empty.ensures ∙ c.loop-rest-test.true)) c.min.ensures)
    ∙ c.loop-rest.invariant
