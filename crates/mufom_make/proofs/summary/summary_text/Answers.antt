use Rattle.std.proofs.Common.{◌≡◌, ◌++◌, ◌∙◌, ℕ, List, length, sum, sum_by, codes, ap, append_assoc, Vec, Global}
use Rattle.std.specs.Fmt.{decimal}
use Rattle.mufom_meaning.specs.declared.located.LocatedParts.{LocatedParts}
use Rattle.mufom_meaning.specs.declared.located.Run.{Run}
use Rattle.mufom_make.proofs.RunLaws.{bounded}
use Rattle.mufom_make.proofs.summary.summary_text.Goals as goal

pub byte_count-bytes-requires : goal.byte_count-bytes-requires
byte_count-bytes-requires c =
    bounded c.args.located.now c.as_slice-runs.result.now (c.as_slice-runs.ensures
    ∙ ap (λ (r : LocatedParts). r.runs) c.parts-parts.ensures.same) c.parts-parts.ensures.located

pub run_sum-sum-requires : goal.run_sum-sum-requires
run_sum-sum-requires c =
    bounded c.args.located.now c.as_slice-runs.result.now (c.as_slice-runs.ensures
    ∙ ap (λ (r : LocatedParts). r.runs) c.parts-parts.ensures.same) c.parts-parts.ensures.located

-- as the chunks are written, one after another
written : List ℕ → List ℕ → List ℕ → List ℕ → List ℕ
written m p b s = codes "modules " ++ (m ++ (codes "\npublics " ++ (p ++ (codes "\nbytes " ++ (b ++ (codes "\nsum " ++ (s ++ codes "\n")))))))

regroup : (m p b s : List ℕ) → written m p b s ≡ codes "modules " ++ m ++ codes "\npublics " ++ p ++ codes "\nbytes " ++ b ++ codes "\nsum " ++ s ++ codes "\n"
unfolding written
regroup m p b s = simp append_assoc

pub returns : goal.returns
unfolding written
returns c =
    let same = c.parts-parts.ensures.same in
    let publics = c.len-publics.ensures ∙ ap (λ (r : LocatedParts). length r.publics) same in
    let runs = c.as_slice-runs.ensures ∙ ap (λ (r : LocatedParts). r.runs) same in
    let bytes = c.byte_count-bytes.ensures ∙ ap (λ (runs : List Run). sum_by (λ (run : Run). length run.bytes) runs) runs in
    let total = c.run_sum-sum.ensures ∙ ap (λ (runs : List Run). sum_by (λ (run : Run). sum run.bytes) runs) runs in
    ap (λ (v : Vec ℕ Global). v.items) c.into_bytes.ensures.value ∙ c.in_ok-text.ensures.ok
    ∙ (λ i. written (decimal c.args.count) (decimal (publics i)) (decimal (bytes i)) (decimal (total i))) ∙ regroup _ _ _ _
