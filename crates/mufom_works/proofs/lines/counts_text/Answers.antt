use Rattle.std.proofs.Common.{◌≡◌, ◌++◌, ◌∷◌, [], length, codes, ap, ◌∙◌, append_assoc}
use Rattle.std.specs.Fmt.{decimal}
use Rattle.mufom_module.specs.declared.module.Parts.{Parts}
use Rattle.mufom_works.specs.Text.{Text, line}
use Rattle.mufom_works.proofs.lines.counts_text.Goals as goal

-- as the chunks are written, one after another
written : Text → Text → Text → Text → Text → Text
written s p r l d = codes ": sections " ++ (s ++ (codes " publics "
    ++ (p ++ (codes " references " ++ (r ++ (codes " loads " ++ (l ++ (codes " debug " ++ (d ++ 10 ∷ [])))))))))

regroup : (s p r l d : Text) → written s p r l d ≡ line (codes ": sections " ++ s ++ codes " publics " ++ p ++ codes " references " ++ r
    ++ codes " loads " ++ l ++ codes " debug " ++ d)
unfolding written
regroup s p r l d = simp append_assoc

pub returns : goal.returns
unfolding written
returns c =
    let same = c.parts-parts.ensures.same in
    let s = c.len-sections.ensures ∙ ap (λ (m : Parts). length m.sections) same in
    let p = c.len-publics.ensures ∙ ap (λ (m : Parts). length m.names.publics) same in
    let r = c.len-references.ensures ∙ ap (λ (m : Parts). length m.names.references) same in
    let l = c.len-loads.ensures ∙ ap (λ (m : Parts). length m.loads) same in
    let d = c.debug_total-debug.ensures in
    c.in_ok-format.ensures.ok ∙ (λ i. written (decimal (s i)) (decimal (p i)) (decimal (r i)) (decimal (l i)) (decimal (d i)))
    ∙ regroup _ _ _ _ _
