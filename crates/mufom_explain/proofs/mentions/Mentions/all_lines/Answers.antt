use Rattle.std.proofs.Common.{◌≡◌, ◌<◌, ◌∙◌, List, length, vec_len, flat_map, get_or, sym, ap, subst, arith}
use Rattle.std.proofs.lemmas.List.{get_or-map, length-map}
use Rattle.mufom_text.proofs.Loops.{flat-end, flat-step}
use Rattle.mufom_explain.specs.declared.mention.Mention.{Mention}
use Rattle.mufom_explain.specs.Flat.{parts_of, wanted_names}
use Rattle.mufom_explain.specs.Mentions.{mention_line, mentions_of, name_lines}
use Rattle.mufom_explain.proofs.mentions.Mentions.all_lines.Goals as goal

pub loop-place-preserved : goal.loop-place-preserved
loop-place-preserved g c =
    let self = c.args.self.now in
    let items = self.wanted.names.items in let names = wanted_names self.wanted in let parts = parts_of self.flat.now in
    let i = c.loop-place.place in let item = c.index-name.result.now in let name = item.now in
    let count : vec_len self.wanted.names ≡ length items = grind arith in
    let long = length-map items (λ item. item.now) in
    let test = c.loop-place-test.true in let end = c.len-place-end.ensures in
    let inside : i < length items = omega (arith, test, end, count) in
    let within : i < length names = omega (arith, inside, long) in
    let same = get_or-map (λ item. item.now) items i item name inside in
    let is : name ≡ get_or names i name = ap (λ item. item.now) c.index-name.ensures ∙ sym same in
    let mentions : c.as_slice.result.now ≡ mentions_of parts name = c.as_slice.ensures ∙ c.index.ensures
    ∙ ap (λ (lists : List (List Mention)). get_or lists i c.index.result.now) self.told
    ∙ get_or-map (mentions_of parts) names i name c.index.result.now within ∙ ap (mentions_of parts) (sym is) in
    flat-step g.K.Output.takes g.met.K.Output.joins (name_lines parts) names i name name _ _ _ within is c.loop-place.invariant
    (subst (λ (ms : List Mention). g.K.Output.takes c.loop-place.out c.mention_lines.new.out (flat_map (mention_line name) ms))
    mentions c.mention_lines.ensures)

pub returns : goal.returns
returns g c =
    let self = c.args.self.now in
    let items = self.wanted.names.items in let names = wanted_names self.wanted in
    let count : vec_len self.wanted.names ≡ length items = grind arith in
    let long = length-map items (λ item. item.now) in
    let test = c.loop-place-test.false in let end = c.len-place-end.ensures in
    flat-end g.K.Output.takes g.met.K.Output.joins (name_lines (parts_of self.flat.now)) names c.loop-place.place _ _
    (omega (arith, test, end, count, long)) c.loop-place.invariant
