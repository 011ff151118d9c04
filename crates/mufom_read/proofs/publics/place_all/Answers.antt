use Rattle.std.proofs.Common.{◌≡◌, ℕ, ◌+◌, ◌<◌, List, [], ◌∷◌, ◌++◌, length, map, take, drop, get_or, sym, ap, ◌∙◌, arith, length-drop}
use Rattle.std.specs.Prelude.{slice_set}
use Rattle.std.proofs.lemmas.List.{take_more, take_more_set, drop-set-lt, drop_more, map-append}
use Rattle.std.proofs.lemmas.Grind.{drop_more_same}
use Rattle.mufom_expr.specs.Spelled.{Indexes}
use Rattle.mufom_names.specs.declared.name.Public.{Public}
use Rattle.mufom_read.specs.Kept.{indexes_by}
use Rattle.mufom_read.specs.NamesSoFar.{placed_public}
use Rattle.mufom_read.proofs.publics.place_all.Goals as goal

-- one more public is placed
placed_more : (ix : Indexes) (before now : List Public) (i : ℕ) (none made : Public) → i < length now
    → take i now ≡ map (placed_public ix) (take i before) → drop i now ≡ drop i before → made ≡ placed_public ix (get_or now i none)
    → take (i + 1) (slice_set now i made) ≡ map (placed_public ix) (take (i + 1) before)
placed_more ix before now i none made within taken dropped is =
    let longer : i < length before = omega (arith, length-drop i now, length-drop i before, ap length dropped) in
    let same : get_or now i none ≡ get_or before i none =
    let here = drop_more now i none within in let there = drop_more before i none longer in cc in
    let passed = take_more before i none longer in
    take_more_set now i made within
    ∙ ap (λ (ps : List Public). ps ++ made ∷ []) taken
    ∙ ap (λ (p : Public). map (placed_public ix) (take i before) ++ p ∷ []) (is ∙ ap (placed_public ix) same)
    ∙ sym (ap (map (placed_public ix)) passed ∙ map-append (placed_public ix) (take i before) (get_or before i none ∷ []))

pub loop-public-preserved : goal.loop-public-preserved
loop-public-preserved c =
    let now = c.loop-public.public-items in
    let i = c.loop-public.public-index in
    let within : i < length now = omega (arith, c.loop-public-test.true, c.loop-public.auto.public-items) in
    let rest : drop (i + 1) (slice_set now i c.place.new.public) ≡ drop (i + 1) c.args.publics.items =
    drop-set-lt (i + 1) now i c.place.new.public (omega arith) ∙ drop_more_same now c.args.publics.items i c.loop-public.invariant.1 in (
      placed_more (indexes_by c.args.tables.now) c.args.publics.items now i c.public-item.result c.place.new.public within c.loop-public.invariant.0
          c.loop-public.invariant.1 c.place.ensures,
      rest,
    )
