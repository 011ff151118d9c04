use Rattle.std.proofs.Common.{◌≡◌, ◌∙◌, ◌<◌, ℕ, ap, sym, subst, List, [], get_or, true, false, length, arith}
use Rattle.std.specs.Prelude.{Contains}
use Rattle.std.proofs.lemmas.List.{nil_from_length}
use Rattle.mufom_expr.specs.declared.token.Token.{Token}
use Rattle.mufom_image_values.specs.Graph.{mentions_of, edges}
use Rattle.mufom_image_values.specs.Circles.{Search, search_of, is_marked, followed}
use Rattle.mufom_image_values.proofs.SearchLaws.{IsSearching, begins, searches_on, searches_less, ends_search, left, fresh-marks, mark-there}
use Rattle.mufom_image_values.proofs.cycles.leads_back.Goals as goal

pub follow-requires : goal.follow-requires
follow-requires c n h =
    let met = c.args.graph.now.resolutions.now in
    let inside = c.requires.closed c.args.position n (subst (λ (ts : List Token). Contains (mentions_of met ts) n) c.tokens.ensures.tokens h) in
    omega (arith, inside, c.in_ok-marks.ensures.len, ap length c.publics.ensures)

pub loop-public-init : goal.loop-public-init
loop-public-init c =
    let met = c.args.graph.now.resolutions.now in
    let publics = c.args.graph.now.parts.now.names.publics in
    let count = length publics in
    let origin = c.args.position in
    let begun = search_of c.in_ok-marks.marks.items c.new-pending.result.items in
    let size : length begun.marks ≡ count = omega (arith, c.in_ok-marks.ensures.len, ap length c.publics.ensures) in
    let unmarked = c.in_ok-marks.ensures.items_if_clones_equal (λ y e. e) in
    let fresh = λ (k : ℕ) (e : is_marked begun k ≡ true). fresh-marks (length c.publics.result.now) k (sym (ap (λ marks. get_or marks k false) unmarked) ∙ e) in
    let same = c.in_ok-follow.ensures ∙ ap (λ (ts : List Token). followed (mentions_of met ts) begun) c.tokens.ensures.tokens in
    subst (IsSearching (edges met publics) count origin) (sym same)
    (begins (edges met publics) count c.requires.closed origin begun size fresh c.new-pending.ensures.items)

pub follow-requires-in-Some : goal.follow-requires-in-Some
follow-requires-in-Some c n h =
    let met = c.args.graph.now.resolutions.now in
    let inside = c.requires.closed c.in-Some.public n (subst (λ (ts : List Token). Contains (mentions_of met ts) n) c.tokens-in-Some.ensures.tokens h) in
    omega (arith, inside, c.loop-public.invariant.size)

pub loop-public-smaller : goal.loop-public-smaller
loop-public-smaller c =
    let met = c.args.graph.now.resolutions.now in
    let publics = c.args.graph.now.parts.now.names.publics in
    let count = length publics in
    let marks = c.loop-public.marks.items in
    let rest = c.pop.new.self.items in
    let n = c.in-Some.public in
    let now = subst (λ (pending : List ℕ). IsSearching (edges met publics) count c.args.position (search_of marks pending)) c.in-Some.ensures.items
    c.loop-public.invariant in
    let less = searches_less (edges met publics) count c.requires.closed c.args.position marks rest n now in
    let same = c.in_ok-follow-2.ensures ∙ ap (λ (ts : List Token). followed (mentions_of met ts) (search_of marks rest)) c.tokens-in-Some.ensures.tokens in
    subst (λ (s : Search). left s < left (search_of marks c.loop-public.pending.items)) (sym same)
    (subst (λ (pending : List ℕ). left (followed (edges met publics n) (search_of marks rest)) < left (search_of marks pending))
    (sym c.in-Some.ensures.items) less)

pub loop-public-preserved : goal.loop-public-preserved
loop-public-preserved c =
    let met = c.args.graph.now.resolutions.now in
    let publics = c.args.graph.now.parts.now.names.publics in
    let count = length publics in
    let marks = c.loop-public.marks.items in
    let rest = c.pop.new.self.items in
    let n = c.in-Some.public in
    let now = subst (λ (pending : List ℕ). IsSearching (edges met publics) count c.args.position (search_of marks pending)) c.in-Some.ensures.items
    c.loop-public.invariant in
    let same = c.in_ok-follow-2.ensures ∙ ap (λ (ts : List Token). followed (mentions_of met ts) (search_of marks rest)) c.tokens-in-Some.ensures.tokens in
    subst (IsSearching (edges met publics) count c.args.position) (sym same)
    (searches_on (edges met publics) count c.requires.closed c.args.position marks rest n now)

pub returns : goal.returns
returns c =
    let met = c.args.graph.now.resolutions.now in
    let publics = c.args.graph.now.parts.now.names.publics in
    let s = search_of c.loop-public.marks.items c.loop-public.pending.items in
    let empty : c.loop-public.pending.items ≡ [] = nil_from_length _ (omega (arith, c.in_default.ensures.cases.0)) in
    let inside : c.args.position < length c.loop-public.marks.items = omega (arith, c.requires.inside, c.loop-public.invariant.size) in
    let mark = c.index.ensures ∙ mark-there c.loop-public.marks.items c.args.position c.index.result.now inside in
    let ends = ends_search (edges met publics) (length publics) c.requires.closed c.args.position s c.loop-public.invariant empty in
    (λ e. ends.0 (sym mark ∙ e), λ circle. mark ∙ ends.1 circle)
