use Rattle.std.proofs.Common.{◌≡◌, ◌∙◌, ap, sym, arith, ◌∷◌, [], ◌++◌, length, length-append, map, drop, ◌+◌, subst}
use Rattle.std.proofs.lemmas.List.{drop_more}
use Rattle.std.proofs.lemmas.List.Sums.{sum_by-append}
use Rattle.toml.specs.View.{view, table_view}
use Rattle.mufom_plan.specs.declared.plan.PlanSymbol.{PlanSymbol}
use Rattle.mufom_plan.specs.Names.{symbol_names}
use Rattle.mufom_plan.specs.Symbols.{names_size}
use Rattle.mufom_plan.specs.PlanText.{after_symbols, symbol_of, symbols_of}
use Rattle.mufom_plan.proofs.SymbolLemmas.{symbols_of-next, symbol_names-append}
use Rattle.mufom_plan.proofs.symbol.symbols.Goals as goal

pub loop-place-preserved : goal.loop-place-preserved
loop-place-preserved c =
    let taken = c.loop-place.symbols in
    let symbol = c.in_ok-symbol.symbol in
    let listed = c.args.listed.now in
    let regions = c.args.regions.now in
    let value = c.index-values-place.result in
    let more = map view (drop (c.loop-place.place + 1) c.args.values.now) in
    let pushed = c.in_ok-push.ensures.ok in
    let next = drop_more c.args.values.now c.loop-place.place value c.loop-place-test.true
    ∙ ap (λ v. v ∷ drop (c.loop-place.place + 1) c.args.values.now) (sym c.index-values-place.is) in
    let after : symbol_of (length taken) (symbol_names taken) listed regions (table_view c.in-Some.table.now)
    ≡ symbol_of c.loop-place.place c.loop-place.names listed regions (table_view c.in-Some.table.now) =
    (λ i. symbol_of (c.loop-place.invariant.count i) (sym c.loop-place.invariant.named i) listed regions (table_view c.in-Some.table.now)) in
    record {
      count = ap length pushed ∙ length-append taken (symbol ∷ []) ∙ omega arith;
      named = c.in_ok-symbol.ensures.named ∙ ap (λ names. names ++ symbol.name ∷ []) c.loop-place.invariant.named
          ∙ sym (symbol_names-append taken symbol) ∙ ap symbol_names (sym pushed);
      room = let before = c.loop-place.invariant.room in
          let more = ap names_size pushed ∙ sum_by-append (λ (s : PlanSymbol). length s.name + 1) taken (symbol ∷ []) in
          let own = c.len-in-loop-place.ensures in
          let first = c.len.ensures in let fits = c.if-len-room.false in
          omega (arith, before, more, own, first, fits);
      rest = c.loop-place.invariant.rest
          ∙ ap (λ values. after_symbols taken (symbols_of listed regions taken (map view values))) next
          ∙ symbols_of-next listed regions taken (view value) more (table_view c.in-Some.table.now) symbol (sym c.in-Some.ensures)
          (after ∙ c.in_ok-symbol.ensures.ok)
          ∙ ap (λ symbols. after_symbols symbols (symbols_of listed regions symbols more)) (sym pushed);
    }
