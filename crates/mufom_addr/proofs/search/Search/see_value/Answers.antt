use Rattle.std.proofs.Common.{List, Some, None, option_map, refl, ap, ◌∙◌, reverse, Bor, ℕ}
use Rattle.mufom_addr.specs.Search.{number_for}
use Rattle.mufom_addr.proofs.SearchLaws.{HasSeen-more, value-line, value-nothing}
use Rattle.mufom_addr.proofs.search.Search.see_value.Goals as goal

pub returns-in-Some : goal.returns-in-Some
returns-in-Some c = record {
  seen = λ address entries h.
      HasSeen-more address entries _ _ _ h (record {
        address = refl;
        function = None;
        its_function = refl;
        best_function = refl;
        line = Some (record { line = c.in-Some.line; address = c.number_or_zero-address.result; source = option_map (λ (s : Bor (List ℕ)). s.now) c.args.source });
        its_line = value-line (option_map (λ (s : Bor
            (List ℕ)). s.now) c.args.source) c.args.value.now c.args.name c.in-Some.line c.number_or_zero-address.result (reverse entries)
            (c.in-Some.ensures ∙ ap (λ numbers. number_for numbers c.args.name) c.deref.ensures.value
            ∙ h.numbers_are c.args.name) c.number_or_zero-address.ensures;
        best_line = c.nearest-self.ensures;
        numbers = h.numbers_are;
      });
}

pub returns-in_default : goal.returns-in_default
returns-in_default c = record {
  seen = λ address entries h. HasSeen-more address entries _ _ _ h (record {
    address = refl;
    function = None;
    its_function = refl;
    best_function = refl;
    line = None;
    its_line = value-nothing (option_map (λ (s : Bor (List ℕ)). s.now) c.args.source) c.args.value.now c.args.name (reverse entries)
        (c.in_default.ensures ∙ ap (λ numbers. number_for numbers c.args.name) c.deref.ensures.value ∙ h.numbers_are c.args.name);
    best_line = refl;
    numbers = h.numbers_are;
  });
}
