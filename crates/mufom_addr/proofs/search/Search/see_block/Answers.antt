use Rattle.std.proofs.Common.{Some, None, refl, sym, ◌∙◌, append-nil}
use Rattle.mufom_addr.specs.Search.{function_held}
use Rattle.mufom_addr.proofs.SearchLaws.{HasSeen-more}
use Rattle.mufom_addr.proofs.search.Search.see_block.Goals as goal

pub returns-in-Some : goal.returns-in-Some
returns-in-Some c = record {
  seen = λ address entries h. HasSeen-more address entries _ _ _ h (record {
    address = refl;
    function = Some (function_held c.in-Some.found);
    its_function = append-nil _ ∙ sym c.in-Some.ensures;
    best_function = c.innermost-self.ensures;
    line = None;
    its_line = refl;
    best_line = refl;
    numbers = h.numbers_are;
  });
}

pub returns-in_default : goal.returns-in_default
returns-in_default c = record {
  seen = λ address entries h. HasSeen-more address entries _ _ _ h (record {
    address = refl;
    function = None;
    its_function = append-nil _ ∙ sym c.in_default.ensures;
    best_function = refl;
    line = None;
    its_line = refl;
    best_line = refl;
    numbers = h.numbers_are;
  });
}
