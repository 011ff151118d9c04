use Rattle.std.proofs.Common.{None, refl, reverse}
use Rattle.mufom_addr.proofs.SearchLaws.{HasSeen-more, note-numbers, note-nothing}
use Rattle.mufom_addr.proofs.search.Search.see_note.Goals as goal

pub returns-in_ok-set_line_number : goal.returns-in_ok-set_line_number
returns-in_ok-set_line_number c = record {
  seen = λ address entries h. HasSeen-more address entries _ _ _ h (record {
    address = refl;
    function = None;
    its_function = refl;
    best_function = refl;
    line = None;
    its_line = refl;
    best_line = refl;
    numbers = λ name. note-numbers c.args.name name c.in-Some.line c.args.note.now (reverse entries) _ _ c.in-Some.ensures
        (c.in_ok-set_line_number.ensures name) (h.numbers_are name);
  });
}

pub returns-in_default : goal.returns-in_default
returns-in_default c = record {
  seen = λ address entries h. HasSeen-more address entries _ _ _ h (record {
    address = refl;
    function = None;
    its_function = refl;
    best_function = refl;
    line = None;
    its_line = refl;
    best_line = refl;
    numbers = λ name. note-nothing c.args.name name c.args.note.now (reverse entries) _ c.in_default.ensures (h.numbers_are name);
  });
}
