use Rattle.mufom_build_text.proofs.cursor.Cursor.end_line.Goals as goal

pub returns-clause-ends : goal.returns-clause-ends
returns-clause-ends c = record {
  end = c.pass_spaces.new.self.rest;
  spaces = c.pass_spaces.ensures.front;
  line_end = c.in_ok-check_end.ensures.end;
  blank = c.pass_blanks.ensures.front;
  last = c.pass_blanks.ensures.last;
}
