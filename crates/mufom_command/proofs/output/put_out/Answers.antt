use Rattle.mufom_command.proofs.output.put_out.Goals as goal

pub returns-in-Map-clause-puts : goal.returns-in-Map-clause-puts
returns-in-Map-clause-puts g c = rw c.in-Map.is (c.print_mapped.ensures.answer, c.print_mapped.ensures.only)
