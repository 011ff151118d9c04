use Rattle.mufom_build.proofs.NextBytes.{none_is_figure, some_is_figure}
use Rattle.mufom_build.proofs.ahead.is_figure_ahead.Goals as goal

pub returns-in-None : goal.returns-in-None
returns-in-None c = none_is_figure c.in-None.ensures

pub returns-in-Some : goal.returns-in-Some
returns-in-Some c = some_is_figure c.is_ascii_digit.result c.in-Some.byte c.in-Some.ensures c.is_ascii_digit.ensures.value
    c.is_ascii_digit.ensures.bound
