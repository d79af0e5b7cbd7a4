-- `put_reckoning` meets its contract. Assumes nothing.
use Rattle.std.proofs.lemmas.Result.{err_from_is_err_and}
use Rattle.reckoner.proofs.Answer.{refused_line, can_close, accepted_answer, accepted_sum}
use Rattle.reckoner.proofs.put_reckoning.Goals as goal

-- a line is refused
pub returns-in_err-works-clause-reckoned : goal.returns-in_err-works-clause-reckoned
returns-in_err-works-clause-reckoned c =
    let given = err_from_is_err_and c.from_residual.result c.from_residual.ensures.1 in
    rw (given.1, given.2) (refused_line _ c.requires.0 c.requires.1 c.in_err-works.ensures)

-- or none is refused
pub put_figures-requires : goal.put_figures-requires
put_figures-requires c = can_close _ c.requires.0 c.requires.1 c.in_ok-works.ensures

pub returns-clause-reckoned : goal.returns-clause-reckoned
returns-clause-reckoned c = accepted_answer _ c.requires.0 c.requires.1 c.in_ok-works.ensures _ c.put_figures.ensures

pub returns-clause-sum : goal.returns-clause-sum
returns-clause-sum c = accepted_sum _ c.requires.0 c.requires.1 c.in_ok-works.ensures _ c.put_figures.ensures
