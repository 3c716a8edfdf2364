-- `put_line` meets its contract: the line is refused, or it is put. Assumes nothing.
use Rattle.std.proofs.lemmas.Result.{err_from_is_err_and}
use Rattle.bdf.proofs.Passes.{line_fits, line_refused, line_over}
use Rattle.bdf.proofs.file.put_line.Goals as goal

pub returns-in_err-answer-clause-refused : goal.returns-in_err-answer-clause-refused
returns-in_err-answer-clause-refused c = let p = err_from_is_err_and c.from_residual.result c.from_residual.ensures.1 in rw (p.1, p.2) (search (line_refused, c.in_err-answer.was))

pub put-requires-clause-answer_fits : goal.put-requires-clause-answer_fits
put-requires-clause-answer_fits c = search (line_fits, c.in_ok-answer.was)

pub returns-clause-read : goal.returns-clause-read
returns-clause-read c = search (line_over, c.in_ok-answer.was, c.first_line-line.ensures.rest)
