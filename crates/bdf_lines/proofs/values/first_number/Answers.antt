-- `first_number` meets its contract: no word, or the first word, which is a number or not. Assumes nothing.
use Rattle.bdf_lines.proofs.NumberLines.{number_none, number_wrong, number_found}
use Rattle.bdf_lines.proofs.values.first_number.Goals as goal

pub returns-in_err-word-clause-word : goal.returns-in_err-word-clause-word
returns-in_err-word-clause-word c = rw c.from_residual.ensures (number_none _ c.in_err-word.ensures.word)

pub returns-in_err-n-clause-word : goal.returns-in_err-n-clause-word
returns-in_err-n-clause-word c = rw c.from_residual-in_err-n.ensures (search (number_wrong, c.in_ok-word.ensures, c.in_err-n.was))

pub returns-clause-word : goal.returns-clause-word
returns-clause-word c = search (number_found, c.in_ok-word.ensures, c.in_ok-n.was)
