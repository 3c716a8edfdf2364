-- `count_of` meets its contract: a law for each way out. Assumes nothing.
use Rattle.bdf_lines.proofs.NumberLines.{count_other, count_wrong, count_not, count_is}
use Rattle.bdf_lines.proofs.values.count_of.Goals as goal

pub returns-in_err-rest : goal.returns-in_err-rest
returns-in_err-rest c = rw c.from_residual.ensures (search (count_other, c.in_err-rest.ensures))

pub returns-in_err-n : goal.returns-in_err-n
returns-in_err-n c = rw c.from_residual-in_err-n.ensures (search (count_wrong, c.in_ok-rest.ensures, c.in_err-n.ensures))

pub returns-then-n-is_end : goal.returns-then-n-is_end
returns-then-n-is_end c = search (count_not, c.in_ok-rest.ensures, c.in_ok-n.ensures)

pub returns : goal.returns
returns c = search (count_is, c.in_ok-rest.ensures, c.in_ok-n.ensures)
