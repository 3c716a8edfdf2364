-- `encoding_of` meets its contract: a law for each way out. Assumes nothing.
use Rattle.bdf_lines.proofs.NumberLines.{encoding_other, encoding_wrong, encoding_one, encoding_wrong_second, encoding-two, encoding-not}
use Rattle.bdf_lines.proofs.values.encoding_of.Goals as goal

pub returns-in_err-rest : goal.returns-in_err-rest
returns-in_err-rest c = rw c.from_residual.ensures (search (encoding_other, c.in_err-rest.ensures))

pub returns-in_err-n : goal.returns-in_err-n
returns-in_err-n c = rw c.from_residual-in_err-n.ensures (search (encoding_wrong, c.in_ok-rest.ensures, c.in_err-n.ensures))

pub returns-then-is_end : goal.returns-then-is_end
returns-then-is_end c = search (encoding_one, c.in_ok-rest.ensures, c.in_ok-n.ensures)

pub returns-in_err-rest-2 : goal.returns-in_err-rest-2
returns-in_err-rest-2 c = rw c.from_residual-in_err-rest-2.ensures (search (encoding_wrong_second, c.in_ok-rest.ensures, c.in_ok-n.ensures, c.in_err-rest-2.ensures))

pub returns-then-is_end-n : goal.returns-then-is_end-n
returns-then-is_end-n c = search (encoding-two, c.in_ok-rest.ensures, c.in_ok-n.ensures, c.in_ok-rest-2.ensures)

pub returns : goal.returns
returns c = search (encoding-not, c.in_ok-rest.ensures, c.in_ok-n.ensures, c.in_ok-rest-2.ensures)
