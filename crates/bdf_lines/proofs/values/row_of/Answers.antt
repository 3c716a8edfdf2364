-- `row_of` meets its contract: the line has its length or not, and is hexadecimal or not. Assumes nothing.
use Rattle.bdf_lines.proofs.Numbers.{row_length, row_wrong, row_bits_lem}
use Rattle.bdf_lines.proofs.values.row_of.Goals as goal

pub returns-then-line-bytes : goal.returns-then-line-bytes
returns-then-line-bytes c = search row_length

pub returns-in_err-v : goal.returns-in_err-v
returns-in_err-v c = rw c.from_residual.ensures (search (row_wrong, c.in_err-v.was))

pub returns : goal.returns
returns c = search (row_bits_lem, c.in_ok-v.was)
