-- `four_numbers` meets its contract: a law for each way out. Assumes nothing.
use Rattle.bdf_lines.proofs.NumberLines.{four_wrong_first, four_wrong_second, four_wrong_third, four_wrong_fourth, four_is, four_more}
use Rattle.bdf_lines.proofs.values.four_numbers.Goals as goal

pub returns-in_err-width : goal.returns-in_err-width
returns-in_err-width c = rw c.from_residual.ensures (search (four_wrong_first, c.in_err-width.ensures))

pub returns-in_err-height : goal.returns-in_err-height
returns-in_err-height c = rw c.from_residual-in_err-height.ensures (search (four_wrong_second, c.in_ok-width.ensures, c.in_err-height.ensures))

pub returns-in_err-x : goal.returns-in_err-x
returns-in_err-x c = rw c.from_residual-in_err-x.ensures (search (four_wrong_third, c.in_ok-width.ensures, c.in_ok-height.ensures, c.in_err-x.ensures))

pub returns-in_err-y : goal.returns-in_err-y
returns-in_err-y c = rw c.from_residual-in_err-y.ensures (search (four_wrong_fourth, c.in_ok-width.ensures, c.in_ok-height.ensures, c.in_ok-x.ensures, c.in_err-y.ensures))

pub returns-then-not-is_end : goal.returns-then-not-is_end
returns-then-not-is_end c = search (four_more, c.in_ok-width.ensures, c.in_ok-height.ensures, c.in_ok-x.ensures, c.in_ok-y.ensures)

pub returns : goal.returns
returns c = search (four_is, c.in_ok-width.ensures, c.in_ok-height.ensures, c.in_ok-x.ensures, c.in_ok-y.ensures)
