-- `cell_line` meets its contract: the tests of a cell decide, and what they leave makes a box. Assumes nothing.
use Rattle.std.proofs.Common.{refl}
use Rattle.bdf.specs.Reader.{cell_line}
use Rattle.bdf.proofs.Steps.{refused, there, cell_bad, cell_passed, cell_box}
use Rattle.bdf.proofs.reader.Reader.cell_line.Goals as goal

pub returns-in_err-numbers : goal.returns-in_err-numbers
unfolding cell_line
returns-in_err-numbers c = refused _ _ c.ok_or.ensures.value (λ z. cell_line z c.args.self) refl _ c.in_err-numbers.was _ c.from_residual.ensures.1

pub returns-then-not-is_cell : goal.returns-then-not-is_cell
returns-then-not-is_cell c = search (cell_bad, there _ _ c.ok_or.ensures.value _ c.in_ok-numbers.was)

pub box_of-cell-requires : goal.box_of-cell-requires
box_of-cell-requires c = search cell_box

pub returns : goal.returns
returns c = search (cell_passed, there _ _ c.ok_or.ensures.value _ c.in_ok-numbers.was)
