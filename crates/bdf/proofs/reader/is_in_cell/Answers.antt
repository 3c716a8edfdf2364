-- `is_in_cell` meets its contract: each return follows from the tests passed and the one that failed. Assumes nothing.
use Rattle.bdf.proofs.Steps.{no_box, box_x, box_y, left_of_cell, right_of_cell, below_cell, above_cell}
use Rattle.bdf.proofs.reader.is_in_cell.Goals as goal

pub returns-then-not-is_box : goal.returns-then-not-is_box
returns-then-not-is_box c = search no_box

pub place-left-requires : goal.place-left-requires
place-left-requires c = search box_x

pub place-foot-requires : goal.place-foot-requires
place-foot-requires c = search box_y

pub returns-then-left-cell : goal.returns-then-left-cell
returns-then-left-cell c = search left_of_cell

pub returns-then-not-reaches : goal.returns-then-not-reaches
returns-then-not-reaches c = search right_of_cell

pub returns-then-foot-cell : goal.returns-then-foot-cell
returns-then-foot-cell c = search below_cell

pub returns : goal.returns
returns c = search above_cell
