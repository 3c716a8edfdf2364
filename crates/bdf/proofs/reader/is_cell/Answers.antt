-- `is_cell` meets its contract: each return follows from the tests passed and the one that failed. Assumes nothing.
use Rattle.bdf.proofs.Steps.{no_cell, cell_wide, cell_high, box_y, height_fits, cell_baseline}
use Rattle.bdf.proofs.reader.is_cell.Goals as goal

pub returns-then-not-is_box : goal.returns-then-not-is_box
returns-then-not-is_box c = search no_cell

pub returns-then-four-gt64 : goal.returns-then-four-gt64
returns-then-four-gt64 c = search cell_wide

pub returns-then-four-gt64-2 : goal.returns-then-four-gt64-2
returns-then-four-gt64-2 c = search cell_high

pub place-requires : goal.place-requires
place-requires c = search box_y

pub overflow_add-result : goal.overflow_add-result
overflow_add-result c = search (height_fits, box_y)

pub returns : goal.returns
returns c = search cell_baseline
