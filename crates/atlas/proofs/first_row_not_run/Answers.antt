-- `first_row_not_run` meets its contract: from the cell's top it goes down to the foot or the edge, and never up. Assumes nothing.
use Rattle.atlas.proofs.FirstRow.{row_below}
use Rattle.atlas.proofs.first_row_not_run.Goals as goal

pub returns : goal.returns
returns c = search row_below
