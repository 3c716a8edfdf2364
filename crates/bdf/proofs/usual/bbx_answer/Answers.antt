-- `bbx_answer` meets its contract: the line has the usual form, and its answer is the general one. Assumes nothing.
use Rattle.bdf.proofs.Moves.{bbx_answered}
use Rattle.bdf.proofs.usual.bbx_answer.Goals as goal

pub returns : goal.returns
returns c = search (bbx_answered, c.in_ok-four.ensures)
