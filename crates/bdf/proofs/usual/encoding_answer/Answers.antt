-- `encoding_answer` meets its contract: the line has the usual form, and its answer is the general one. Assumes nothing.
use Rattle.bdf.proofs.Moves.{encoding_answered}
use Rattle.bdf.proofs.usual.encoding_answer.Goals as goal

pub returns : goal.returns
returns c = search (encoding_answered, c.in_ok-n.ensures)
