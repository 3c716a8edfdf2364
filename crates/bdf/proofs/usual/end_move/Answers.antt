-- `end_move` meets its contract: after the last bitmap line ENDCHAR leads on. Assumes nothing.
use Rattle.bdf.proofs.Moves.{end_on}
use Rattle.bdf.proofs.usual.end_move.Goals as goal

pub returns : goal.returns
returns c = search (end_on, c.in_ok-rest.ensures)
