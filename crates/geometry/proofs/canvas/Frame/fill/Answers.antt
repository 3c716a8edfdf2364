-- `Frame::fill` meets its contract: an unset colour changes nothing, and a set one is filled. Assumes nothing.
use Rattle.geometry.proofs.Fills.{fill_unset}
use Rattle.geometry.proofs.Paintings.{painted_none}
use Rattle.geometry.proofs.canvas.Frame.fill.Goals as goal

pub returns-in_default : goal.returns-in_default
returns-in_default c = painted_none _ _ (search fill_unset)
