-- `shared` meets its contract: both runs are cut where the later one begins. Assumes nothing.
use Rattle.geometry.proofs.Rectangles.{shared_run}
use Rattle.geometry.proofs.shared.Goals as goal

pub returns : goal.returns
returns c = search shared_run
