-- `Rectangle::intersection` meets its contract: each edge is the definition's. Assumes nothing.
use Rattle.geometry.proofs.Rectangles.{intersection_made}
use Rattle.geometry.proofs.Rectangle.intersection.Goals as goal

pub returns : goal.returns
returns c = search intersection_made
