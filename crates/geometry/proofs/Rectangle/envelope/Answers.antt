-- `Rectangle::envelope` meets its contract: each edge is the definition's. Assumes nothing.
use Rattle.geometry.proofs.Rectangles.{envelope_made}
use Rattle.geometry.proofs.Rectangle.envelope.Goals as goal

pub returns : goal.returns
returns c = search envelope_made
