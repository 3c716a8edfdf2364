-- `box_of` meets its contract: each field is a side or a place. Assumes nothing.
use Rattle.bdf.proofs.Steps.{box_made}
use Rattle.bdf.proofs.reader.box_of.Goals as goal

pub returns : goal.returns
returns c = search box_made
