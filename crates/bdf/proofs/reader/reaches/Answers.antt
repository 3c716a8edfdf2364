-- `reaches` meets its contract: what is left up to the end is compared with the side. Assumes nothing.
use Rattle.bdf.proofs.Steps.{reaches_not, reaches_side}
use Rattle.bdf.proofs.reader.reaches.Goals as goal

pub returns-then-end-at : goal.returns-then-end-at
returns-then-end-at c = search reaches_not

pub returns : goal.returns
returns c = search reaches_side
