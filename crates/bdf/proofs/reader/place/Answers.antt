-- `place` meets its contract: it goes by the sign. Assumes nothing.
use Rattle.bdf.proofs.Steps.{place_below, place_above}
use Rattle.bdf.proofs.reader.place.Goals as goal

pub returns-then-n : goal.returns-then-n
returns-then-n c = search place_below

pub returns : goal.returns
returns c = search place_above
