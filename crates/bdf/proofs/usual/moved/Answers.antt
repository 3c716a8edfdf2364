-- `moved` meets its contract: each line that is expected has its law. Assumes nothing.
use Rattle.bdf.proofs.Moves.{scalable_on, device_on, bitmap_on}
use Rattle.bdf.proofs.usual.moved.Goals as goal

pub returns-in_ok-rest-in-Swidth : goal.returns-in_ok-rest-in-Swidth
returns-in_ok-rest-in-Swidth c = search (scalable_on, c.in_ok-rest-in-Swidth.ensures)

pub returns-in_ok-rest-in-Dwidth : goal.returns-in_ok-rest-in-Dwidth
returns-in_ok-rest-in-Dwidth c = search (device_on, c.in_ok-rest-in-Dwidth.ensures)

pub returns-in_ok-rest-in-Attributes : goal.returns-in_ok-rest-in-Attributes
returns-in_ok-rest-in-Attributes c = search (bitmap_on, c.in_ok-rest-in-Attributes.ensures)
