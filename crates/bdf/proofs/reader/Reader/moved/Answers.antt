-- `moved` meets its contract: the test that was made decides. Assumes nothing.
use Rattle.bdf.proofs.Steps.{moved_good, moved_bad}
use Rattle.bdf.proofs.reader.Reader.moved.Goals as goal

pub returns-then-good : goal.returns-then-good
returns-then-good c = search moved_good

pub returns : goal.returns
returns c = search moved_bad
