-- `property_line` meets its contract: it goes by how many are left. Assumes nothing.
use Rattle.bdf.proofs.Steps.{property_none, property_more}
use Rattle.bdf.proofs.reader.Reader.property_line.Goals as goal

pub returns-then-left-eq0 : goal.returns-then-left-eq0
returns-then-left-eq0 c = search property_none

pub returns : goal.returns
returns c = search property_more
