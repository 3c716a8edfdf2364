-- `attributes_line` meets its contract: it goes by whether the line is ATTRIBUTES. Assumes nothing.
use Rattle.bdf.proofs.Steps.{attributes_is, attributes_not}
use Rattle.bdf.proofs.reader.Reader.attributes_line.Goals as goal

pub returns-then-is_attributes : goal.returns-then-is_attributes
returns-then-is_attributes c = search attributes_is

pub returns : goal.returns
returns c = search attributes_not
