-- `properties_line` meets its contract: it goes by whether STARTPROPERTIES has a count. Assumes nothing.
use Rattle.bdf.proofs.Steps.{properties_of, properties_else}
use Rattle.bdf.proofs.reader.Reader.properties_line.Goals as goal

pub returns-in_default : goal.returns-in_default
returns-in_default c = search properties_else

pub returns : goal.returns
returns c = search properties_of
