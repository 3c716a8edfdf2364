-- `spelling_line` meets its contract: the mapping with the spelling is tested against its limit. Assumes nothing.
use Rattle.bdf.proofs.Steps.{mapping_fits, spelling_long, spelling_passed}
use Rattle.bdf.proofs.reader.SoundReader.spelling_line.Goals as goal

pub overflow_add-mapping : goal.overflow_add-mapping
overflow_add-mapping c = search mapping_fits

pub returns-then-mapping-gt65535 : goal.returns-then-mapping-gt65535
returns-then-mapping-gt65535 c = search spelling_long

pub returns : goal.returns
returns c = search spelling_passed
