-- The characters up to the end are those below the start and those of the range. Assumes nothing.
use Rattle.mapping.proofs.Ranges.{length_range}
use Rattle.mapping.proofs.range_len.Goals as goal

pub returns : goal.returns
returns c = search length_range
