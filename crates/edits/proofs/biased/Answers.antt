-- A number in range and 2^21 have a sum that is not negative and fits. Assumes nothing.
use Rattle.edits.proofs.Signed.{sum_fits, sum_casts, sum_is}
use Rattle.edits.proofs.biased.Goals as goal

pub overflow_add-result : goal.overflow_add-result
overflow_add-result c = search sum_fits

pub overflow_cast-result-2 : goal.overflow_cast-result-2
overflow_cast-result-2 c = sum_casts c.args.z c.ranges.z c.requires

pub returns : goal.returns
returns c = search sum_is
