-- A number below 2^31 keeps its value as a signed one, and so does its difference from the origin.
use Rattle.calls.proofs.Signed.{difference_fits, difference_is}
use Rattle.calls.proofs.replies.signed.Goals as goal

pub overflow_sub-result : goal.overflow_sub-result
overflow_sub-result c = search difference_fits

pub returns : goal.returns
returns c = search difference_is
