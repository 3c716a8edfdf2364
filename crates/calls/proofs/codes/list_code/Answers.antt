-- The refusal of the tests before is the call's.
use Rattle.calls.specs.Calls.{edit_list_code}
use Rattle.calls.proofs.Refusals.{framed_handed_on}
use Rattle.calls.proofs.codes.list_code.Goals as goal

pub returns-in_err-accepted-clause-value : goal.returns-in_err-accepted-clause-value
unfolding edit_list_code
returns-in_err-accepted-clause-value c = framed_handed_on _ _ _ _ _ c.from_residual.ensures.1 c.in_err-accepted.ensures.value
