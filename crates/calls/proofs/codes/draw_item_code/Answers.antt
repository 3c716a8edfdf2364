-- The refusal of the tests before is the call's.
use Rattle.calls.specs.Calls.{draw_item_code}
use Rattle.calls.proofs.Refusals.{framed_handed_on}
use Rattle.calls.proofs.codes.draw_item_code.Goals as goal

pub returns-in_err-accepted-clause-value : goal.returns-in_err-accepted-clause-value
unfolding draw_item_code
returns-in_err-accepted-clause-value c = framed_handed_on _ _ _ _ _ c.from_residual.ensures.1 c.in_err-accepted.ensures.value
