-- The refusal of the tests before is the call's.
use Rattle.calls.specs.Calls.{whitespace_code}
use Rattle.calls.proofs.Refusals.{listed_handed_on}
use Rattle.calls.proofs.codes.whitespace_code.Goals as goal

pub returns-in_err-item-clause-value : goal.returns-in_err-item-clause-value
unfolding whitespace_code
returns-in_err-item-clause-value c = listed_handed_on _ _ _ _ _ _ c.from_residual.ensures.1 c.in_err-item.ensures.value
