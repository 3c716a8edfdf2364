-- The refusal of the tests before is the call's.
use Rattle.calls.specs.Calls.{page_code}
use Rattle.calls.proofs.Refusals.{framed_handed_on, page_in, page_room, page_short}
use Rattle.calls.proofs.codes.page_code.Goals as goal

pub returns-in_err-accepted-clause-value : goal.returns-in_err-accepted-clause-value
unfolding page_code
returns-in_err-accepted-clause-value c = framed_handed_on _ _ _ _ _ c.from_residual.ensures.1 c.in_err-accepted.ensures.value

pub returns-then-length-output-clause-value : goal.returns-then-length-output-clause-value
returns-then-length-output-clause-value c = page_room c.in_ok-accepted.accepted.bytes.now _ _ _ _ _ c.page_length-length.ensures (cc) (cc) _ c.in_ok-accepted.ensures.same_bytes c.in_ok-accepted.ensures.value c.if-length-output.true

pub returns-then-length-output-clause-page_in : goal.returns-then-length-output-clause-page_in
returns-then-length-output-clause-page_in c = page_in c.in_ok-accepted.accepted.bytes.now _ _ _ _ _ c.page_length-length.ensures (cc) (cc) c.if-length-output.true

pub returns-clause-value : goal.returns-clause-value
returns-clause-value c = page_short c.in_ok-accepted.accepted.bytes.now _ _ _ _ _ c.page_length-length.ensures (cc) (cc) _ c.in_ok-accepted.ensures.same_bytes c.in_ok-accepted.ensures.value c.if-length-output.false
