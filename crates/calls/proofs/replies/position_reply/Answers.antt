-- The reply's coordinates are the signed ones.
use Rattle.calls.proofs.Signed.{position_is}
use Rattle.calls.proofs.replies.position_reply.Goals as goal

pub returns : goal.returns
returns c = search position_is
