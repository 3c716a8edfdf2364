-- The reply's coordinates are the signed ones.
use Rattle.calls.proofs.Signed.{drawn_is}
use Rattle.calls.proofs.replies.drawn_reply.Goals as goal

pub returns : goal.returns
returns c = search drawn_is
