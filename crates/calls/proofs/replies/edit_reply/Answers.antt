-- The reply's coordinates are the signed ones.
use Rattle.calls.proofs.Signed.{edited_is}
use Rattle.calls.proofs.replies.edit_reply.Goals as goal

pub returns : goal.returns
returns c = search edited_is
