-- A good reply is the one by its code and rectangle.
use Rattle.calls.proofs.Signed.{box_is}
use Rattle.calls.proofs.replies.box_reply.Goals as goal

pub returns : goal.returns
returns c = search box_is
