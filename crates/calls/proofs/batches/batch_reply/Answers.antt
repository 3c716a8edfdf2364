-- The reply's coordinates are the signed ones.
use Rattle.calls.proofs.Signed.{batch_is}
use Rattle.calls.proofs.batches.batch_reply.Goals as goal

pub returns : goal.returns
returns c = search batch_is
