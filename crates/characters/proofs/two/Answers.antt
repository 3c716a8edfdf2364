-- The bytes continue the sequence or they do not. Assumes nothing.
use Rattle.characters.specs.Utf8.{two}
use Rattle.characters.proofs.Tests.{calls}
use Rattle.characters.proofs.two.Goals as goal

pub returns-then-is_continuation : goal.returns-then-is_continuation
unfolding two
returns-then-is_continuation c = search calls

pub returns : goal.returns
unfolding two
returns c = search calls
