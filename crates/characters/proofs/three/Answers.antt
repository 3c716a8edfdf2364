-- The bytes continue the sequence or they do not. Assumes nothing.
use Rattle.characters.specs.Utf8.{three}
use Rattle.characters.proofs.Tests.{calls}
use Rattle.characters.proofs.three.Goals as goal

pub returns-then-is_continuation : goal.returns-then-is_continuation
unfolding three
returns-then-is_continuation c = search calls

pub returns : goal.returns
unfolding three
returns c = search calls
