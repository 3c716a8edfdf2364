-- The bytes continue the sequence or they do not. Assumes nothing.
use Rattle.characters.specs.Utf8.{four}
use Rattle.characters.proofs.Tests.{calls}
use Rattle.characters.proofs.four.Goals as goal

pub returns-then-is_continuation : goal.returns-then-is_continuation
unfolding four
returns-then-is_continuation c = search calls

pub returns : goal.returns
unfolding four
returns c = search calls
