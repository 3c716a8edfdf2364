-- Each return is the outcome of one test. Assumes nothing.
use Rattle.characters.specs.Utf8.{scalar}
use Rattle.characters.proofs.Tests.{calls}
use Rattle.characters.proofs.scalar.Goals as goal

pub returns-then-least-v : goal.returns-then-least-v
unfolding scalar
returns-then-least-v c = search calls

pub returns : goal.returns
unfolding scalar
returns c = search calls
