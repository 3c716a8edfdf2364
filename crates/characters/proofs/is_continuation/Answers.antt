-- The result is the definition, unfolded. Assumes nothing.
use mathlib.Core.Path.{refl}
use Rattle.characters.specs.Utf8.{is_continuation}
use Rattle.characters.proofs.is_continuation.Goals as goal

pub returns : goal.returns
unfolding is_continuation
returns c = refl
