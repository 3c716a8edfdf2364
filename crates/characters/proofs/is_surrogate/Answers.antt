-- The result is the definition, unfolded. Assumes nothing.
use mathlib.Core.Path.{refl}
use Rattle.characters.specs.Utf8.{is_surrogate}
use Rattle.characters.proofs.is_surrogate.Goals as goal

pub returns : goal.returns
unfolding is_surrogate
returns c = refl
