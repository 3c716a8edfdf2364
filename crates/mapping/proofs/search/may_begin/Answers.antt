-- The result is the definition, unfolded. Assumes nothing.
use mathlib.Core.Path.{refl}
use Rattle.mapping.specs.Search.{may_begin}
use Rattle.mapping.proofs.search.may_begin.Goals as goal

pub returns : goal.returns
unfolding may_begin
returns c = refl
