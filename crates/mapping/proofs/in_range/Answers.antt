-- The result is the definition, unfolded, with the call's answer in it. Assumes nothing.
use Rattle.characters.proofs.Tests.{calls}
use Rattle.mapping.specs.Entries.{in_range}
use Rattle.mapping.proofs.in_range.Goals as goal

pub returns : goal.returns
unfolding in_range
returns c = search calls
