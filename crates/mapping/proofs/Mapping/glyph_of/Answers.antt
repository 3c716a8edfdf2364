-- In a mapping within the limit no position is cut. Assumes nothing.
use Rattle.mapping.proofs.Places.{glyph_placed}
use Rattle.mapping.proofs.Mapping.glyph_of.Goals as goal

pub returns : goal.returns
returns c = search glyph_placed
