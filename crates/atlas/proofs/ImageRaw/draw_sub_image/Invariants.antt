-- `ImageRaw::draw_sub_image` meets its contract: at row k the first k rows of what the target shows are drawn, and past the last one stands the cell's foot
-- or the target's. Assumes nothing.
use Rattle.atlas.proofs.Images.{RowsDrawn}
use Rattle.atlas.proofs.ImageRaw.draw_sub_image.Given as goal

abbrev pub invariant-loop-k : goal.invariant-loop-k
invariant-loop-k l = RowsDrawn l.fw l.area l.k l.stride l.column l.row l.bytes l.colors.text l.colors.background l.initial.greys l.greys
