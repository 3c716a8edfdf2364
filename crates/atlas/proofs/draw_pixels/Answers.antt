-- `draw_pixels` meets its contract: at pixel i the first i pixels are drawn and the others as they were. Assumes nothing.
use native.Mathlib.Omega.{arith}
use Rattle.geometry.proofs.Rows.{row_start, row_step, row_end}
use Rattle.atlas.specs.Row.{bit_row}
use Rattle.atlas.proofs.draw_pixels.Goals as goal

pub loop-i-init : goal.loop-i-init
loop-i-init c = search row_start

pub loop-i-preserved : goal.loop-i-preserved
unfolding bit_row
loop-i-preserved c = row_step _ _ _ _ _ c.loop-i.invariant (omega (arith, c.loop-i.invariant.size)) c.blend.ensures

pub returns : goal.returns
returns c = row_end _ _ _ _ _ c.loop-i.invariant (omega (arith, c.loop-i.invariant.size))
