-- `draw_row` meets its contract: at pixel i the first i pixels are drawn and the others as they were. Assumes nothing.
use Rattle.geometry.proofs.Rows.{row_start, row_end}
use Rattle.atlas.proofs.Bits.{eight_step, rest_step}
use Rattle.atlas.proofs.draw_row.Goals as goal

pub loop-row-init : goal.loop-row-init
loop-row-init c = search row_start

pub loop-row-preserved : goal.loop-row-preserved
loop-row-preserved c = search eight_step

pub returns-then-i-n : goal.returns-then-i-n
returns-then-i-n c = search rest_step

pub returns-else-i-n : goal.returns-else-i-n
returns-else-i-n c = search row_end
