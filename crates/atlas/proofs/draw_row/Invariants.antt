-- `draw_row` meets its contract: at pixel i the first i pixels are drawn and the others as they were. Assumes nothing.
use Prim.Native.Nat.{◌-◌}
use lib.ListN.{length}
use Rattle.geometry.proofs.Rows.{FirstPainted}
use Rattle.atlas.specs.Row.{image_row}
use Rattle.atlas.proofs.draw_row.Given as goal

abbrev pub invariant-loop-row : goal.invariant-loop-row
invariant-loop-row l = FirstPainted (image_row l.line l.text l.background) l.x l.i l.initial.row l.row

abbrev pub decreases-loop-row : goal.decreases-loop-row
decreases-loop-row l = length l.initial.row - l.i
