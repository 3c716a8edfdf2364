-- `draw_pixels` meets its contract: at pixel i the first i pixels are drawn and the others as they were. Assumes nothing.
use Rattle.geometry.proofs.Rows.{FirstPainted}
use Rattle.atlas.specs.Row.{bit_row}
use Rattle.atlas.proofs.draw_pixels.Given as goal

abbrev pub invariant-loop-i : goal.invariant-loop-i
invariant-loop-i l = FirstPainted (bit_row l.bits l.text l.background) 0 l.i l.initial.row l.row
