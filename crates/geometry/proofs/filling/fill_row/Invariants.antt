-- `fill_row` meets its contract: at a pixel those before it are grey and the others as they were. Assumes nothing.
use Rattle.geometry.proofs.Rows.{FirstPainted}
use Rattle.geometry.proofs.filling.fill_row.Given as goal

abbrev pub invariant-loop-pixel : goal.invariant-loop-pixel
invariant-loop-pixel l = FirstPainted (λ k x. l.grey) 0 l.pixel-index l.initial.row l.row
