-- `fill_area` meets its contract: whole rows are one part of the frame, and at row k of another rectangle its first k rows are filled. Assumes nothing.
use Rattle.geometry.proofs.Frames.{RowsPainted}
use Rattle.geometry.proofs.Fills.{solid}
use Rattle.geometry.proofs.filling.fill_area.Given as goal

abbrev pub invariant-loop-k : goal.invariant-loop-k
invariant-loop-k l = RowsPainted l.fw l.area l.k (solid l.grey) l.initial.greys l.greys
