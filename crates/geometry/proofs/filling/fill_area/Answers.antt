-- `fill_area` meets its contract: whole rows are one part of the frame, and at row k of another rectangle its first k rows are filled. Assumes nothing.
use Rattle.geometry.specs.Layer.{filled}
use Rattle.geometry.proofs.Frames.{rows_start, rows_end}
use Rattle.geometry.proofs.Fills.{fill_whole_rows, fill_step}
use Rattle.geometry.proofs.filling.fill_area.Goals as goal

pub returns-then-area-fw : goal.returns-then-area-fw
returns-then-area-fw c = fill_whole_rows _ _ _ _ _ c.requires c.if-area-fw.true c.fill_row.ensures

pub loop-k-init : goal.loop-k-init
loop-k-init c = search rows_start

pub loop-k-preserved : goal.loop-k-preserved
loop-k-preserved c = fill_step _ _ _ _ _ _ _ c.requires c.loop-k.invariant c.loop-k-test.true c.fill_row-in-loop-k.ensures

pub returns : goal.returns
unfolding filled
returns c = search rows_end
