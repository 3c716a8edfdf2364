-- `fill_row` meets its contract: at a pixel those before it are grey and the others as they were. Assumes nothing.
use native.Mathlib.Omega.{arith}
use mathlib.Core.Path.{◌∙◌}
use borrow.Author.Rules.{rules}
use Rattle.geometry.proofs.Rows.{row_start, row_step, row_end, replicate-map_indexed}
use Rattle.geometry.proofs.filling.fill_row.Goals as goal

pub loop-pixel-init : goal.loop-pixel-init
loop-pixel-init c = search row_start

pub loop-pixel-preserved : goal.loop-pixel-preserved
loop-pixel-preserved c = row_step _ _ _ _ _ c.loop-pixel.invariant (omega (arith, c.loop-pixel.invariant.size)) (search rules)

pub returns : goal.returns
returns c = row_end _ _ _ _ _ c.loop-pixel.invariant (omega (arith, c.loop-pixel.invariant.size)) ∙ replicate-map_indexed _ _ _
