-- `copy_bytes` meets its contract: at index i the first i bytes are those given. Assumes nothing.
use native.Mathlib.Omega.{arith}
use mathlib.Core.Path.{refl, ◌∙◌}
use Rattle.geometry.proofs.Rows.{row_start, row_step, row_end, copied}
use Rattle.geometry.proofs.filling.copy_bytes.Goals as goal

pub loop-i-init : goal.loop-i-init
loop-i-init c = search row_start

pub loop-i-preserved : goal.loop-i-preserved
loop-i-preserved c = row_step _ _ _ _ _ c.loop-i.invariant (omega (arith, c.loop-i.invariant.size)) refl

pub returns : goal.returns
returns c = row_end _ _ _ _ _ c.loop-i.invariant (omega (arith, c.loop-i.invariant.size)) ∙ copied _ _ (omega arith)
