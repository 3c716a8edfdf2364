-- The invariant: the bytes passed are bounded, and their lead bytes are counted. Assumes nothing.
use native.Mathlib.Omega.{arith}
use Rattle.mapping.proofs.Blocks.{leads-start, leads_more, leads_fit, bounded_more}
use Rattle.mapping.proofs.search.read_block.Goals as goal

pub loop-b-init : goal.loop-b-init
loop-b-init c = (search leads-start, λ j a. absurd (omega arith))

pub overflow_add-leads : goal.overflow_add-leads
overflow_add-leads c = search leads_fit

pub loop-b-preserved : goal.loop-b-preserved
loop-b-preserved c = (search leads_more, search bounded_more)
