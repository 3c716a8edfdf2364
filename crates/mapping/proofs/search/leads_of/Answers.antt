-- The invariant: the lead bytes among those passed that stand before n are counted. Assumes nothing.
use Rattle.mapping.proofs.Blocks.{counted_start, counted_more, counted_fits}
use Rattle.mapping.proofs.search.leads_of.Goals as goal

pub loop-i-init : goal.loop-i-init
loop-i-init c = search counted_start

pub overflow_add-count : goal.overflow_add-count
overflow_add-count c = search counted_fits

pub loop-i-preserved : goal.loop-i-preserved
loop-i-preserved c = search counted_more
