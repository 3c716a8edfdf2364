-- The invariant: what was passed over. Assumes nothing.
use Rattle.mapping.proofs.Blocks.{below_start, block_fits, below_block}
use Rattle.mapping.proofs.search.pass_blocks.Goals as goal

pub loop-k-init : goal.loop-k-init
loop-k-init c = search below_start

pub overflow_add-count : goal.overflow_add-count
overflow_add-count c = search block_fits

pub loop-k-preserved : goal.loop-k-preserved
loop-k-preserved c = search below_block
