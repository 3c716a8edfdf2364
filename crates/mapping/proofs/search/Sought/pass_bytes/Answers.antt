-- The invariant: what was passed over. Assumes nothing.
use Rattle.mapping.proofs.Blocks.{passes_none, byte_fits, passes_byte, skips_begin}
use Rattle.mapping.proofs.search.Sought.pass_bytes.Goals as goal

pub loop-at-init : goal.loop-at-init
loop-at-init c = search passes_none

pub returns-then-begins : goal.returns-then-begins
returns-then-begins c = search skips_begin

pub overflow_add-count : goal.overflow_add-count
overflow_add-count c = search byte_fits

pub loop-at-preserved : goal.loop-at-preserved
loop-at-preserved c = search passes_byte
