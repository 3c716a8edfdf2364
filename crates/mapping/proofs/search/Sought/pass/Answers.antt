-- The invariant: what was passed over. Assumes nothing.
use Rattle.mapping.proofs.Blocks.{passes_lead, upto_fits, passes_hit, through_fits, passes_through}
use Rattle.mapping.proofs.search.Sought.pass.Goals as goal

pub loop-k-init : goal.loop-k-init
loop-k-init c = search passes_lead

pub overflow_add-count : goal.overflow_add-count
overflow_add-count c = search upto_fits

pub returns-in-Some : goal.returns-in-Some
returns-in-Some c = search passes_hit

pub overflow_add-count-in-loop-k : goal.overflow_add-count-in-loop-k
overflow_add-count-in-loop-k c = search through_fits

pub loop-k-preserved : goal.loop-k-preserved
loop-k-preserved c = search passes_through
