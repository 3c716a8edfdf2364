-- Nothing is passed over, or what is passed over by blocks and then by bytes. Assumes nothing.
use Rattle.mapping.proofs.Blocks.{count_fits}
use Rattle.mapping.proofs.Sequences.{needle_found}
use Rattle.mapping.proofs.Skipped.{skips_none, skips_needle}
use Rattle.mapping.proofs.search.skip.Goals as goal

pub returns-then-is_near : goal.returns-then-is_near
returns-then-is_near c = search skips_none

pub invariant_of-sought : goal.invariant_of-sought
invariant_of-sought c = record { is_needle = search needle_found }

pub overflow_add-result-2 : goal.overflow_add-result-2
overflow_add-result-2 c = search count_fits

pub returns : goal.returns
returns c = search skips_needle
