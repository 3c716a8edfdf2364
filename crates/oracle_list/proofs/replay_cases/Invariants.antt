-- The invariant: there are no more cases than bytes before what is left.
use Rattle.std.proofs.Common.{length, ◌+◌, ◌≤◌}
use Rattle.oracle_list.proofs.replay_cases.Given as goal

abbrev pub invariant-loop-left : goal.invariant-loop-left
invariant-loop-left g l = l.number + length l.left ≤ length l.list

abbrev pub decreases-loop-left : goal.decreases-loop-left
decreases-loop-left g l = length l.left
