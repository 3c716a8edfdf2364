-- The invariant: each call ends within what follows the case's head.
use Rattle.std.proofs.Common.{length, ◌≤◌}
use Rattle.oracle_list.proofs.replay_calls.Given as goal

abbrev pub invariant-loop-i : goal.invariant-loop-i
invariant-loop-i g l = length l.behind ≤ length l.case.behind.now
