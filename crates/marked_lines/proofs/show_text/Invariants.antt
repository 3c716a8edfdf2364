-- Each step goes forward, within the text.
use Rattle.std.proofs.Common.{length, ◌-◌, ◌≤◌}
use Rattle.marked_lines.proofs.show_text.Given as goal

abbrev pub invariant-loop-ch : goal.invariant-loop-ch
invariant-loop-ch g l = l.c.at ≤ length l.bytes

abbrev pub decreases-loop-ch : goal.decreases-loop-ch
decreases-loop-ch g l = length l.bytes - l.c.at
