-- The invariant: the walker stands at an offset of its line, and what is counted and what is still to come make up the whole. Each step goes forward.
use Rattle.std.proofs.Common.{◌≡◌, length, ◌+◌, ◌-◌, ◌≤◌}
use Rattle.characters.specs.Utf8.{chars_from}
use Rattle.walked_lines.proofs.walk_line.Given as goal

abbrev pub invariant-loop-after : goal.invariant-loop-after
invariant-loop-after g l =
    (l.w.line.now ≡ l.line) × (l.n ≤ l.w.at) × (l.w.at ≤ length l.w.line.now) × (l.n + length (chars_from l.w.line.now l.w.at) ≡ length (chars_from l.line 0))

abbrev pub decreases-loop-after : goal.decreases-loop-after
decreases-loop-after g l = length l.w.line.now - l.w.at
