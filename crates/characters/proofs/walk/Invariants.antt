-- The invariant: the rest is well-formed if and only if the text is. Each step goes forward. Assumes nothing.
use mathlib.Core.Path.{◌≡◌}
use Prim.Native.Nat.{◌≤◌, ◌-◌}
use lib.ListN.{length}
use Rattle.characters.specs.Utf8.{well_formed_from}
use Rattle.characters.proofs.walk.Given as goal

abbrev pub invariant-loop-c : goal.invariant-loop-c
invariant-loop-c g l = (l.c.at ≤ length l.s) × (well_formed_from l.s l.c.at ≡ well_formed_from l.s 0)

abbrev pub decreases-loop-c : goal.decreases-loop-c
decreases-loop-c g l = length l.s - l.c.at
