-- The invariant: what is counted and the rest make up the whole, up to one past the limit, and the rest is well-formed if and only if the
-- whole is. Assumes nothing.
use mathlib.Core.Path.{◌≡◌}
use Prim.Native.Nat.{◌≤◌, ◌+◌, ◌-◌, min}
use lib.ListN.{length}
use Rattle.characters.specs.Utf8.{chars_from, well_formed_from}
use Rattle.mapping.specs.Mapping.{spelled, list_of}
use Rattle.mapping.proofs.check_mapping.Given as goal

abbrev pub invariant-loop-start : goal.invariant-loop-start
invariant-loop-start l = (l.c.at ≤ length l.mapping)
    × (l.count ≤ 65_537)
    × (well_formed_from l.mapping l.c.at ≡ well_formed_from l.mapping 0)
    × (min (l.count + length (spelled (chars_from l.mapping l.c.at))) 65_537 ≡ min (length (list_of l.mapping)) 65_537)

abbrev pub decreases-loop-start : goal.decreases-loop-start
decreases-loop-start l = length l.mapping - l.c.at
