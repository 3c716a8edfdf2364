-- The invariant: nothing begins at a byte passed that counts for more than is left. Assumes nothing.
use mathlib.Core.Path.{◌≡◌}
use mathlib.Core.Bool.{false}
use Prim.Native.Nat.{ℕ, ◌+◌, ◌<◌, ◌≤◌}
use Rattle.mapping.specs.Search.{may_begin_at}
use Rattle.mapping.proofs.search.Sought.hit.Given as goal

abbrev pub invariant-loop-i : goal.invariant-loop-i
invariant-loop-i l = (l.left ≤ 64)
    × ((j : ℕ) → j < l.i → j + l.left < 64 → may_begin_at l.bytes l.needle j ≡ false)
