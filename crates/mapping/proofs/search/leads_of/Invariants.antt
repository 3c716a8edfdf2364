-- The invariant: the lead bytes among those passed that stand before n are counted. Assumes nothing.
use mathlib.Core.Path.{◌≡◌}
use Prim.Native.Nat.{min}
use Rattle.mapping.specs.Search.{leads}
use Rattle.mapping.proofs.search.leads_of.Given as goal

abbrev pub invariant-loop-i : goal.invariant-loop-i
invariant-loop-i l = l.count ≡ leads l.bytes 0 (min l.i l.n)
