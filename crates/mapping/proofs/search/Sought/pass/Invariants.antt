-- The invariant: what was passed over. Assumes nothing.
use Prim.Native.Nat.{◌+◌, ◌*◌}
use Rattle.mapping.specs.Search.{Passes}
use Rattle.mapping.proofs.search.Sought.pass.Given as goal

abbrev pub invariant-loop-k : goal.invariant-loop-k
invariant-loop-k l = Passes l.bytes l.self.needle (record { at = l.blocks.at + 64 * l.k; count = l.count })
