-- The invariant: what was passed over. Assumes nothing.
use Prim.Native.Nat.{◌*◌}
use Rattle.mapping.specs.Search.{Below}
use Rattle.mapping.proofs.search.pass_blocks.Given as goal

abbrev pub invariant-loop-k : goal.invariant-loop-k
invariant-loop-k l = Below l.bytes l.lead (record { at = 128 * l.k; count = l.count })
