-- The invariant: the bytes passed are bounded, and their lead bytes are counted. Assumes nothing.
use mathlib.Core.Path.{◌≡◌}
use Prim.Native.Nat.{ℕ, ◌<◌, ◌≤◌}
use lib.ListN.{get_or}
use Rattle.mapping.specs.Search.{before}
use Rattle.mapping.specs.Search as search-specs
use Rattle.mapping.proofs.search.read_block.Given as goal

abbrev pub invariant-loop-b : goal.invariant-loop-b
invariant-loop-b l = (l.leads ≡ search-specs.leads l.bytes 0 l.b-index) × ((j : ℕ) → j < l.b-index → before (get_or l.bytes j 0) ≤ l.most)
