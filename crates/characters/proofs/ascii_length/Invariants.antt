-- The bytes of the blocks passed are below 80, and what leads the rest makes up the whole. Assumes nothing.
use Rattle.std.proofs.Common.{◌≡◌, length, drop, ◌+◌, ◌≤◌}
use Rattle.std.specs.Slice.Iter.{chunks_exact_rest, chunks_exact_size}
use Rattle.characters.specs.Ascii.{ascii_length}
use Rattle.characters.proofs.ascii_length.Given as goal

abbrev pub invariant-loop-block : goal.invariant-loop-block
invariant-loop-block l = (chunks_exact_size l.block-iterator ≡ 16) × (chunks_exact_rest l.block-iterator ≡ drop l.at l.s)
    × (l.at ≤ length l.s) × (l.at + ascii_length (drop l.at l.s) ≡ ascii_length l.s)

abbrev pub decreases-loop-block : goal.decreases-loop-block
decreases-loop-block l = length (chunks_exact_rest l.block-iterator)
