-- The bytes of the blocks passed are below 80, and what leads the rest makes up the whole. Assumes nothing.
use Rattle.std.proofs.Common.{◌∙◌}
use native.Mathlib.Omega.{arith}
use Rattle.characters.proofs.Chunks.{rest_is, chunk_within}
use Rattle.characters.proofs.Ascii.{block_below}
use Rattle.characters.proofs.ascii_length.Goals as goal

pub loop-block-preserved : goal.loop-block-preserved
loop-block-preserved c =
    let (z, r, h, i) = c.loop-block.invariant in
    let (y, (p, m), o) = c.in-Some.ensures.steps in
    let q = m ∙ z in
    (y ∙ z, rest_is c.args.s.now c.loop-block.at _ _ _ _ r p q, chunk_within c.args.s.now c.loop-block.at _ _ _ _ r p q (omega arith), block_below _ _ _ _ _ _ r p q (c.is_ascii.ensures c.if-not-is_ascii.false) i)
