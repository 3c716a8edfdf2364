-- Where the greatest byte is below 80, each is. Assumes nothing.
use native.Mathlib.Omega.{arith}
use borrow.Author.Tests.{ltb-true}
use Rattle.characters.proofs.Ascii.{all_below}
use Rattle.characters.proofs.is_ascii.Goals as goal

pub returns : goal.returns
returns c t = all_below c.args.block.now (λ k l. omega (arith, ltb-true _ _ t, c.loop-b.invariant k (omega (arith, c.loop-b-test.false))))
