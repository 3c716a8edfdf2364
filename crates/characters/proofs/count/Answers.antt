-- `count` meets its contract: the leading bytes below 80 and the characters after them make up the whole. Assumes nothing.
use mathlib.Core.Logic.{inl}
use mathlib.Core.Path.{ap}
use native.Mathlib.Omega.{arith}
use lib.ListN.{length}
use Rattle.characters.proofs.Ascii.{ascii_head}
use Rattle.characters.proofs.Drained.{drained}
use Rattle.characters.proofs.Folds.{length-chars_from}
use Rattle.characters.proofs.count.Goals as goal

pub count-requires-clause-fits : goal.count-requires-clause-fits
count-requires-clause-fits c = let l = length-chars_from c.args.s.now c.ascii_length-n.result in inl (omega arith)

pub overflow_add-result : goal.overflow_add-result
overflow_add-result c =
    let h = ascii_head _ _ c.ascii_length-n.ensures in
    let l = length-chars_from c.args.s.now c.ascii_length-n.result in
    let (xs, d, e) = c.count.ensures.ran in
    let q = ap length (drained xs _ d) in
    omega arith

pub returns : goal.returns
returns c =
    let h = ascii_head _ _ c.ascii_length-n.ensures in
    let (xs, d, e) = c.count.ensures.ran in
    let q = ap length (drained xs _ d) in
    omega (arith, h.counted)
