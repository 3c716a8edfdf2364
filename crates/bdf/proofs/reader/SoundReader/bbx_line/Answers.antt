-- `bbx_line` meets its contract: the tests of a box in its cell decide, and what they leave makes a box. Assumes nothing.
use Rattle.std.proofs.Common.{refl}
use Rattle.bdf.specs.Reader.{bbx_line}
use Rattle.bdf.proofs.Steps.{refused, there, box_bad, box_passed, box-box}
use Rattle.bdf.proofs.reader.SoundReader.bbx_line.Goals as goal

pub returns-in_err-numbers : goal.returns-in_err-numbers
unfolding bbx_line
returns-in_err-numbers c = refused _ _ c.ok_or.ensures.value (λ z. bbx_line z c.args.self.state) refl _ c.in_err-numbers.was _ c.from_residual.ensures.1

pub returns-then-not-is_in_cell : goal.returns-then-not-is_in_cell
returns-then-not-is_in_cell c = search (box_bad, there _ _ c.ok_or.ensures.value _ c.in_ok-numbers.was)

pub box_of-requires : goal.box_of-requires
box_of-requires c = search box-box

pub returns : goal.returns
returns c = search (box_passed, there _ _ c.ok_or.ensures.value _ c.in_ok-numbers.was)
