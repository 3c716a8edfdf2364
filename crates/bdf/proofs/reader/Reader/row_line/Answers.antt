-- `row_line` meets its contract: it goes by whether the line is a bitmap line. Assumes nothing.
use Rattle.std.proofs.Common.{refl}
use Rattle.bdf.specs.Reader.{row_line}
use Rattle.bdf.proofs.Steps.{refused, there, row_drawn}
use Rattle.bdf.proofs.reader.Reader.row_line.Goals as goal

pub returns-in_err-bits : goal.returns-in_err-bits
unfolding row_line
returns-in_err-bits c = refused _ _ c.ok_or.ensures.value (λ z. row_line z c.args.self) refl _ c.in_err-bits.was _ c.from_residual.ensures.1

pub returns : goal.returns
returns c = search (row_drawn, there _ _ c.ok_or.ensures.value _ c.in_ok-bits.was)
