-- `counted` meets its contract: it goes by whether there is a count. Assumes nothing.
use Rattle.std.proofs.Common.{refl}
use Rattle.bdf.specs.Reader.{counted}
use Rattle.bdf.proofs.Steps.{counted_of, refused, there}
use Rattle.bdf.proofs.reader.Reader.counted.Goals as goal

pub returns-in_err-n : goal.returns-in_err-n
returns-in_err-n c = refused _ _ c.ok_or.ensures.value (λ z. counted z c.args.expected c.args.self) refl _ c.in_err-n.was _ c.from_residual.ensures.1

pub returns : goal.returns
returns c = search (counted_of, there _ _ c.ok_or.ensures.value _ c.in_ok-n.was)
