-- The number of the first two bytes.
use Rattle.std.proofs.Common.{arith}
use Rattle.oracle_list.proofs.Laws.{u16_is}
use Rattle.oracle_list.proofs.first_u16.Goals as goal

pub returns : goal.returns
returns c = let (e, d, f) = c.in_ok-bytes.ensures.cases in (u16_is _ _ _ e c.from_le_bytes.ensures, d, omega arith)
