-- `hexadecimal` meets its contract. The invariant: if all digits so far are digits, i of them are below 16 ^ i, and the digits to come, after their number, say what
-- all of them say; if one is none, the answer is None. Assumes nothing.
use Rattle.bdf_lines.proofs.Numbers.{HexInv}
use Rattle.bdf_lines.proofs.values.hexadecimal.Given as goal

abbrev pub invariant-loop-b : goal.invariant-loop-b
invariant-loop-b l = HexInv l.digits l.v l.all l.b-index
