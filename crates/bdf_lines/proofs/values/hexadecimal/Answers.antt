-- `hexadecimal` meets its contract. The invariant: if all digits so far are digits, i of them are below 16 ^ i, and the digits to come, after their number, say what
-- all of them say; if one is none, the answer is None. Assumes nothing.
use Prim.Native.Nat.{◌<◌}
use native.Mathlib.Omega.{arith}
use lib.ListN.{get_or}
use Rattle.bdf_lines.proofs.Numbers.{hex_start, hex_again, hex_end, hex_wrong}
use Rattle.bdf_lines.proofs.values.hexadecimal.Goals as goal

pub loop-b-init : goal.loop-b-init
loop-b-init c = search hex_start

pub loop-b-preserved : goal.loop-b-preserved
loop-b-preserved c = let small : get_or c.args.digits.now c.loop-b.b-index 0 < 256 = grind (arith, c.type_inv.digits c.loop-b.b-index) in search hex_again

pub returns-then-all-lt16 : goal.returns-then-all-lt16
returns-then-all-lt16 c = search hex_end

pub returns : goal.returns
returns c = search hex_wrong
