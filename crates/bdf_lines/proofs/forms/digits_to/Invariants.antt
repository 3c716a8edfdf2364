-- `digits_to` meets its contract: the digits to come go on with the number so far. Assumes nothing.
use Prim.Native.Nat.{◌≤◌}
use Rattle.bdf_lines.specs.Words.{most}
use Rattle.bdf_lines.proofs.Stands.{Running}
use Rattle.bdf_lines.proofs.forms.digits_to.Given as goal

abbrev pub invariant-loop-i : goal.invariant-loop-i
invariant-loop-i l = (l.v ≤ most) × Running l.text l.i l.v
