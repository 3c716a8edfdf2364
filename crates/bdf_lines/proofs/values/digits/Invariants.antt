-- `digits` meets its contract. The invariant: the digits to come, after the number so far, say what the word says. Assumes nothing.
use Prim.Native.Nat.{◌≤◌}
use mathlib.Core.Path.{◌≡◌}
use lib.ListN.{drop}
use Rattle.bdf_lines.specs.Words.{most, digits_of}
use Rattle.bdf_lines.proofs.Numbers.{digits_from}
use Rattle.bdf_lines.proofs.values.digits.Given as goal

abbrev pub invariant-loop-b : goal.invariant-loop-b
invariant-loop-b l = (l.v ≤ most) × (digits_from l.minus l.v (drop l.b-index l.word) ≡ digits_of l.minus l.word)
