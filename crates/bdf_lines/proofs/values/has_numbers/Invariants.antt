-- `has_numbers` meets its contract. The invariant: the words to come are the numbers left if and only if the line has n. Assumes nothing.
use Prim.Native.Nat.{◌-◌}
use mathlib.Core.Path.{◌≡◌}
use Rattle.bdf_lines.specs.Words.{words, are_numbers, has_numbers}
use Rattle.bdf_lines.proofs.values.has_numbers.Given as goal

abbrev pub invariant-loop : goal.invariant-loop
invariant-loop l = are_numbers (l.n - l.counter) (words l.rest) ≡ has_numbers l.name l.n (words l.line)
