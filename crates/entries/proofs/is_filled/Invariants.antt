-- The invariant: what is left is filled exactly if the whole list is. Assumes nothing.
use mathlib.Core.Path.{◌≡◌}
use Rattle.entries.specs.Entries.{is_filled}
use Rattle.entries.proofs.is_filled.Given as goal

abbrev pub invariant-loop : goal.invariant-loop
invariant-loop l = is_filled l.entries.rest.now ≡ is_filled l.list
