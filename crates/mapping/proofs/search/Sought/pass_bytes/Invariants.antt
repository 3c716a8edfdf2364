-- The invariant: what was passed over. Assumes nothing.
use Rattle.mapping.specs.Search.{Passes}
use Rattle.mapping.proofs.search.Sought.pass_bytes.Given as goal

abbrev pub invariant-loop-at : goal.invariant-loop-at
invariant-loop-at l = Passes l.bytes l.self.needle (record { at = l.at; count = l.count })
