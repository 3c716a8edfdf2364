-- `copy_bytes` meets its contract: at index i the first i bytes are those given. Assumes nothing.
use lib.ListN.{get_or}
use Rattle.geometry.proofs.Rows.{FirstPainted}
use Rattle.geometry.proofs.filling.copy_bytes.Given as goal

abbrev pub invariant-loop-i : goal.invariant-loop-i
invariant-loop-i l = FirstPainted (λ k x. get_or l.from k 0) 0 l.i l.initial.to l.to
