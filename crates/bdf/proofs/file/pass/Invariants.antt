-- `pass` meets its contract: after each line the rest of the file comes to the same. Assumes nothing.
use Rattle.bdf.proofs.Passes.{Passing}
use lib.ListN.{length}
use Rattle.bdf.proofs.file.pass.Given as goal

abbrev pub invariant-loop-next : goal.invariant-loop-next
invariant-loop-next l = Passing l.file l.writing l.size l.initial.pieces l.reader l.rest l.pieces

abbrev pub decreases-loop-next : goal.decreases-loop-next
decreases-loop-next l = length l.rest
