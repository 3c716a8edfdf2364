-- The invariant: the rest of the list, made from where the loop stands, gives what the whole list gives. Assumes nothing.
use Rattle.batch.proofs.Lists.{Stands}
use Rattle.batch.proofs.make_list.Given as goal

abbrev pub invariant-loop-entry : goal.invariant-loop-entry
invariant-loop-entry l = Stands l.initial.sheet l.initial.frame l.list l.sheet l.frame l.entry-iterator.rest.now l.made l.area
