-- The loop's invariant: painting the items that are left on the present frame is painting all on the entry frame.
use Rattle.drawing.proofs.Painting.{ItemsDrawn}
use Rattle.drawing.proofs.draw_items.Given as goal

abbrev pub invariant-loop-n : goal.invariant-loop-n
invariant-loop-n l = ItemsDrawn l.sheet.bytes.now l.initial.frame l.n l.frame
