-- Paper in the area, then the items in it, is the page in it.
use native.Mathlib.Omega.{arith}
use Rattle.drawing.proofs.Painting.{page_drawn}
use Rattle.drawing.proofs.repaint.Goals as goal

pub returns : goal.returns
returns c =
    let p = page_drawn _ _ _ _ _ _ _ _ c.target_of-target.ensures (rw c.header.ensures at c.paper-grey.ensures) c.new-frame.ensures.target_value c.new-frame.ensures.greys_value c.fill_solid.ensures c.draw_items.ensures in
    grind arith
