-- In the clip of the whole frame the whitespace's layer is the layer itself.
use native.Mathlib.Omega.{arith}
use Rattle.drawing.proofs.Painting.{whole_drawn}
use Rattle.drawing.proofs.draw_whitespace.Goals as goal

pub returns-clause-frame_after : goal.returns-clause-frame_after
returns-clause-frame_after c =
    let p = whole_drawn _ _ _ _ _ c.requires.framed c.whole_frame-frame.ensures.target_value c.whole_frame-frame.ensures.greys_value c.draw_whitespace_in.ensures.painted in
    grind arith
