-- `line_ink_box` meets its contract: a placed line's ink box starts at its corner and has no return. Assumes nothing.
use Rattle.text.proofs.LineBoxes.{corner_near, line_ink_is, line_ink_ends}
use Rattle.text.proofs.texts.TextLayout.line_ink_box.Goals as goal

pub ink_box-requires-clause-top_limit : goal.ink_box-requires-clause-top_limit
ink_box-requires-clause-top_limit c = record { near_top = corner_near c.args.self.now c.args.line.now _ c.line_corner-corner.ensures }

pub returns-clause-value : goal.returns-clause-value
returns-clause-value c = line_ink_is c.args.self.now c.args.line.now _ c.line_corner-corner.ensures _ c.without_return-shown.ensures.result_value _ c.ink_box.ensures

pub returns-clause-ends_fit : goal.returns-clause-ends_fit
returns-clause-ends_fit c = line_ink_ends c.args.self.now c.args.line.now _ c.line_corner-corner.ensures _ c.without_return-shown.ensures.result_value _ c.ink_box.ensures
