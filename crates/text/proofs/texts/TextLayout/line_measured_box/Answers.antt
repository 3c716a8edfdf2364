-- `line_measured_box` meets its contract: a placed line's measured box starts at its corner and has no return. Assumes nothing.
use Rattle.text.proofs.LineBoxes.{line_measured_is, line_measured_ends}
use Rattle.text.proofs.texts.TextLayout.line_measured_box.Goals as goal

pub returns-clause-value : goal.returns-clause-value
returns-clause-value c = line_measured_is c.args.self.now c.args.line.now _ c.line_corner-corner.ensures _ c.without_return-shown.ensures.result_value _ c.measure_string.ensures

pub returns-clause-ends_fit : goal.returns-clause-ends_fit
returns-clause-ends_fit c = line_measured_ends c.args.self.now c.args.line.now _ c.line_corner-corner.ensures _ c.without_return-shown.ensures.result_value _ c.measure_string.ensures
