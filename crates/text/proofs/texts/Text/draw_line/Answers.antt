-- `Text::draw_line` meets its contract: a placed line is painted from its corner on, without its return. Assumes nothing.
use Rattle.std.proofs.Common.{rules}
use Rattle.text.proofs.Places.{shown_place}
use Rattle.text.proofs.Drawing.{line_painted, line_next_lem, line_count}
use Rattle.text.proofs.texts.Text.draw_line.Goals as goal

pub invariant_of-shown : goal.invariant_of-shown
invariant_of-shown c = record { limits = search (shown_place, rules) }

pub returns-clause-painted : goal.returns-clause-painted
returns-clause-painted c = line_painted c.args.self.now.layout c.args.line.now _ _ _ c.new.ensures.value _ _ c.without_return.ensures.result_value c.line_corner.ensures _ _ c.draw_string.ensures.painted

pub returns-clause-next_value : goal.returns-clause-next_value
returns-clause-next_value c = line_next_lem c.args.self.now.layout c.args.line.now _ _ _ c.new.ensures.value _ _ c.without_return.ensures.result_value c.line_corner.ensures _ c.draw_string.ensures.next_value

pub returns-clause-replaced_value : goal.returns-clause-replaced_value
returns-clause-replaced_value c = line_count c.args.self.now.layout c.args.line.now _ _ _ c.new.ensures.value _ _ c.without_return.ensures.result_value c.line_corner.ensures _ _ c.draw_string.ensures.replaced_value
