-- `Text::draw` meets its contract: all lines are painted and counted. Assumes nothing.
use Rattle.text.proofs.Remaining.{start_layout, start_left}
use Rattle.text.proofs.Drawing.{paint_start, paint_step, paint_end, count_start, count_fits, count_step, next_end, count_end}
use Rattle.text.proofs.texts.Text.draw.Goals as goal

pub loop-line-init : goal.loop-line-init
loop-line-init c =
    let i = c.into_iter-line-iterator.ensures.into_iter_gives in
    let left = start_left _ _ i _ c.lines-line-items.ensures.left_value in
    record { painted = paint_start _ _ _ (start_layout _ _ i _ c.lines-line-items.ensures.layout_value) left; counted = count_start _ _ left }

pub overflow_add-replaced : goal.overflow_add-replaced
overflow_add-replaced c = count_fits c.args.self.now _ _ _ c.loop-line.invariant.counted _ _ c.in-Some.ensures.steps c.loop-line.invariant.painted.same_layout _ c.draw_line-drawn.ensures.replaced_value _ c.unwrap_or-replaced.ensures

pub loop-line-preserved : goal.loop-line-preserved
loop-line-preserved c = record {
  painted = paint_step c.args.self.now _ _ _ c.loop-line.invariant.painted _ _ c.in-Some.ensures.steps _ c.draw_line-drawn.ensures.painted;
  counted = count_step c.args.self.now _ _ _ c.loop-line.invariant.counted _ _ c.in-Some.ensures.steps c.loop-line.invariant.painted.same_layout _ c.draw_line-drawn.ensures.replaced_value _ c.unwrap_or-replaced.ensures _ c.draw_line-drawn.ensures.next_value;
}

pub returns-clause-painted : goal.returns-clause-painted
returns-clause-painted c = paint_end _ _ _ _ c.loop-line.invariant.painted c.in-None.ensures.steps.0

pub returns-clause-next_value : goal.returns-clause-next_value
returns-clause-next_value c = next_end _ _ _ _ c.loop-line.invariant.counted c.in-None.ensures.steps.0

pub returns-clause-replaced_value : goal.returns-clause-replaced_value
returns-clause-replaced_value c = count_end _ _ _ _ c.loop-line.invariant.counted c.in-None.ensures.steps.0
