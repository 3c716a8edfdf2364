-- `Text::paint` meets its contract: what is painted is all lines, or those above the first one below the clip. Assumes nothing.
use Rattle.text.proofs.Remaining.{start_layout, start_left}
use Rattle.text.proofs.Drawing.{paint_nothing, paint_start, paint_step, paint_below, paint_end, next_is, next_fits}
use Rattle.text.proofs.texts.Text.paint.Goals as goal

pub returns-then-starts_below : goal.returns-then-starts_below
returns-then-starts_below c = paint_nothing c.args.self.now _ _ c.starts_below.ensures c.if-starts_below.true

pub loop-line-init : goal.loop-line-init
loop-line-init c =
    let i = c.into_iter-line-iterator.ensures.into_iter_gives in
    paint_start _ _ _ (start_layout _ _ i _ c.lines-line-items.ensures.layout_value) (start_left _ _ i _ c.lines-line-items.ensures.left_value)

pub overflow_add-y : goal.overflow_add-y
overflow_add-y c = next_fits c.args.self.now _ _ _ c.loop-line.invariant _ _ c.in-Some.ensures.steps _ c.line_height-height.ensures

pub returns-then-starts_below-2 : goal.returns-then-starts_below-2
returns-then-starts_below-2 c =
    let g = c.in-Some.ensures.steps in
    let n = next_is c.args.self.now _ _ _ c.loop-line.invariant _ _ g _ c.line_height-height.ensures in
    paint_below c.args.self.now _ _ _ (paint_step c.args.self.now _ _ _ c.loop-line.invariant _ _ g _ c.draw_line.ensures.painted) _ n _ c.starts_below-in-loop-line.ensures c.if-starts_below-2.true

pub loop-line-preserved : goal.loop-line-preserved
loop-line-preserved c = paint_step c.args.self.now _ _ _ c.loop-line.invariant _ _ c.in-Some.ensures.steps _ c.draw_line.ensures.painted

pub returns : goal.returns
returns c = paint_end c.args.self.now _ _ _ c.loop-line.invariant c.in-None.ensures.steps.0
