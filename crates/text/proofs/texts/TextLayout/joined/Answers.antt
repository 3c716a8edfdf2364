-- `joined` meets its contract: the boxes of all lines are joined. Assumes nothing.
use mathlib.Core.Path.{refl}
use Rattle.std.proofs.lemmas.Fn.{says_at}
use Rattle.text.proofs.Remaining.{start_layout, start_left}
use Rattle.text.proofs.LineBoxes.{boxes_start, boxes_step, boxes_end}
use Rattle.text.proofs.texts.TextLayout.joined.Goals as goal

pub loop-line-init : goal.loop-line-init
loop-line-init g c =
    let i = c.into_iter-line-iterator.ensures.into_iter_gives in
    boxes_start _ _ _ _ _ (start_layout _ _ i _ c.lines_of-line-items.ensures.layout_value) (start_left _ _ i _ c.lines_of-line-items.ensures.left_value) c.nowhere-area.ensures.value c.nowhere-area.ensures.ends_fit

pub join-area-requires-clause-ends_fit : goal.join-area-requires-clause-ends_fit
join-area-requires-clause-ends_fit g c = c.loop-line.invariant.ends

pub join-area-requires-clause-ends_fit_2 : goal.join-area-requires-clause-ends_fit_2
join-area-requires-clause-ends_fit_2 g c = c.requires.ends_fit _ _ (says_at g.F.Fn c.box_of-shown.ensures refl)

pub loop-line-preserved : goal.loop-line-preserved
loop-line-preserved g c = boxes_step _ _ _ _ _ _ _ _ _ c.requires.ends_fit c.loop-line.invariant c.in-Some.ensures.steps (says_at g.F.Fn c.box_of-shown.ensures refl) c.join-area.ensures

pub returns-clause-value : goal.returns-clause-value
returns-clause-value g c = boxes_end _ _ _ _ _ c.loop-line.invariant c.in-None.ensures.steps.0

pub returns-clause-ends_fit : goal.returns-clause-ends_fit
returns-clause-ends_fit g c = c.loop-line.invariant.ends
