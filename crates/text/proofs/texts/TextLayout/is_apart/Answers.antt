-- `TextLayout::is_apart` meets its contract: an ink box lies between the columns and rows that are found, and the clip lies beside, above or below
-- them. Assumes nothing.
use mathlib.Core.Path.{refl}
use Rattle.text.proofs.InkBounds.{apart_none, top_fits, apart_first, span_end_fits, foot-fits, apart_below}
use Rattle.text.proofs.texts.TextLayout.is_apart.Goals as goal

pub returns-then-is_beside : goal.returns-then-is_beside
returns-then-is_beside c = λ _. c.is_beside.ensures c.if-is_beside.true _ _

pub returns-then-rows-eq0 : goal.returns-then-rows-eq0
returns-then-rows-eq0 c = λ _. apart_none _ _ _ _ _ _ _ _ c.ink_rows-rows.ensures c.if-rows-eq0.true

pub overflow_add-top : goal.overflow_add-top
overflow_add-top c = search top_fits

pub returns-then-clip-saturating_sub : goal.returns-then-clip-saturating_sub
returns-then-clip-saturating_sub c = λ _. apart_first _ _ _ _ _ _ _ _ c.ink_rows-rows.ensures _ _ c.top_edge-edge.ensures refl _ c.saturating_sub.ensures c.if-clip-saturating_sub.true

pub overflow_add-result : goal.overflow_add-result
overflow_add-result c = search span_end_fits

pub overflow_add-result-2 : goal.overflow_add-result-2
overflow_add-result-2 c = search foot-fits

pub returns : goal.returns
returns c = λ e. apart_below _ _ _ _ _ _ _ _ c.ink_rows-rows.ensures _ _ c.top_edge-edge.ensures refl _ c.lines_span.ensures.value e
