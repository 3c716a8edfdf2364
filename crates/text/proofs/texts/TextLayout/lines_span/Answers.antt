-- `lines_span` meets its contract: each feed puts a line lower by the line height. Assumes nothing.
use Rattle.text.proofs.InkBounds.{span_fits, span_is, span_small}
use Rattle.text.proofs.texts.TextLayout.lines_span.Goals as goal

pub overflow_mul-result : goal.overflow_mul-result
overflow_mul-result c = search span_fits

pub returns-clause-value : goal.returns-clause-value
returns-clause-value c = search span_is

pub returns-clause-upper_bound : goal.returns-clause-upper_bound
returns-clause-upper_bound c = search span_small
