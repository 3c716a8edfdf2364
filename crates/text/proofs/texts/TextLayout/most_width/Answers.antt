-- `most_width` meets its contract: a short text of a font within the limits is not too wide. Assumes nothing.
use Rattle.text.proofs.InkBounds.{width_most, width_fits}
use Rattle.text.proofs.texts.TextLayout.most_width.Goals as goal

pub overflow_mul-result : goal.overflow_mul-result
overflow_mul-result c = search width_fits

pub returns-clause-upper_bound : goal.returns-clause-upper_bound
returns-clause-upper_bound c = search width_most
