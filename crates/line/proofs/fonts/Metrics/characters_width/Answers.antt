-- `Metrics::characters_width` meets its contract: a text has no more characters than bytes, so the product fits. Assumes nothing.
use Rattle.line.proofs.Advances.{count_fits, width_fits}
use Rattle.line.proofs.fonts.Metrics.characters_width.Goals as goal

pub overflow_cast-n : goal.overflow_cast-n
overflow_cast-n c = search count_fits

pub overflow_mul-result : goal.overflow_mul-result
overflow_mul-result c = search width_fits

pub returns : goal.returns
returns c = rw c.count-n.ensures
