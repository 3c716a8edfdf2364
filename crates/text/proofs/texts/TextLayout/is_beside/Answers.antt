-- `TextLayout::is_beside` meets its contract: an ink box lies between the columns that are found, and the clip lies beside them. Assumes nothing.
use Rattle.text.proofs.InkBounds.{reach-fits, right-fits, apart_left, apart_right}
use Rattle.text.proofs.texts.TextLayout.is_beside.Goals as goal

pub returns-then-clip-saturating_sub : goal.returns-then-clip-saturating_sub
returns-then-clip-saturating_sub c = search apart_left

pub overflow_add-result : goal.overflow_add-result
overflow_add-result c = search reach-fits

pub overflow_add-result-2 : goal.overflow_add-result-2
overflow_add-result-2 c = search right-fits

pub returns : goal.returns
returns c = search apart_right
