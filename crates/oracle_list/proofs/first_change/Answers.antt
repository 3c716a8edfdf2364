-- The offset, then the bytes with their length.
use Rattle.oracle_list.proofs.Laws.{change_is}
use Rattle.oracle_list.proofs.first_change.Goals as goal

pub returns-clause-value : goal.returns-clause-value
returns-clause-value c = (c.in_ok-at.ensures.0, change_is _ _ _ c.in_ok-at.ensures.1 c.in_ok-bytes.ensures.value)
