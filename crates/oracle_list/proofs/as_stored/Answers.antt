-- The bytes before the change, those of the change and those after it are the whole.
use Rattle.oracle_list.proofs.Laws.{changed_is}
use Rattle.oracle_list.proofs.as_stored.Goals.{then-same_start, else-same_start}
use Rattle.oracle_list.proofs.as_stored.Goals as goal

pub returns-then-has_at : goal.returns-then-has_at
returns-then-has_at c =
    λ t. elim c.if-same_start.branch [
      | then-same_start w ↦ changed_is _ _ _ _ _ c.from-at.ensures (c.same_start.ensures.0 w.if-same_start.true) (w.has_at.ensures.0 (cc (w.value-is, c.if-has_at.true))) (c.same_end.ensures.0 t)
      | else-same_start w ↦ cc
    ]
