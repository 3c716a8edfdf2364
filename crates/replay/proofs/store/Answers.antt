-- Bytes that fit are copied to a part of their length; the others leave the list as it was.
use Rattle.std.proofs.Common.{arith}
use Rattle.replay.proofs.Laws.{stored_past, stored_cut, stored_all}
use Rattle.replay.proofs.store.Goals.{then-at-to-via-then-at-to, then-at-to-via-else-at-to+then-bytes-to}
use Rattle.replay.proofs.store.Goals as goal

pub returns-then-at-to-clause-to_after : goal.returns-then-at-to-clause-to_after
returns-then-at-to-clause-to_after c =
    elim c.then-at-to.branch [
      | then-at-to-via-then-at-to w ↦ stored_past _ _ _ w.if-at-to.true
      | then-at-to-via-else-at-to+then-bytes-to w ↦ stored_cut _ _ _ w.if-at-to.false w.if-bytes-to.true
    ]

pub returns-clause-to_after : goal.returns-clause-to_after
returns-clause-to_after c = stored_all _ _ _ _ (omega arith) (omega arith) c.copy_from_slice.ensures.after
