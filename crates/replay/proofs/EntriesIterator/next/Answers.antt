-- An entry is all that is left; what stands behind its size is left then.
use Rattle.std.proofs.Common.{rules}
use mathlib.Core.Path.{refl}
use Rattle.std.proofs.lemmas.Fn.{says_at}
use Rattle.replay.proofs.Laws.{behind_last, behind_some}
use Rattle.replay.proofs.EntriesIterator.next.Goals.{then-size-eq0, else-size-eq0}
use Rattle.replay.proofs.EntriesIterator.next.Goals as goal

pub returns-clause-steps : goal.returns-clause-steps
returns-clause-steps g c = record {
  any_left = search rules;
  whole = refl;
  size = c.size-size.result;
  told = says_at g.F.Fn c.size-size.ensures refl;
  rest_left = elim c.if-size-eq0.branch [
    | then-size-eq0 w ↦ behind_last _ _ _ w.if-size-eq0.true (cc)
    | else-size-eq0 w ↦ behind_some _ _ _ w.if-size-eq0.false (cc)
  ];
  same_sizes = refl;
}
