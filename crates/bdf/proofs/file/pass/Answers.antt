-- `pass` meets its contract. The invariant: what the lines so far come to and put is what the rest leaves. Assumes nothing.
use Rattle.std.proofs.lemmas.Result.{err_from_is_err_and}
use Rattle.std.proofs.lemmas.Option.{MatchOption-at_some, MatchOption-at_none}
use Rattle.bdf.proofs.Passes.{pass_start, pass_here, pass_room, pass_refused, pass_kept, pass_on, pass_end, pass_put, pass_less}
use Rattle.bdf.proofs.Moves.{move_less, move_on}
use Rattle.bdf.proofs.file.pass.Goals as goal

pub loop-next-init : goal.loop-next-init
loop-next-init c = search pass_start

pub pass_rows-progress-requires : goal.pass_rows-progress-requires
pass_rows-progress-requires c = search pass_here

pub loop-next-smaller-in-Some : goal.loop-next-smaller-in-Some
loop-next-smaller-in-Some c = search (move_less, c.in-Some.ensures)

pub loop-next-preserved-in-Some : goal.loop-next-preserved-in-Some
loop-next-preserved-in-Some c = search (move_on, c.in-Some.ensures)

pub put_line-requires : goal.put_line-requires
put_line-requires c = search pass_room

pub returns-in_err-next-clause-value : goal.returns-in_err-next-clause-value
returns-in_err-next-clause-value c = let p = err_from_is_err_and c.from_residual.result c.from_residual.ensures.1 in rw (p.1, p.2) (search (pass_refused, c.in_err-next.ensures.refused))

pub returns-in_err-next-clause-pieces_after : goal.returns-in_err-next-clause-pieces_after
returns-in_err-next-clause-pieces_after c = search (pass_kept, c.in_err-next.ensures.refused)

pub returns-in_default-more-clause-value : goal.returns-in_default-more-clause-value
returns-in_default-more-clause-value c = search (pass_end, MatchOption-at_none _ _ c.in_default-more.is c.in_ok-next.ensures.read)

pub returns-in_default-more-clause-pieces_after : goal.returns-in_default-more-clause-pieces_after
returns-in_default-more-clause-pieces_after c = search (pass_put, MatchOption-at_none _ _ c.in_default-more.is c.in_ok-next.ensures.read)

pub loop-next-smaller : goal.loop-next-smaller
loop-next-smaller c = search (pass_less, MatchOption-at_some _ _ _ c.in-Some-more.is c.in_ok-next.ensures.read)

pub loop-next-preserved : goal.loop-next-preserved
loop-next-preserved c = search (pass_on, MatchOption-at_some _ _ _ c.in-Some-more.is c.in_ok-next.ensures.read)
