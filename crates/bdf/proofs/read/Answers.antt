-- `read` meets its contract: a file that is not measured is refused, and else its font is written. Assumes nothing.
use Rattle.std.proofs.lemmas.Result.{err_from_is_err_and}
use Rattle.bdf.proofs.Fonts.{nothing_room, nothing_good, measured_is, file_refused, file_kept}
use Rattle.bdf.proofs.read.Goals as goal

pub pass-requires-clause-room : goal.pass-requires-clause-room
pass-requires-clause-room c = search nothing_room

pub pass-requires-clause-file_value : goal.pass-requires-clause-file_value
pass-requires-clause-file_value c = search nothing_good

pub returns-in_err-last-clause-code : goal.returns-in_err-last-clause-code
returns-in_err-last-clause-code c = let p = err_from_is_err_and c.from_residual.result c.from_residual.ensures.1 in rw (p.1, p.2) (search (file_refused, c.in_err-last.was))

pub returns-in_err-last-clause-output_after : goal.returns-in_err-last-clause-output_after
returns-in_err-last-clause-output_after c = search (file_kept, c.in_err-last.was)

pub invariant_of-write : goal.invariant_of-write
invariant_of-write c = search (measured_is, c.in_ok-last.was)
