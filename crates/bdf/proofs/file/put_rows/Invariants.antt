-- `put_rows` meets its contract. The invariant: the reader is the one after so many bitmap lines, and from the first line to the present one what the rest comes to and puts stays.
-- Assumes nothing.
use mathlib.Core.Path.{◌≡◌}
use Rattle.bdf.specs.Walk.{Carries, rows_read}
use Rattle.bdf.proofs.file.put_rows.Given as goal

abbrev pub invariant-loop-read : goal.invariant-loop-read
invariant-loop-read l = (l.present ≡ rows_read l.read l.fn.reader.state) × Carries l.fn.text l.writing l.size l.fn.reader.state l.initial.pieces l.present l.rest l.pieces
