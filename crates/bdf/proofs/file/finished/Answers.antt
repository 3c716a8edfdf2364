-- `finished` meets its contract: lines may only end where no more are expected. Assumes nothing.
use Rattle.std.proofs.Common.{sym}
use denote.Enum.Bare.{same_true, same_false}
use Rattle.bdf.specs.contracts.reader.Expected.{the_type}
use Rattle.bdf.proofs.Walks.{done, not_done}
use Rattle.bdf.proofs.file.finished.Goals as goal

pub returns-then-eq : goal.returns-then-eq
returns-then-eq c = done _ (same_true the_type tt _ _ (sym c.if-eq.ensures))

pub returns : goal.returns
returns c = not_done _ (same_false the_type _ _ (sym c.if-eq.ensures))
