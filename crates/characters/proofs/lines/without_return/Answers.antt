-- `without_return` meets its contract: the definition makes the same test of the last byte. Assumes nothing.
use native.Mathlib.Omega.{arith}
use Rattle.characters.proofs.Feeds.{return_none, return_dropped, return_absent}
use Rattle.characters.proofs.lines.without_return.Goals as goal

pub returns-in-13-clause-result_value : goal.returns-in-13-clause-result_value
returns-in-13-clause-result_value c = search return_dropped

pub returns-in_default-clause-result_value : goal.returns-in_default-clause-result_value
returns-in_default-clause-result_value c = return_none _ (omega arith)

pub returns-in_default-2-clause-result_value : goal.returns-in_default-2-clause-result_value
returns-in_default-2-clause-result_value c = search return_absent
