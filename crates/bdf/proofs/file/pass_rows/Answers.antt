-- `pass_rows` meets its contract: bitmap lines are next, or nothing changes. Assumes nothing.
use Rattle.bdf.proofs.Walks.{told, carries_none}
use Rattle.bdf.proofs.file.pass_rows.Goals as goal

pub put_rows-requires-clause-reader_value : goal.put_rows-requires-clause-reader_value
put_rows-requires-clause-reader_value c = search told

pub returns : goal.returns
returns c = search carries_none
