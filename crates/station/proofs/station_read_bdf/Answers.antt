-- Each outcome of reading has its reply; the output stays as reading left it.
use Rattle.station.proofs.Calls.{read_refused, read_written}
use Rattle.station.proofs.station_read_bdf.Goals as goal

pub returns-in-Err-clause-value : goal.returns-in-Err-clause-value
returns-in-Err-clause-value c = read_refused _ _ _ _ c.in-Err.ensures.code c.from.ensures

pub returns-in-Ok-clause-value : goal.returns-in-Ok-clause-value
returns-in-Ok-clause-value c = read_written _ _ _ c.in-Ok.ensures.code c.in-Ok.ensures.font_length
