-- Refused with the font's code; else the font is listed, and its mapping says yes or no.
use Rattle.calls.specs.Calls.{contains_reply}
use Rattle.station.proofs.Calls.{number_refused, contains_done}
use Rattle.station.proofs.station_contains.Goals as goal

pub returns-in-Err : goal.returns-in-Err
unfolding contains_reply
returns-in-Err c = number_refused _ _ c.in-Err.ensures.value _ _ c.from.ensures

pub returns-in-Ok : goal.returns-in-Ok
returns-in-Ok c = contains_done _ _ _ _ c.in-Ok.ensures.same_bytes c.in-Ok.ensures.same_number c.in-Ok.ensures.value c.font-font.result c.font-font.ensures _ _ _ c.contains.ensures c.from-in-Ok.ensures
