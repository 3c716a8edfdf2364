-- Refused with the font's code; else the font is listed, and its mapping gives the glyph.
use Rattle.calls.specs.Calls.{index_reply}
use Rattle.station.proofs.Calls.{glyph_refused, index_done}
use Rattle.station.proofs.station_index.Goals as goal

pub returns-in-Err : goal.returns-in-Err
unfolding index_reply
returns-in-Err c = glyph_refused _ _ c.in-Err.ensures.value _ _ c.from.ensures

pub returns-in-Ok : goal.returns-in-Ok
returns-in-Ok c = index_done _ _ _ _ c.in-Ok.ensures.same_bytes c.in-Ok.ensures.same_number c.in-Ok.ensures.value c.font-font.result c.font-font.ensures _ _ _ c.glyph_of-glyph.ensures c.from-in-Ok.ensures
