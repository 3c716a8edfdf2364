-- What holds of a reader between two lines: the limits that keep its sums small, and what is known by the line that is expected. Assumes nothing.
-- Serves contracts: nothing here has to be believed.
use Rattle.std.specs.Prelude.{◌≤◌, ◌≡◌}
use Rattle.bdf_lines.specs.declared.values.Number.{Number}
use Rattle.bdf.specs.declared.reader.Expected.TheVariants.{Swidth, Bitmap, Rows}
use Rattle.bdf.specs.declared.reader.Reader.{Reader}
use Rattle.bdf.specs.Reader.{origin, order}
use Rattle.bdf.specs.Writing.{InCell, GoodCell}

-- four numbers that make a box: sides of 0 to 64, and offsets within ±1,000,000,000
pub record IsBox (w h x y : Number) : Type 0 where
  pub width : w.size ≤ 64
  pub height : h.size ≤ 64
  pub left : x.size ≤ origin
  pub foot : y.size ≤ origin

-- a reader between two lines
pub record Within (r : Reader) : Type 0 where
  pub good_cell : GoodCell r.cell
  pub in_cell : InCell r.cell r.bbx
  pub counted : r.glyphs ≤ r.mapping
  pub short : r.mapping ≤ 65_535
  -- from ENCODING to BITMAP no bitmap line was read, then no more than there are, and up to ENDCHAR there is a glyph
  pub fresh : order Swidth ≤ order r.expected → order r.expected ≤ order Bitmap → r.read ≡ 0
  pub few : order r.expected ≡ order Rows → r.read ≤ r.bbx.height
  pub begun : order Swidth ≤ order r.expected → order r.expected ≤ order Rows → 1 ≤ r.glyphs
