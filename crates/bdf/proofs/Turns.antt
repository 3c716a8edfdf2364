-- What a line of a font file can do to its reader: the few forms of the answer, with what the line's tests give. Assumes nothing.
use Prim.Native.Nat.{ℕ, ◌+◌, ◌-◌, ◌^◌, ◌≤◌, ◌<◌}
use native.Mathlib.Omega.{arith}
use mathlib.Core.Path.{◌≡◌, refl}
use mathlib.Core.Bool.{Bool, true, false, not, cond, ◌&&◌}
use mathlib.Core.List.{List}
use lib.ListN.{length}
use lib.Dec.{ltb, leb, eqb}
use borrow.Author.Tests.{leb-true, ltb-true}
use Rattle.characters.specs.Utf8.{is_surrogate}
use Rattle.std.specs.Prelude.{Option, Some, None, Result, Ok, Err}
use Rattle.refusals.specs.declared.Refusal.{Refusal}
use Rattle.refusals.specs.declared.Refusal.TheVariants.{BdfLine, BdfLimit, BdfEncoding}
use Rattle.bdf_lines.specs.declared.values.Four.{Four}
use Rattle.bdf.specs.declared.reader.Answer.TheVariants.{Passed, Boxed, Encoded, Drawn}
use Rattle.bdf_lines.specs.declared.values.Number.{Number}
use Rattle.bdf.specs.declared.reader.Expected.{Expected}
use Rattle.bdf.specs.declared.reader.Expected.TheVariants.{StartFont, Font, Size, FontBoundingBox, Properties, Property, Chars, Glyph, Encoding, Swidth, Dwidth, Bbx, Attributes, Bitmap, Rows, Nothing}
use Rattle.bdf.specs.declared.reader.Reader.{Reader}
use Rattle.bdf.specs.declared.reader.Answer.{Answer}
use Rattle.bdf_lines.specs.Words.{words, is_comment, is_row, row_bits, row_of, is_alone, is_named, is_pair, has_numbers, count_of, four_of, encoding_of, is_hex_pair}
use Rattle.bdf_lines.specs.Keywords as word
use Rattle.bdf_lines.proofs.BitmapLines.{row_bits_lem}
use Rattle.bdf.specs.Reader.{box, is_cell, is_in_cell, is_character, spelling, leaving, moved, counted, with_cell, cell_line, properties_line, with_encoding, spelling_line, encoding_line, with_bbx, bbx_line, with_row, row_line, line_step, order, in_bitmap, step}

-- ---- the forms of an answer

-- of two lines in their order, p may come after o, or is o again: past FONTBOUNDINGBOX no line leads back before it, and up to ENDCHAR none leads to an earlier one
pub record Follows (o p : ℕ) : Type 0 where
  pub above : order Properties ≤ o → order Properties ≤ p
  pub inside : order Swidth ≤ p → p ≤ order Rows → (order Swidth ≤ o) × (o ≤ p)

-- the forms of the answer to a line after the reader r: refused; passed, with another line expected; the cell; a glyph's encoding; its box; a line of its bitmap
pub data Turn (r : Reader) : Result Answer Refusal → Type 0 where
  refused : (n : Refusal) → Turn r (Err n)
  passed : (e : Expected) (n : ℕ) → Follows (order r.expected) (order e) → Turn r (Ok (Passed (leaving e n r)))
  celled : (w h x y : Number) → order r.expected ≡ order FontBoundingBox → is_cell w h x y ≡ true → Turn r (Ok (Passed (with_cell (box w h x y) r)))
  encoded : (v : ℕ) → order r.expected ≡ order Encoding → (leb r.least v && (leb v 0x10FFFF && not (is_surrogate v))) ≡ true → r.mapping + length (spelling v) ≤ 65_535
      → Turn r (Ok (Encoded (with_encoding v r) v))
  boxed : (w h x y : Number) → order r.expected ≡ order Bbx → is_in_cell r.cell w h x y ≡ true → Turn r (Ok (Boxed (with_bbx (box w h x y) r)))
  drawn : (bits : ℕ) → order r.expected ≡ order Rows → r.read < r.bbx.height → bits < 2 ^ r.bbx.width → Turn r (Ok (Drawn (with_row r) bits))

module _ (r : Reader) where
  -- a line that has only to stand there, which leaves so many to come
  move-leaving : (x e : Expected) (n : ℕ) → Follows (order r.expected) (order e) → (good : Bool) → Turn r (moved good e (leaving x n r))
  move-leaving x e n f true = passed e n f
  move-leaving x e n f false = refused BdfLine

  -- a line that has only to stand there
  move : (e : Expected) → Follows (order r.expected) (order e) → (good : Bool) → Turn r (moved good e r)
  move e f good = move-leaving r.expected e r.left f good

  -- a line with a count
  count_turn : (e : Expected) → Follows (order r.expected) (order e) → (c : Option ℕ) → Turn r (counted c e r)
  count_turn e f (Some n) = passed e n f
  count_turn e f None = refused BdfLine

  -- FONTBOUNDINGBOX
  cell-turn : order r.expected ≡ order FontBoundingBox → (z : Option Four) → Turn r (cell_line z r)
  unfolding cell_line
  cell-turn o None = refused BdfLine
  cell-turn o (Some f) = go (is_cell f.width f.height f.x f.y) refl
    where
      go : (t : Bool) → is_cell f.width f.height f.x f.y ≡ t → Turn r (cond t (Ok (Passed (with_cell (box f.width f.height f.x f.y) r))) (Err BdfLimit))
      go true e = celled f.width f.height f.x f.y o e
      go false e = refused BdfLimit

  -- STARTPROPERTIES or CHARS
  properties-turn : order r.expected ≡ order Properties → (c d : Option ℕ) → Turn r (properties_line c d r)
  unfolding properties_line
  properties-turn o (Some n) d = passed Property n (omega arith)
  properties-turn o None d = count_turn Glyph (omega arith) d

  -- ENCODING, of a character that rises
  spelling-turn : order r.expected ≡ order Encoding → (v : ℕ) → (leb r.least v && (leb v 0x10FFFF && not (is_surrogate v))) ≡ true → Turn r (spelling_line v r)
  unfolding spelling_line
  spelling-turn o v c = go (leb (r.mapping + length (spelling v)) 65_535) refl
    where
      go : (t : Bool) → leb (r.mapping + length (spelling v)) 65_535 ≡ t → Turn r (cond t (Ok (Encoded (with_encoding v r) v)) (Err BdfLimit))
      go true e = encoded v o c (leb-true _ _ e)
      go false e = refused BdfLimit

  -- ENCODING
  encoding-turn : order r.expected ≡ order Encoding → (z : Option Number) → Turn r (encoding_line z r)
  unfolding encoding_line is_character
  encoding-turn o None = refused BdfLine
  encoding-turn o (Some n) = go (not n.negative) (leb n.size 0x10FFFF && not (is_surrogate n.size)) (leb r.least n.size) refl refl
    where
      go : (a b c : Bool) → (leb n.size 0x10FFFF && not (is_surrogate n.size)) ≡ b → leb r.least n.size ≡ c → Turn r (cond ((a && b) && c) (spelling_line n.size r) (Err BdfEncoding))
      go true true true p q = spelling-turn o n.size (rw (p, q))
      go true true false p q = refused BdfEncoding
      go true false c p q = refused BdfEncoding
      go false b c p q = refused BdfEncoding

  -- BBX
  box-turn : order r.expected ≡ order Bbx → (z : Option Four) → Turn r (bbx_line z r)
  unfolding bbx_line
  box-turn o None = refused BdfLine
  box-turn o (Some f) = go (is_in_cell r.cell f.width f.height f.x f.y) refl
    where
      go : (t : Bool) → is_in_cell r.cell f.width f.height f.x f.y ≡ t → Turn r (cond t (Ok (Boxed (with_bbx (box f.width f.height f.x f.y) r))) (Err BdfLimit))
      go true e = boxed f.width f.height f.x f.y o e
      go false e = refused BdfLimit

  -- a bitmap line
  row-turn : order r.expected ≡ order Rows → (l : List ℕ) → r.read < r.bbx.height → Turn r (row_line (row_of r.bbx.width l) r)
  unfolding row_line row_of
  row-turn o l h = go (is_row r.bbx.width l) refl
    where
      go : (t : Bool) → is_row r.bbx.width l ≡ t → Turn r (row_line (cond t (Some (row_bits r.bbx.width l)) None) r)
      go true e = drawn (row_bits r.bbx.width l) o h (row_bits_lem r.bbx.width l e)
      go false e = refused BdfLine

  module _ (l : List ℕ) (ws : List (List ℕ)) where
    -- the line that is expected
    line-turn : (e : Expected) → order r.expected ≡ order e → Turn r (line_step e r l ws)
    unfolding line_step
    line-turn StartFont o = move Font (omega arith) (is_pair word.start_font word.version ws)
    line-turn Font o = move Size (omega arith) (is_named word.font ws)
    line-turn Size o = move FontBoundingBox (omega arith) (has_numbers word.size 3 ws)
    line-turn FontBoundingBox o = cell-turn o (four_of word.font_bounding_box ws)
    line-turn Properties o = properties-turn o (count_of word.start_properties ws) (count_of word.chars ws)
    line-turn Property o = go (eqb r.left 0)
      where
        go : (t : Bool) → Turn r (cond t (moved (is_alone word.end_properties ws) Chars r) (Ok (Passed (leaving Property (r.left - 1) r))))
        go true = move Chars (omega arith) (is_alone word.end_properties ws)
        go false = passed Property (r.left - 1) (omega arith)
    line-turn Chars o = count_turn Glyph (omega arith) (count_of word.chars ws)
    line-turn Glyph o = go (eqb r.left 0)
      where
        go : (t : Bool) → Turn r (cond t (moved (is_alone word.end_font ws) Nothing r) (moved (is_named word.start_char ws) Encoding (leaving Glyph (r.left - 1) r)))
        go true = move Nothing (omega arith) (is_alone word.end_font ws)
        go false = move-leaving Glyph Encoding (r.left - 1) (omega arith) (is_named word.start_char ws)
    line-turn Encoding o = encoding-turn o (encoding_of word.encoding ws)
    line-turn Swidth o = move Dwidth (omega arith) (has_numbers word.swidth 2 ws)
    line-turn Dwidth o = move Bbx (omega arith) (has_numbers word.dwidth 2 ws)
    line-turn Bbx o = box-turn o (four_of word.bbx ws)
    line-turn Attributes o = go (is_hex_pair word.attributes ws)
      where
        go : (t : Bool) → Turn r (cond t (Ok (Passed (leaving Bitmap r.left r))) (moved (is_alone word.bitmap ws) Rows r))
        go true = passed Bitmap r.left (omega arith)
        go false = move Rows (omega arith) (is_alone word.bitmap ws)
    line-turn Bitmap o = move Rows (omega arith) (is_alone word.bitmap ws)
    line-turn Rows o = go (ltb r.read r.bbx.height) refl
      where
        go : (t : Bool) → ltb r.read r.bbx.height ≡ t → Turn r (cond t (row_line (row_of r.bbx.width l) r) (moved (is_alone word.end_char ws) Glyph r))
        go true e = row-turn o l (ltb-true _ _ e)
        go false e = move Glyph (omega arith) (is_alone word.end_char ws)
    line-turn Nothing o = refused BdfLine

  -- each line's answer has one of these forms
  pub turn : (l : List ℕ) → Turn r (step r l)
  unfolding step
  turn l = go (not (in_bitmap r) && is_comment word.comment (words l))
    where
      go : (t : Bool) → Turn r (cond t (Ok (Passed r)) (line_step r.expected r l (words l)))
      go true = passed r.expected r.left (omega arith)
      go false = line-turn l (words l) r.expected refl
