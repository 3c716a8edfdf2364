-- A reader of font files, line by line (docs/SHEET.md, Fonts from BDF): what each line does to it, or the refusal. Assumes nothing.
-- To be believed: it says what a font file means.
use Rattle.std.specs.Prelude.{ℕ, ◌+◌, ◌-◌, ◌/◌, ◌%◌, Bool, true, false, not, cond, ◌&&◌, List, [], ◌∷◌, map, length, Option, Some, None, Result, Ok, Err, ltb, leb, eqb}
use Rattle.characters.specs.Refusal.{need, or_else, all}
use Rattle.characters.specs.Utf8.{is_surrogate}
use Rattle.characters.specs.Lines.{lines, without_return}
use Rattle.refusals.specs.declared.Refusal.{Refusal}
use Rattle.refusals.specs.declared.Refusal.TheVariants.{BdfLine, BdfLimit, BdfEncoding}
use Rattle.refusals.specs.Numbers.{refusal_of}
use Rattle.bdf_lines.specs.declared.values.Number.{Number}
use Rattle.bdf_lines.specs.declared.values.Four.{Four}
use Rattle.bdf.specs.declared.reader.BoundingBox.{BoundingBox}
use Rattle.bdf.specs.declared.reader.Expected.{Expected}
use Rattle.bdf.specs.declared.reader.Expected.TheVariants.{StartFont, Font, Size, FontBoundingBox, Properties, Property, Chars, Glyph, Encoding, Swidth, Dwidth, Bbx, Attributes, Bitmap, Rows, Nothing}
use Rattle.bdf.specs.declared.reader.Reader.{Reader}
use Rattle.bdf.specs.declared.reader.Answer.{Answer}
use Rattle.bdf.specs.declared.reader.Answer.TheVariants.{Passed, Boxed, Encoded, Drawn}
use Rattle.bdf_lines.specs.Words.{words, is_alone, is_named, is_pair, is_comment, has_numbers, count_of, four_of, encoding_of, is_hex_pair, row_of}
use Rattle.bdf_lines.specs.Keywords as word

-- ---- boxes

-- offsets are counted from here, so that each is a natural number
abbrev pub origin : ℕ
origin = 1_000_000_000

-- "An offset beyond ±1,000,000,000 is 20"
abbrev pub is_offset : Number → Bool
is_offset n = leb n.size origin

unfoldable pub place : Number → ℕ
place n = cond n.negative (origin - n.size) (origin + n.size)

abbrev pub box : Number → Number → Number → Number → BoundingBox
box w h x y = record { width = w.size; height = h.size; x = place x; y = place y }

-- "a negative side", "An offset beyond ±1,000,000,000 is 20": what each box is asked
unfoldable pub is_box : Number → Number → Number → Number → Bool
is_box w h x y = all (not w.negative ∷ not h.negative ∷ is_offset x ∷ is_offset y ∷ [])

-- "The baseline is cell height plus the box's vertical offset minus 1, at least 0"
unfoldable pub baseline : BoundingBox → ℕ
baseline cell = cell.height + cell.y - (origin + 1)

-- "a negative side, a cell outside the limits, a baseline above 255"
abbrev pub cell_tests : Number → Number → Number → Number → List Bool
cell_tests w h x y =
    not w.negative ∷ not h.negative ∷ leb w.size 64 ∷ leb h.size 64 ∷ is_offset x ∷ is_offset y ∷ leb (baseline (box w h x y)) 255 ∷ []

unfoldable pub is_cell : Number → Number → Number → Number → Bool
is_cell w h x y = all (cell_tests w h x y)

-- "a negative side", "a BBX that passes its cell"
abbrev pub box_tests : BoundingBox → Number → Number → Number → Number → List Bool
box_tests cell w h x y =
    not w.negative ∷ not h.negative ∷ is_offset x ∷ is_offset y
    ∷ leb cell.x (place x) ∷ leb (place x + w.size) (cell.x + cell.width)
    ∷ leb cell.y (place y) ∷ leb (place y + h.size) (cell.y + cell.height) ∷ []

unfoldable pub is_in_cell : BoundingBox → Number → Number → Number → Number → Bool
is_in_cell cell w h x y = all (box_tests cell w h x y)

-- ---- encodings

-- a number that RFC 3629 allows for a character
unfoldable pub is_character : Number → Bool
is_character n = not n.negative && (leb n.size 0x10FFFF && not (is_surrogate n.size))

-- RFC 3629, section 3: the sequence of a character
unfoldable pub utf8 : ℕ → List ℕ
utf8 v =
    cond (ltb v 0x80) (v ∷ [])
    (cond (ltb v 0x800) ((0xC0 + v / 64) ∷ (0x80 + v % 64) ∷ [])
    (cond (ltb v 0x10000) ((0xE0 + v / 4_096) ∷ (0x80 + v / 64 % 64) ∷ (0x80 + v % 64) ∷ [])
    ((0xF0 + v / 262_144) ∷ (0x80 + v / 4_096 % 64) ∷ (0x80 + v / 64 % 64) ∷ (0x80 + v % 64) ∷ [])))

-- "The mapping lists the ENCODING values one by one; U+0000 is written as a range of itself"
unfoldable pub spelling : ℕ → List ℕ
spelling v = cond (eqb v 0) (0 ∷ 0 ∷ 0 ∷ []) (utf8 v)

-- ---- the reader

abbrev pub nowhere : BoundingBox
nowhere = record { width = 0; height = 0; x = 0; y = 0 }

-- before the first line
abbrev pub start : Reader
start = record { expected = StartFont; left = 0; cell = nowhere; bbx = nowhere; glyphs = 0; mapping = 0; least = 0; read = 0 }

-- the same, where the next line is another
abbrev pub expecting : Expected → Reader → Reader
expecting e r = record { expected = e; left = r.left; cell = r.cell; bbx = r.bbx; glyphs = r.glyphs; mapping = r.mapping; least = r.least; read = r.read }

-- the same, with so many property lines or glyphs to come
abbrev pub leaving : Expected → ℕ → Reader → Reader
leaving e n r = record { expected = e; left = n; cell = r.cell; bbx = r.bbx; glyphs = r.glyphs; mapping = r.mapping; least = r.least; read = r.read }

-- a line that only has to stand there
abbrev pub moved : Bool → Expected → Reader → Result Answer Refusal
moved true e r = Ok (Passed (expecting e r))
moved false e r = Err BdfLine

-- a line with a count
abbrev pub counted : Option ℕ → Expected → Reader → Result Answer Refusal
counted (Some n) e r = Ok (Passed (leaving e n r))
counted None e r = Err BdfLine

-- FONTBOUNDINGBOX: "The cell is FONTBOUNDINGBOX"; a glyph's box lies in it from the start
abbrev pub with_cell : BoundingBox → Reader → Reader
with_cell b r = record {
  expected = Properties;
  left = r.left;
  cell = b;
  bbx = record { width = 0; height = 0; x = b.x; y = b.y };
  glyphs = r.glyphs;
  mapping = r.mapping;
  least = r.least;
  read = r.read;
}

unfoldable pub cell_line : Option Four → Reader → Result Answer Refusal
cell_line None r = Err BdfLine
cell_line (Some f) r = cond (is_cell f.width f.height f.x f.y) (Ok (Passed (with_cell (box f.width f.height f.x f.y) r))) (Err BdfLimit)

-- STARTPROPERTIES, or else CHARS
unfoldable pub properties_line : Option ℕ → Option ℕ → Reader → Result Answer Refusal
properties_line (Some n) chars r = Ok (Passed (leaving Property n r))
properties_line None chars r = counted chars Glyph r

-- ENCODING: 21 for "an encoding that is no character or doesn't rise", then 20 for "a mapping above 65,535 bytes"
abbrev pub with_encoding : ℕ → Reader → Reader
with_encoding v r = record {
  expected = Swidth;
  left = r.left;
  cell = r.cell;
  bbx = r.bbx;
  glyphs = r.glyphs + 1;
  mapping = r.mapping + length (spelling v);
  least = v + 1;
  read = 0;
}

unfoldable pub spelling_line : ℕ → Reader → Result Answer Refusal
spelling_line v r = cond (leb (r.mapping + length (spelling v)) 65_535) (Ok (Encoded (with_encoding v r) v)) (Err BdfLimit)

unfoldable pub encoding_line : Option Number → Reader → Result Answer Refusal
encoding_line None r = Err BdfLine
encoding_line (Some n) r = cond (is_character n && leb r.least n.size) (spelling_line n.size r) (Err BdfEncoding)

-- BBX
abbrev pub with_bbx : BoundingBox → Reader → Reader
with_bbx b r = record { expected = Attributes; left = r.left; cell = r.cell; bbx = b; glyphs = r.glyphs; mapping = r.mapping; least = r.least; read = r.read }

unfoldable pub bbx_line : Option Four → Reader → Result Answer Refusal
bbx_line None r = Err BdfLine
bbx_line (Some f) r = cond (is_in_cell r.cell f.width f.height f.x f.y) (Ok (Boxed (with_bbx (box f.width f.height f.x f.y) r))) (Err BdfLimit)

-- a bitmap line: one more was read
abbrev pub with_row : Reader → Reader
with_row r = record { expected = Rows; left = r.left; cell = r.cell; bbx = r.bbx; glyphs = r.glyphs; mapping = r.mapping; least = r.least; read = r.read + 1 }

unfoldable pub row_line : Option ℕ → Reader → Result Answer Refusal
row_line None r = Err BdfLine
row_line (Some bits) r = Ok (Drawn (with_row r) bits)

-- what the line that is expected does, from its bytes and its words
unfoldable pub line_step : Expected → Reader → List ℕ → List (List ℕ) → Result Answer Refusal
line_step StartFont r l ws = moved (is_pair word.start_font word.version ws) Font r
line_step Font r l ws = moved (is_named word.font ws) Size r
line_step Size r l ws = moved (has_numbers word.size 3 ws) FontBoundingBox r
line_step FontBoundingBox r l ws = cell_line (four_of word.font_bounding_box ws) r
line_step Properties r l ws = properties_line (count_of word.start_properties ws) (count_of word.chars ws) r
line_step Property r l ws = cond (eqb r.left 0) (moved (is_alone word.end_properties ws) Chars r) (Ok (Passed (leaving Property (r.left - 1) r)))
line_step Chars r l ws = counted (count_of word.chars ws) Glyph r
line_step Glyph r l ws = cond (eqb r.left 0) (moved (is_alone word.end_font ws) Nothing r) (moved (is_named word.start_char ws) Encoding (leaving Glyph (r.left - 1) r))
line_step Encoding r l ws = encoding_line (encoding_of word.encoding ws) r
line_step Swidth r l ws = moved (has_numbers word.swidth 2 ws) Dwidth r
line_step Dwidth r l ws = moved (has_numbers word.dwidth 2 ws) Bbx r
line_step Bbx r l ws = bbx_line (four_of word.bbx ws) r
line_step Attributes r l ws = cond (is_hex_pair word.attributes ws) (Ok (Passed (expecting Bitmap r))) (moved (is_alone word.bitmap ws) Rows r)
line_step Bitmap r l ws = moved (is_alone word.bitmap ws) Rows r
line_step Rows r l ws = cond (ltb r.read r.bbx.height) (row_line (row_of r.bbx.width l) r) (moved (is_alone word.end_char ws) Glyph r)
line_step Nothing r l ws = Err BdfLine

-- the lines in their order
abbrev pub order : Expected → ℕ
order StartFont = 0
order Font = 1
order Size = 2
order FontBoundingBox = 3
order Properties = 4
order Property = 5
order Chars = 6
order Glyph = 7
order Encoding = 8
order Swidth = 9
order Dwidth = 10
order Bbx = 11
order Attributes = 12
order Bitmap = 13
order Rows = 14
order Nothing = 15

-- whether a bitmap line is next: "COMMENT lines and blank ones outside bitmaps don't count"
unfoldable pub in_bitmap : Reader → Bool
in_bitmap r = eqb (order r.expected) (order Rows) && ltb r.read r.bbx.height

-- what a line does
unfoldable pub step : Reader → List ℕ → Result Answer Refusal
step r l = cond (not (in_bitmap r) && is_comment word.comment (words l)) (Ok (Passed r)) (line_step r.expected r l (words l))

-- ---- all lines

-- the reader after a line that is not refused
abbrev pub reader_of : Answer → Reader
reader_of (Passed s) = s
reader_of (Boxed s) = s
reader_of (Encoded s v) = s
reader_of (Drawn s bits) = s

-- the reader after a line
abbrev pub after : Reader → Result Answer Refusal → Reader
after r (Ok a) = reader_of a
after r (Err n) = r

-- the refusal of the first line that is wrong; 19 for what "is missing when the file ends"
unfoldable pub first_refusal : Reader → List (List ℕ) → ℕ
first_refusal r [] = need (eqb (order r.expected) (order Nothing)) 19 0
first_refusal r (l ∷ ls) = or_else (refusal_of (step r l)) (first_refusal (after r (step r l)) ls)

-- the reader after the last line
unfoldable pub last_reader : Reader → List (List ℕ) → Reader
last_reader r [] = r
last_reader r (l ∷ ls) = last_reader (after r (step r l)) ls

-- "Lines end at a feed or the file's end, a return before it dropped"
unfoldable pub file_lines : List ℕ → List (List ℕ)
file_lines file = map without_return (lines file)
