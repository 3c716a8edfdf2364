-- The font that a file gives: its glyphs, and its record, atlas and mapping as bytes (docs/SHEET.md, Fonts from BDF). Assumes nothing.
-- To be believed: it says what a font file means.
use Rattle.std.specs.Prelude.{ℕ, zero, suc, ◌+◌, ◌-◌, ◌*◌, ◌/◌, ◌%◌, ◌^◌, Bool, cond, ◌&&◌, List, [], ◌∷◌, ◌++◌, Result, Ok, Err, length, drop, get_or, ltb, leb, eqb}
use Rattle.bdf.specs.declared.reader.BoundingBox.{BoundingBox}
use Rattle.bdf.specs.declared.reader.Reader.{Reader}
use Rattle.bdf.specs.declared.reader.Answer.{Answer}
use Rattle.bdf.specs.declared.reader.Answer.TheVariants as answer
use Rattle.refusals.specs.declared.Refusal.{Refusal}
use Rattle.characters.specs.Refusal.{need, or_else, unless_refused}
use Rattle.bdf.specs.Reader.{baseline, spelling, nowhere, start, step, after, first_refusal, last_reader, file_lines}

-- ---- glyphs

-- a glyph: its encoding, its BBX, and its bitmap lines as numbers of as many bits as the BBX is wide
pub record Glyph : Type 0 where
  pub encoding : ℕ
  pub bbx : BoundingBox
  pub rows : List ℕ

-- what the lines from some line on give: the bitmap lines to come of the present glyph and its BBX, and the glyphs after it
pub record Rest : Type 0 where
  pub rows : List ℕ
  pub bbx : BoundingBox
  pub glyphs : List Glyph

-- what a line adds to what the lines after it give; r is the reader before the line
unfoldable pub gather : Reader → Result Answer Refusal → Rest → Rest
gather r (Err n) rest = rest
gather r (Ok (answer.Passed s)) rest = rest
gather r (Ok (answer.Boxed s)) rest = record { rows = rest.rows; bbx = s.bbx; glyphs = rest.glyphs }
gather r (Ok (answer.Encoded s v)) rest = record { rows = []; bbx = r.bbx; glyphs = record { encoding = v; bbx = rest.bbx; rows = rest.rows } ∷ rest.glyphs }
gather r (Ok (answer.Drawn s bits)) rest = record { rows = bits ∷ rest.rows; bbx = rest.bbx; glyphs = rest.glyphs }

unfoldable pub rest_of : Reader → List (List ℕ) → Rest
rest_of r [] = record { rows = []; bbx = r.bbx; glyphs = [] }
rest_of r (l ∷ ls) = gather r (step r l) (rest_of (after r (step r l)) ls)

-- the cell, and the glyphs "in file order"
pub record BdfFont : Type 0 where
  pub cell : BoundingBox
  pub glyphs : List Glyph

unfoldable pub font_of : List ℕ → BdfFont
font_of file = record { cell = (last_reader start (file_lines file)).cell; glyphs = (rest_of start (file_lines file)).glyphs }

-- ---- pixels

-- "A glyph stands in it by the difference of the BBX offsets from that box's, measured from left and foot"
unfoldable pub ink_left : BoundingBox → BoundingBox → ℕ
ink_left cell b = b.x - cell.x

unfoldable pub ink_top : BoundingBox → BoundingBox → ℕ
ink_top cell b = cell.y + cell.height - (b.y + b.height)

-- whether a glyph's bitmap, placed by its BBX, has a 1 at column c and row r of the cell
unfoldable pub is_ink : BoundingBox → Glyph → ℕ → ℕ → Bool
is_ink cell g c r =
    let left = ink_left cell g.bbx in
    let top = ink_top cell g.bbx in
    (leb left c && ltb c (left + g.bbx.width))
    && ((leb top r && ltb r (top + g.bbx.height)) && eqb (get_or g.rows (r - top) 0 / 2 ^ (left + g.bbx.width - (c + 1)) % 2) 1)

-- the glyph with a number
unfoldable pub glyph_at : List Glyph → ℕ → Glyph
glyph_at [] k = record { encoding = 0; bbx = nowhere; rows = [] }
glyph_at (g ∷ gs) zero = g
glyph_at (g ∷ gs) (suc k) = glyph_at gs k

unfoldable pub glyph_count : List Glyph → ℕ
glyph_count [] = 0
glyph_count (g ∷ gs) = suc (glyph_count gs)

-- "The atlas is 16 cells wide and holds the glyphs in file order": whether its pixel (x, y) is on
unfoldable pub is_set : BdfFont → ℕ → ℕ → Bool
is_set f x y =
    let k = y / f.cell.height * 16 + x / f.cell.width in
    ltb k (glyph_count f.glyphs) && is_ink f.cell (glyph_at f.glyphs k) (x % f.cell.width) (y % f.cell.height)

-- ---- bytes

abbrev pub bit : Bool → ℕ
bit b = cond b 1 0

-- eight pixels, "the leftmost pixel is the highest bit, 1 is on"
unfoldable pub byte_of : (ℕ → Bool) → ℕ
byte_of p = bit (p 0) * 128 + bit (p 1) * 64 + bit (p 2) * 32 + bit (p 3) * 16 + bit (p 4) * 8 + bit (p 5) * 4 + bit (p 6) * 2 + bit (p 7)

-- f k, f (k + 1), .. , n of them
unfoldable pub counted : ℕ → ℕ → (ℕ → ℕ) → List ℕ
counted k zero f = []
counted k (suc n) f = f k ∷ counted (suc k) n f

-- a row of 16 cells takes 2 × cw bytes
abbrev pub stride : BoundingBox → ℕ
stride cell = 2 * cell.width

-- the bytes of an atlas of n glyphs: whole rows of cells
unfoldable pub atlas_size : BoundingBox → ℕ → ℕ
atlas_size cell n = (n + 15) / 16 * cell.height * stride cell

unfoldable pub atlas_byte : BdfFont → ℕ → ℕ
atlas_byte f p = byte_of (λ i. is_set f (8 * (p % stride f.cell) + i) (p / stride f.cell))

unfoldable pub atlas_of : BdfFont → List ℕ
atlas_of f = counted 0 (atlas_size f.cell (glyph_count f.glyphs)) (atlas_byte f)

unfoldable pub encodings : List Glyph → List ℕ
encodings [] = []
encodings (g ∷ gs) = g.encoding ∷ encodings gs

-- "The mapping lists the ENCODING values one by one"
unfoldable pub spellings : List ℕ → List ℕ
spellings [] = []
spellings (v ∷ vs) = spelling v ++ spellings vs

abbrev pub mapping_of : BdfFont → List ℕ
mapping_of f = spellings (encodings f.glyphs)

-- numbers stored as 2 and 4 bytes, little-endian
abbrev pub u16 : ℕ → List ℕ
u16 n = (n % 256) ∷ (n / 256 % 256) ∷ []

abbrev pub u32 : ℕ → List ℕ
u32 n = (n % 256) ∷ (n / 256 % 256) ∷ (n / 65_536 % 256) ∷ (n / 16_777_216 % 256) ∷ []

-- the record of a cell, with so many bytes of atlas and of mapping: "Spacing is 0; strikethrough and underline are those of
-- `default_strikethrough` and `default_underline` for the cell height"; "Replacement index is 0"
unfoldable pub record_of : BoundingBox → ℕ → ℕ → List ℕ
record_of cell atlas mapping =
    u32 28 ++ (u32 atlas ++ (u32 (28 + atlas) ++ (u16 mapping ++ (u16 0 ++ (u16 (16 * cell.width)
    ++ (cell.width ∷ cell.height ∷ 0 ∷ baseline cell ∷ ((cell.height - 1) / 2) ∷ 1 ∷ (cell.height + 1) ∷ 1 ∷ 0 ∷ 0 ∷ []))))))

-- the atlas: "it follows the record at offset 28, the mapping follows it"
unfoldable pub font_bytes : BdfFont → List ℕ
font_bytes f =
    let atlas = atlas_of f in
    let mapping = mapping_of f in
    record_of f.cell (length atlas) (length mapping) ++ (atlas ++ mapping)

-- ---- the call

-- the refusal of a file, or 0
abbrev pub refusal : List ℕ → ℕ
refusal file = first_refusal start (file_lines file)

-- a file's refusal, and "17 last": an output of n bytes that the font does not fit
unfoldable pub read_code : List ℕ → ℕ → ℕ
read_code file n = or_else (refusal file) (need (leb (length (font_bytes (font_of file))) n) 17 0)

-- the output after it: "output past it keeps its bytes"
unfoldable pub written : List ℕ → List ℕ → List ℕ
written file output = unless_refused (read_code file (length output)) (font_bytes (font_of file) ++ drop (length (font_bytes (font_of file))) output) output
