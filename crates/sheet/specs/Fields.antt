-- The file's layout (docs/SHEET.md, Sheet): numbers stored as bytes, and each field of header, font and item by its offset.
-- A record is named by the offset at which it stands. Assumes nothing.
-- To be believed: it says what a sheet means.
use Rattle.std.specs.Prelude.{ℕ, ◌+◌, ◌-◌, ◌*◌, ◌/◌, ◌%◌, cond, List, [], ◌∷◌, ltb, get_or, take, drop}
use Rattle.geometry.specs.Layer.{origin}

-- ---- "Numbers stored as bytes are little-endian, offsets count from the file's first byte"

abbrev pub byte_at : List ℕ → ℕ → ℕ
byte_at b o = get_or b o 0

unfoldable pub le16_at : List ℕ → ℕ → ℕ
le16_at b o = get_or b o 0 + 256 * get_or b (o + 1) 0

unfoldable pub le32_at : List ℕ → ℕ → ℕ
le32_at b o = get_or b o 0 + 256 * get_or b (o + 1) 0 + 65_536 * get_or b (o + 2) 0 + 16_777_216 * get_or b (o + 3) 0

-- the two bytes of a number
unfoldable pub le16 : ℕ → List ℕ
le16 n = n % 256 ∷ n / 256 % 256 ∷ []

-- n bytes from offset o on
unfoldable pub part : List ℕ → ℕ → ℕ → List ℕ
part b o n = take n (drop o b)

-- a signed number of 2 bytes as a coordinate
unfoldable pub coordinate : ℕ → ℕ
coordinate n = cond (ltb n 32_768) (origin + n) (origin + n - 65_536)

-- ---- "Header, 24 bytes"

abbrev pub edition : List ℕ → ℕ
edition b = le16_at b 0

unfoldable pub frame_width : List ℕ → ℕ
frame_width b = le16_at b 2

unfoldable pub frame_height : List ℕ → ℕ
frame_height b = le16_at b 4

unfoldable pub paper : List ℕ → ℕ
paper b = byte_at b 6

unfoldable pub font_count : List ℕ → ℕ
font_count b = byte_at b 7

unfoldable pub item_count : List ℕ → ℕ
item_count b = le16_at b 8

abbrev pub header_zero : List ℕ → ℕ
header_zero b = le16_at b 10

abbrev pub fonts_offset : List ℕ → ℕ
fonts_offset b = le32_at b 12

abbrev pub items_offset : List ℕ → ℕ
items_offset b = le32_at b 16

abbrev pub whole_length : List ℕ → ℕ
whole_length b = le32_at b 20

-- ---- where records stand: "offset of fonts = 24", "of items = 24 + 28 × F"; the pieces follow the items

abbrev pub font_at : ℕ → ℕ
font_at n = 24 + 28 * n

abbrev pub item_at : List ℕ → ℕ → ℕ
item_at b n = 24 + 28 * font_count b + 28 * n

abbrev pub pieces_at : List ℕ → ℕ
pieces_at b = item_at b (item_count b)

-- ---- "Font, 28 bytes"

abbrev pub atlas_offset : List ℕ → ℕ → ℕ
atlas_offset b o = le32_at b o

abbrev pub atlas_length : List ℕ → ℕ → ℕ
atlas_length b o = le32_at b (o + 4)

abbrev pub mapping_offset : List ℕ → ℕ → ℕ
mapping_offset b o = le32_at b (o + 8)

abbrev pub mapping_length : List ℕ → ℕ → ℕ
mapping_length b o = le16_at b (o + 12)

abbrev pub replacement_index : List ℕ → ℕ → ℕ
replacement_index b o = le16_at b (o + 14)

abbrev pub atlas_width : List ℕ → ℕ → ℕ
atlas_width b o = le16_at b (o + 16)

abbrev pub font_cw : List ℕ → ℕ → ℕ
font_cw b o = byte_at b (o + 18)

abbrev pub font_ch : List ℕ → ℕ → ℕ
font_ch b o = byte_at b (o + 19)

abbrev pub font_spacing : List ℕ → ℕ → ℕ
font_spacing b o = byte_at b (o + 20)

abbrev pub font_baseline : List ℕ → ℕ → ℕ
font_baseline b o = byte_at b (o + 21)

abbrev pub strikethrough_offset : List ℕ → ℕ → ℕ
strikethrough_offset b o = byte_at b (o + 22)

abbrev pub strikethrough_height : List ℕ → ℕ → ℕ
strikethrough_height b o = byte_at b (o + 23)

abbrev pub underline_offset : List ℕ → ℕ → ℕ
underline_offset b o = byte_at b (o + 24)

abbrev pub underline_height : List ℕ → ℕ → ℕ
underline_height b o = byte_at b (o + 25)

abbrev pub font_zero : List ℕ → ℕ → ℕ
font_zero b o = le16_at b (o + 26)

-- ---- "Item, 28 bytes"; the style is bytes 13 to 20

abbrev pub item_x : List ℕ → ℕ → ℕ
item_x b o = le16_at b o

abbrev pub item_y : List ℕ → ℕ → ℕ
item_y b o = le16_at b (o + 2)

abbrev pub slot_offset : List ℕ → ℕ → ℕ
slot_offset b o = le32_at b (o + 4)

abbrev pub slot_size : List ℕ → ℕ → ℕ
slot_size b o = le16_at b (o + 8)

-- where the text's length stands
abbrev pub text_length_at : ℕ → ℕ
text_length_at o = o + 10

abbrev pub text_length : List ℕ → ℕ → ℕ
text_length b o = le16_at b (text_length_at o)

abbrev pub font_number : List ℕ → ℕ → ℕ
font_number b o = byte_at b (o + 12)

-- where the style stands
abbrev pub style_at : ℕ → ℕ
style_at o = o + 13

abbrev pub text_mode : List ℕ → ℕ → ℕ
text_mode b o = byte_at b (o + 13)

abbrev pub text_grey : List ℕ → ℕ → ℕ
text_grey b o = byte_at b (o + 14)

abbrev pub background_mode : List ℕ → ℕ → ℕ
background_mode b o = byte_at b (o + 15)

abbrev pub background_grey : List ℕ → ℕ → ℕ
background_grey b o = byte_at b (o + 16)

abbrev pub underline_mode : List ℕ → ℕ → ℕ
underline_mode b o = byte_at b (o + 17)

abbrev pub underline_grey : List ℕ → ℕ → ℕ
underline_grey b o = byte_at b (o + 18)

abbrev pub strikethrough_mode : List ℕ → ℕ → ℕ
strikethrough_mode b o = byte_at b (o + 19)

abbrev pub strikethrough_grey : List ℕ → ℕ → ℕ
strikethrough_grey b o = byte_at b (o + 20)

abbrev pub alignment_code : List ℕ → ℕ → ℕ
alignment_code b o = byte_at b (o + 21)

abbrev pub baseline_code : List ℕ → ℕ → ℕ
baseline_code b o = byte_at b (o + 22)

abbrev pub height_kind : List ℕ → ℕ → ℕ
height_kind b o = byte_at b (o + 23)

abbrev pub height_value : List ℕ → ℕ → ℕ
height_value b o = le16_at b (o + 24)

abbrev pub item_zero : List ℕ → ℕ → ℕ
item_zero b o = le16_at b (o + 26)

-- ---- pieces: a font's atlas and mapping, an item's text and the bytes of its slot past the text

abbrev pub atlas_bytes : List ℕ → ℕ → List ℕ
atlas_bytes b o = part b (atlas_offset b o) (atlas_length b o)

abbrev pub mapping_bytes : List ℕ → ℕ → List ℕ
mapping_bytes b o = part b (mapping_offset b o) (mapping_length b o)

abbrev pub text_bytes : List ℕ → ℕ → List ℕ
text_bytes b o = part b (slot_offset b o) (text_length b o)

abbrev pub slot_tail : List ℕ → ℕ → List ℕ
slot_tail b o = part b (slot_offset b o + text_length b o) (slot_size b o - text_length b o)
