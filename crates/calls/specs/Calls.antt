-- The outcome of every exported call, for all inputs: its code, its reply and what it leaves of sheet, frame and output
-- (docs/SHEET.md, Replies and refusals). Assumes nothing.
-- To be believed: it says what a sheet means.
use Rattle.std.specs.Prelude.{ℕ, suc, ◌%◌, ◌^◌, Bool, true, false, List, [], ◌∷◌, ◌++◌, leb, ltb, eqb, pos, length, drop}
use Rattle.geometry.specs.declared.Point.{Point}
use Rattle.geometry.specs.declared.Rectangle.{Rectangle}
use Rattle.geometry.specs.Layer.{signed, paint}
use Rattle.characters.specs.declared.Step as Characters
use Rattle.characters.specs.declared.Step.TheVariants.{Character, IllFormed, End}
use Rattle.characters.specs.Refusal.{need, or_else, unless_refused}
use Rattle.characters.specs.Utf8.{step_at}
use Rattle.mapping.specs.declared.Glyph as Mapping
use Rattle.mapping.specs.Mapping.{glyph, contains}
use Rattle.text.specs.Text.{next, replaced, bounding_box}
use Rattle.text.specs.Signed.{SignedRectangle, rectangle, join}
use Rattle.page.specs.Page.{page_header}
use Rattle.sheet.specs.Fields.{frame_width, frame_height, font_count, item_count}
use Rattle.sheet.specs.Check.{check}
use Rattle.bdf.specs.Font.{font_of, font_bytes, read_code}
use Rattle.records.specs.Records.{font, item, item_font}
use Rattle.sheet.specs.Edits.{Edit, item_number, refusal, edited}
use Rattle.entries.specs.Entries.{is_filled, edits_of}
use Rattle.drawing.specs.Drawing.{item_layer, fresh_drawing, pixel_count, whitespace_layer, whitespace_next, damage, repainted}
use Rattle.calls.specs.declared.Number.{Number}
use Rattle.calls.specs.declared.Glyph.{Glyph}
use Rattle.calls.specs.declared.Position.{Position}
use Rattle.calls.specs.declared.Drawn.{Drawn}
use Rattle.calls.specs.declared.Box.{Box}
use Rattle.calls.specs.declared.Step.{Step}
use Rattle.calls.specs.declared.Batch.{Batch}
use Rattle.calls.specs.Machine.{Machine, Run, run_until_refused}

-- ---- replies: "A good call returns 0 with its position, box, index, ..", "A refused one returns its number with zeros"

unfoldable pub number_reply : ℕ → ℕ → Number
number_reply code value = record { code = code; value = unless_refused code value 0 }

unfoldable pub position_reply : ℕ → Point → Position
position_reply code p = record { code = code; x = unless_refused code (signed p.x) (pos 0); y = unless_refused code (signed p.y) (pos 0) }

unfoldable pub drawn_reply : ℕ → Point → ℕ → Drawn
drawn_reply code p replaced = record {
  code = code;
  x = unless_refused code (signed p.x) (pos 0);
  y = unless_refused code (signed p.y) (pos 0);
  replaced = unless_refused code replaced 0;
}

unfoldable pub box_reply : ℕ → Rectangle → Box
box_reply code a = record {
  code = code;
  left = unless_refused code (signed a.left) (pos 0);
  top = unless_refused code (signed a.top) (pos 0);
  width = unless_refused code a.width 0;
  height = unless_refused code a.height 0;
}

abbrev pub yes_no : Bool → ℕ
yes_no true = 1
yes_no false = 0

unfoldable pub glyph_reply : ℕ → Mapping.Glyph → Glyph
glyph_reply code g = record { code = code; index = unless_refused code g.index 0; listed = unless_refused code (yes_no g.listed) 0 }

-- ---- the calls' own tests, after the check

-- 12 of a font or an item
abbrev pub is_there : ℕ → ℕ → ℕ → ℕ
is_there number count rest = need (ltb number count) 12 rest

-- 11
abbrev pub fits : List ℕ → List ℕ → ℕ → ℕ
fits b frame rest = need (eqb (length frame) (pixel_count b)) 11 rest

-- ---- station_check: `check` itself

-- ---- station_index, station_contains

unfoldable pub font_code : List ℕ → ℕ → ℕ
font_code b n = or_else (check b) (is_there n (font_count b) 0)

unfoldable pub index_reply : List ℕ → ℕ → ℕ → Glyph
index_reply b n ch = glyph_reply (font_code b n) (glyph (font b n).mapping (font b n).mono.replacement_index ch)

unfoldable pub contains_reply : List ℕ → ℕ → ℕ → Number
contains_reply b n ch = number_reply (font_code b n) (yes_no (contains (font b n).mapping ch))

-- ---- station_bounding_box

unfoldable pub item_code : List ℕ → ℕ → ℕ
item_code b n = or_else (check b) (is_there n (item_count b) 0)

unfoldable pub bounding_box_reply : List ℕ → ℕ → Box
bounding_box_reply b n = box_reply (item_code b n) (bounding_box (item_font b n).mono (item b n))

-- ---- station_draw_item

unfoldable pub draw_item_code : List ℕ → List ℕ → ℕ → ℕ
draw_item_code b frame n = or_else (check b) (fits b frame (is_there n (item_count b) 0))

unfoldable pub draw_item_reply : List ℕ → List ℕ → ℕ → Drawn
draw_item_reply b frame n = drawn_reply (draw_item_code b frame n) (next (item_font b n).mono (item b n)) (replaced (item_font b n) (item b n))

unfoldable pub draw_item_frame : List ℕ → List ℕ → ℕ → List ℕ
draw_item_frame b frame n = unless_refused (draw_item_code b frame n) (paint (frame_width b) (item_layer b n) frame) frame

-- ---- station_draw_whitespace

unfoldable pub whitespace_code : List ℕ → List ℕ → ℕ → ℕ → ℕ
whitespace_code b frame n width = or_else (check b) (fits b frame (is_there n (item_count b) (need (leb width 65_535) 18 0)))

unfoldable pub whitespace_reply : List ℕ → List ℕ → ℕ → ℕ → Position
whitespace_reply b frame n width = position_reply (whitespace_code b frame n width) (whitespace_next (item b n) width)

unfoldable pub whitespace_frame : List ℕ → List ℕ → ℕ → ℕ → List ℕ
whitespace_frame b frame n width = unless_refused (whitespace_code b frame n width) (paint (frame_width b) (whitespace_layer (item_font b n).mono (item b n) width) frame) frame

-- ---- station_draw

unfoldable pub draw_code : List ℕ → List ℕ → ℕ
draw_code b frame = or_else (check b) (fits b frame 0)

unfoldable pub draw_frame : List ℕ → List ℕ → List ℕ
draw_frame b frame = unless_refused (draw_code b frame) (fresh_drawing b frame) frame

-- ---- station_set_text, station_set_place, station_set_style

-- the damage rectangle of an edit
abbrev pub edit_damage : List ℕ → Edit → Rectangle
edit_damage b e = damage b (edited b e) (item_number e)

unfoldable pub edit_code : List ℕ → List ℕ → Edit → ℕ
edit_code b frame e = or_else (check b) (fits b frame (refusal b e))

unfoldable pub edit_reply : List ℕ → List ℕ → Edit → Box
edit_reply b frame e = box_reply (edit_code b frame e) (edit_damage b e)

unfoldable pub edit_sheet : List ℕ → List ℕ → Edit → List ℕ
edit_sheet b frame e = unless_refused (edit_code b frame e) (edited b e) b

unfoldable pub edit_frame : List ℕ → List ℕ → Edit → List ℕ
edit_frame b frame e = unless_refused (edit_code b frame e) (repainted (edited b e) (edit_damage b e) frame) frame

-- ---- station_edit_list

-- sheet and frame between two calls
pub record Logger : Type 0 where
  pub sheet : List ℕ
  pub frame : List ℕ

-- an edit with a frame: "each accepted edit repaints only its damage rectangle"
abbrev pub patched_machine : Machine Logger Edit Box
patched_machine = record {
  next = λ s e. record { sheet = edit_sheet s.sheet s.frame e; frame = edit_frame s.sheet s.frame e };
  reply = λ s e. edit_reply s.sheet s.frame e;
}

-- "the same calls made singly up to there"
abbrev pub singly : List ℕ → List ℕ → List ℕ → Run Logger Box
singly b frame list = run_until_refused patched_machine (record { sheet = b; frame = frame }) (edits_of list)

-- 22, "after 11 and before any edit"
unfoldable pub edit_list_code : List ℕ → List ℕ → List ℕ → ℕ
edit_list_code b frame list = or_else (check b) (fits b frame (need (is_filled list) 22 0))

-- a reply by its code, the number made and a rectangle; the number's last 32 bits, which are all of it in a list of less than 16 GiB
abbrev pub batch : ℕ → ℕ → SignedRectangle → Batch
batch code made a = record { code = code; made = made % 2 ^ 32; left = a.left; top = a.top; width = a.width; height = a.height }

-- "four zeros"
abbrev pub zeros : SignedRectangle
zeros = rectangle (pos 0) (pos 0) 0 0

abbrev pub box_area : Box → SignedRectangle
box_area r = rectangle r.left r.top r.width r.height

-- "the number made, that refusal or 0, and the smallest rectangle holding the nonempty ones of the edits made, else four zeros": from the
-- replies to the edits, after so many made that have this rectangle
unfoldable pub batch_from : ℕ → SignedRectangle → List Box → Batch
batch_from made a [] = batch 0 made a
batch_from made a (r ∷ rs) = unless_refused r.code (batch_from (suc made) (join a (box_area r)) rs) (batch r.code made a)

abbrev pub batch_of : List Box → Batch
batch_of = batch_from 0 zeros

unfoldable pub edit_list_reply : List ℕ → List ℕ → List ℕ → Batch
edit_list_reply b frame list = unless_refused (edit_list_code b frame list) (batch_of (singly b frame list).replies) (batch (edit_list_code b frame list) 0 zeros)

unfoldable pub edit_list_sheet : List ℕ → List ℕ → List ℕ → List ℕ
edit_list_sheet b frame list = unless_refused (edit_list_code b frame list) (singly b frame list).state.sheet b

unfoldable pub edit_list_frame : List ℕ → List ℕ → List ℕ → List ℕ
edit_list_frame b frame list = unless_refused (edit_list_code b frame list) (singly b frame list).state.frame frame

-- ---- station_set_text_on_sheet, station_set_place_on_sheet, station_set_style_on_sheet

unfoldable pub on_sheet_code : List ℕ → Edit → ℕ
on_sheet_code b e = or_else (check b) (refusal b e)

unfoldable pub on_sheet_reply : List ℕ → Edit → Box
on_sheet_reply b e = box_reply (on_sheet_code b e) (edit_damage b e)

unfoldable pub on_sheet_sheet : List ℕ → Edit → List ℕ
on_sheet_sheet b e = unless_refused (on_sheet_code b e) (edited b e) b

-- ---- station_write_page

-- the page as a file: "greys by row"
unfoldable pub netpbm : List ℕ → List ℕ → List ℕ
netpbm b frame = page_header (frame_width b) (frame_height b) ++ frame

unfoldable pub page_code : List ℕ → List ℕ → List ℕ → ℕ
page_code b frame output = or_else (check b) (fits b frame (need (leb (length (netpbm b frame)) (length output)) 17 0))

unfoldable pub page_reply : List ℕ → List ℕ → List ℕ → Number
page_reply b frame output = number_reply (page_code b frame output) (length (netpbm b frame))

-- "output past the page keeps its bytes"
unfoldable pub page_output : List ℕ → List ℕ → List ℕ → List ℕ
page_output b frame output = unless_refused (page_code b frame output) (netpbm b frame ++ drop (length (netpbm b frame)) output) output

-- ---- station_read_bdf, which takes no sheet: its code is `read_code` of bdf's Font.antt, and the output after it is `written` there

unfoldable pub read_bdf_reply : List ℕ → ℕ → Number
read_bdf_reply file n = number_reply (read_code file n) (length (font_bytes (font_of file)))

-- ---- station_walk: "at or past its end it says so and keeps the offset, otherwise it gives character and next offset, or 10"

unfoldable pub step_reply : ℕ → Characters.Step → Step
step_reply at (Character ch c) = record { code = 0; ended = 0; character = ch; next = c.at }
step_reply at IllFormed = record { code = 10; ended = 0; character = 0; next = 0 }
step_reply at End = record { code = 0; ended = 1; character = 0; next = at }

unfoldable pub walk_reply : List ℕ → ℕ → Step
walk_reply line at = step_reply at (step_at line at)
