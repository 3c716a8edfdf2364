-- The check of a sheet: the number of the first refusal (docs/SHEET.md, Replies and refusals), or 0. Assumes nothing.
-- To be believed: it says what a sheet means.
use Rattle.std.specs.Prelude.{ℕ, zero, suc, ◌+◌, Bool, true, false, ◌&&◌, Option, None, Some, List, [], ◌∷◌, eqb, length}
use Rattle.characters.specs.Refusal.{need, or_else, all}
use Rattle.characters.specs.Utf8.{well_formed}
use Rattle.mapping.specs.Mapping
use Rattle.limits.specs.declared.HeaderFields.{HeaderFields}
use Rattle.limits.specs.declared.FontFields.{FontFields}
use Rattle.limits.specs.declared.ItemFields.{ItemFields}
use Rattle.limits.specs.Limits.{header_refusal, font_limits, item_limits}
use Rattle.sheet.specs.Fields
use Rattle.sheet.specs.Pieces.{Piece, pieces}

-- ---- refusals 1 to 4

unfoldable pub header_fields : List ℕ → HeaderFields
header_fields b = record {
  file_length = length b;
  whole_length = Fields.whole_length b;
  zero = Fields.header_zero b;
  edition = Fields.edition b;
  width = Fields.frame_width b;
  height = Fields.frame_height b;
  fonts = Fields.font_count b;
  items = Fields.item_count b;
}

unfoldable pub check_header : List ℕ → ℕ
check_header b = header_refusal (header_fields b)

-- ---- refusal 5: "After the items, without gaps: each font's atlas and mapping, then each slot; the last ends the file"

-- a test, then where the rest ends
abbrev pub given : Bool → Option ℕ → Option ℕ
given true rest = rest
given false rest = None

-- where pieces end, if the first starts at p and each other where the one before ends
unfoldable pub reach : List Piece → ℕ → Option ℕ
reach [] p = Some p
reach (c ∷ cs) p = given (eqb c.offset p) (reach cs (p + c.size))

abbrev pub ends_at : Option ℕ → ℕ → Bool
ends_at None n = false
ends_at (Some p) n = eqb p n

unfoldable pub layout_tests : List ℕ → List Bool
layout_tests b =
    eqb (Fields.fonts_offset b) 24 ∷ eqb (Fields.items_offset b) (Fields.font_at (Fields.font_count b)) ∷ ends_at (reach (pieces b) (Fields.pieces_at b)) (length b) ∷ []

abbrev pub is_laid_out : List ℕ → Bool
is_laid_out b = all (layout_tests b)

-- ---- refusals 6 to 8, of the font whose record stands at o

unfoldable pub font_fields : List ℕ → ℕ → FontFields
font_fields b o = record { cw = Fields.font_cw b o; ch = Fields.font_ch b o; spacing = Fields.font_spacing b o; atlas_width = Fields.atlas_width b o; zero = Fields.font_zero b o }

unfoldable pub check_font : List ℕ → ℕ → ℕ
check_font b o = or_else (font_limits (font_fields b o)) (Mapping.refusal (Fields.mapping_bytes b o))

-- ---- refusals 9 and 10, of the item whose record stands at o

unfoldable pub item_fields : List ℕ → ℕ → ItemFields
item_fields b o = record {
  slot_size = Fields.slot_size b o;
  text_length = Fields.text_length b o;
  font = Fields.font_number b o;
  text_mode = Fields.text_mode b o;
  background_mode = Fields.background_mode b o;
  underline_mode = Fields.underline_mode b o;
  strikethrough_mode = Fields.strikethrough_mode b o;
  alignment = Fields.alignment_code b o;
  baseline = Fields.baseline_code b o;
  height_kind = Fields.height_kind b o;
  height_value = Fields.height_value b o;
  zero = Fields.item_zero b o;
}

abbrev pub item_numbers : List ℕ → ℕ → ℕ
item_numbers b o = item_limits (item_fields b o) (Fields.font_count b)

-- "Slot bytes past the text are 00"
unfoldable pub zeros : List ℕ → Bool
zeros [] = true
zeros (a ∷ bs) = eqb a 0 && zeros bs

unfoldable pub check_item : List ℕ → ℕ → ℕ
check_item b o = or_else (item_numbers b o) (need (zeros (Fields.slot_tail b o)) 9 (need (well_formed (Fields.text_bytes b o)) 10 0))

-- ---- "Tests 1 to 5 first; then fonts by number, each 6, 7, 8; items, each 9, 10"

-- the first refusal of the n records from number k on
unfoldable pub first_refusal : (ℕ → ℕ) → ℕ → ℕ → ℕ
first_refusal f zero k = 0
first_refusal f (suc n) k = let rest = first_refusal f n (suc k) in or_else (f k) rest

unfoldable pub font_refusal : List ℕ → ℕ → ℕ
font_refusal b k = check_font b (Fields.font_at k)

unfoldable pub item_refusal : List ℕ → ℕ → ℕ
item_refusal b k = check_item b (Fields.item_at b k)

unfoldable pub check_fonts : List ℕ → ℕ
check_fonts b = first_refusal (font_refusal b) (Fields.font_count b) 0

unfoldable pub check_items : List ℕ → ℕ
check_items b = first_refusal (item_refusal b) (Fields.item_count b) 0

-- the number of the first refusal; a sheet is accepted if it is 0
unfoldable pub check : List ℕ → ℕ
check b =
    let items = check_items b in
    let fonts = or_else (check_fonts b) items in
    let layout = need (is_laid_out b) 5 fonts in
    or_else (check_header b) layout
