-- What an accepted sheet is: docs/SHEET.md's layout and limits (Sheet) as facts, each beside its words. Assumes nothing.
-- To be believed: it says what a sheet means.
use Rattle.std.specs.Prelude.{ℕ, ◌+◌, ◌*◌, ◌≤◌, ◌<◌, ◌≡◌, true, List, [], ◌∷◌, length}
use Rattle.characters.specs.Utf8.{well_formed}
use Rattle.mapping.specs.Mapping.{list_of}
use Rattle.sheet.specs.Fields
use Rattle.sheet.specs.Pieces.{Piece, pieces}

-- "Header, 24 bytes"
pub record Headed (b : List ℕ) : Type 0 where
  -- "edition 1 (2 bytes)"
  pub edition_one : Fields.edition b ≡ 1
  -- "zero (2)"
  pub zero_field : Fields.header_zero b ≡ 0
  -- "whole length (4)"
  pub whole_length_lem : Fields.whole_length b ≡ length b
  -- "file 24 to 65,536 bytes"
  pub length_least : 24 ≤ length b
  pub length_most : length b ≤ 65_536
  -- "frame sides 1 to 512, area ≤ 65,536"
  pub width_least : 1 ≤ Fields.frame_width b
  pub width_most : Fields.frame_width b ≤ 512
  pub height_least : 1 ≤ Fields.frame_height b
  pub height_most : Fields.frame_height b ≤ 512
  pub area : Fields.frame_width b * Fields.frame_height b ≤ 65_536
  -- "F ≤ 4, I ≤ 64"
  pub fonts_few : Fields.font_count b ≤ 4
  pub items_few : Fields.item_count b ≤ 64

-- pieces one after another: the first starts at p, each other where the one before ends, and the last ends at q
unfoldable pub Chain : List Piece → ℕ → ℕ → Type 0
Chain [] p q = p ≡ q
Chain (c ∷ cs) p q = (c.offset ≡ p) × Chain cs (c.offset + c.size) q

-- "Font, 28 bytes", at o
pub record FontFits (b : List ℕ) (o : ℕ) : Type 0 where
  -- "cw, ch, s ≤ 64"
  pub cw_small : Fields.font_cw b o ≤ 64
  pub ch_small : Fields.font_ch b o ≤ 64
  pub spacing_small : Fields.font_spacing b o ≤ 64
  -- "atlas width ≤ 1,024"
  pub atlas_narrow : Fields.atlas_width b o ≤ 1_024
  -- "zero (2)"
  pub zero_field : Fields.font_zero b o ≡ 0
  -- not "mapping ill-formed"
  pub mapping_well : well_formed (Fields.mapping_bytes b o) ≡ true
  -- "a mapping spells ≤ 65,536 characters"
  pub mapping_short : length (list_of (Fields.mapping_bytes b o)) ≤ 65_536

-- "Item, 28 bytes", at o
pub record ItemFits (b : List ℕ) (o : ℕ) : Type 0 where
  -- "slot ≤ 256", and no "text past slot"
  pub slot_small : Fields.slot_size b o ≤ 256
  pub text_in : Fields.text_length b o ≤ Fields.slot_size b o
  -- not "font ≥ F"
  pub font_there : Fields.font_number b o < Fields.font_count b
  -- "text mode and grey, background mode and grey (0 none, 1 set)"
  pub text_mode_known : Fields.text_mode b o ≤ 1
  pub background_mode_known : Fields.background_mode b o ≤ 1
  -- "underline mode and grey, strikethrough mode and grey (0 none, 1 text colour, 2 own grey)"
  pub underline_mode_known : Fields.underline_mode b o ≤ 2
  pub strikethrough_mode_known : Fields.strikethrough_mode b o ≤ 2
  -- "alignment (0 left, 1 centre, 2 right)"
  pub alignment_known : Fields.alignment_code b o ≤ 2
  -- "baseline (0 Top, 1 Bottom, 2 Middle, 3 Alphabetic)"
  pub baseline_known : Fields.baseline_code b o ≤ 3
  -- "height kind (0 pixels, 1 percent)"
  pub kind_known : Fields.height_kind b o ≤ 1
  -- "height value ≤ 1,000"
  pub height_small : Fields.height_value b o ≤ 1_000
  -- "zero (2)"
  pub zero_field : Fields.item_zero b o ≡ 0
  -- "Slot bytes past the text are 00"
  pub tail_zero : (k : ℕ) → Fields.text_length b o ≤ k → k < Fields.slot_size b o → Fields.byte_at b (Fields.slot_offset b o + k) ≡ 0
  -- not "text ill-formed"
  pub text_well : well_formed (Fields.text_bytes b o) ≡ true

-- a sheet that meets the layout and limits of docs/SHEET.md (Sheet), its texts and mappings well-formed
pub record Conforming (b : List ℕ) : Type 0 where
  pub headed : Headed b
  -- "offset of fonts = 24 (4), of items = 24 + 28 × F (4)"
  pub fonts_offset_lem : Fields.fonts_offset b ≡ 24
  pub items_offset_lem : Fields.items_offset b ≡ 24 + 28 * Fields.font_count b
  -- "After the items, without gaps: each font's atlas and mapping, then each slot; the last ends the file"
  pub without_gaps : Chain (pieces b) (Fields.pieces_at b) (length b)
  -- each font and each item, by number
  pub font-fits : (k : ℕ) → k < Fields.font_count b → FontFits b (Fields.font_at k)
  pub item-fits : (j : ℕ) → j < Fields.item_count b → ItemFits b (Fields.item_at b j)
