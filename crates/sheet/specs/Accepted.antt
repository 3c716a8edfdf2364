-- What functions that read an accepted sheet require: that records and pieces lie in the file, apart from each other, and that each
-- font and item fits. It follows from what an accepted sheet is. Assumes nothing.
-- Serves contracts: nothing here has to be believed.
use Rattle.std.specs.Prelude.{ℕ, ◌+◌, ◌≤◌, ◌<◌, List, length}
use Rattle.sheet.specs.Fields
use Rattle.sheet.specs.Conforming.{Headed, FontFits, ItemFits}

-- a font's record and pieces lie in the file
pub record FontIn (b : List ℕ) (o : ℕ) : Type 0 where
  pub record_in : o + 28 ≤ length b
  pub atlas_in : Fields.atlas_offset b o + Fields.atlas_length b o ≤ length b
  pub mapping_in : Fields.mapping_offset b o + Fields.mapping_length b o ≤ length b

pub record ItemIn (b : List ℕ) (o : ℕ) : Type 0 where
  pub record_in : o + 28 ≤ length b
  pub slot_in : Fields.slot_offset b o + Fields.slot_size b o ≤ length b

-- records and pieces stand apart, in the file
pub record LaidOut (b : List ℕ) : Type 0 where
  pub headed : Headed b
  pub records_in : Fields.pieces_at b ≤ length b
  pub font_in : (k : ℕ) → k < Fields.font_count b → FontIn b (Fields.font_at k)
  pub item_in : (j : ℕ) → j < Fields.item_count b → ItemIn b (Fields.item_at b j)
  pub slot_after : (j : ℕ) → j < Fields.item_count b → Fields.pieces_at b ≤ Fields.slot_offset b (Fields.item_at b j)
  pub slots_apart : (i j : ℕ) → i < j → j < Fields.item_count b
      → Fields.slot_offset b (Fields.item_at b i) + Fields.slot_size b (Fields.item_at b i) ≤ Fields.slot_offset b (Fields.item_at b j)
  pub atlas_after : (k : ℕ) → k < Fields.font_count b → Fields.pieces_at b ≤ Fields.atlas_offset b (Fields.font_at k)
  pub atlas_before : (k j : ℕ) → k < Fields.font_count b → j < Fields.item_count b
      → Fields.atlas_offset b (Fields.font_at k) + Fields.atlas_length b (Fields.font_at k) ≤ Fields.slot_offset b (Fields.item_at b j)
  pub mapping_after : (k : ℕ) → k < Fields.font_count b → Fields.pieces_at b ≤ Fields.mapping_offset b (Fields.font_at k)
  pub mapping_before : (k j : ℕ) → k < Fields.font_count b → j < Fields.item_count b
      → Fields.mapping_offset b (Fields.font_at k) + Fields.mapping_length b (Fields.font_at k) ≤ Fields.slot_offset b (Fields.item_at b j)

-- what functions require of an accepted sheet
pub record Accepted (b : List ℕ) : Type 0 where
  pub laid_out : LaidOut b
  pub font-fits : (k : ℕ) → k < Fields.font_count b → FontFits b (Fields.font_at k)
  pub item-fits : (j : ℕ) → j < Fields.item_count b → ItemFits b (Fields.item_at b j)
