-- The file's pieces, in file order (docs/SHEET.md, Sheet): "each font's atlas and mapping, then each slot". Assumes nothing.
-- To be believed: it says what a sheet means.
use Rattle.std.specs.Prelude.{ℕ, zero, suc, List, [], ◌∷◌, ◌++◌}
use Rattle.sheet.specs.Fields

-- where a piece starts, and its size
pub record Piece : Type 0 where
  pub offset : ℕ
  pub size : ℕ

-- a font's atlas and mapping
unfoldable pub font_pieces : List ℕ → ℕ → List Piece
font_pieces b k =
    record { offset = Fields.atlas_offset b (Fields.font_at k); size = Fields.atlas_length b (Fields.font_at k) }
    ∷ record { offset = Fields.mapping_offset b (Fields.font_at k); size = Fields.mapping_length b (Fields.font_at k) } ∷ []

-- an item's slot
unfoldable pub slot_pieces : List ℕ → ℕ → List Piece
slot_pieces b k = record { offset = Fields.slot_offset b (Fields.item_at b k); size = Fields.slot_size b (Fields.item_at b k) } ∷ []

-- the pieces of the n records from number k on
unfoldable pub pieces_of : (ℕ → List Piece) → ℕ → ℕ → List Piece
pieces_of f zero k = []
pieces_of f (suc n) k = f k ++ pieces_of f n (suc k)

unfoldable pub pieces : List ℕ → List Piece
pieces b = pieces_of (font_pieces b) (Fields.font_count b) 0 ++ pieces_of (slot_pieces b) (Fields.item_count b) 0
