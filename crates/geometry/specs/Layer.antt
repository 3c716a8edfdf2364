-- The frame as a list of greys by row, and layers: what a drawing makes of each pixel's grey. Assumes nothing.
-- To be believed: it says what a sheet means.
use Rattle.std.specs.Prelude.{ℕ, suc, Option, None, Some, ◌+◌, ◌/◌, ◌%◌, cond, List, [], ◌∷◌, ℤ, pos, ◌-ℤ◌}
use Rattle.geometry.specs.declared.Rectangle.{Rectangle}
use Rattle.geometry.specs.Rectangle.{rectangle, covers}

-- the frame's column 0 and row 0 stand at `origin`, so that each position that the limits allow is a natural number
abbrev pub origin : ℕ
origin = 2_097_152

-- the signed number of a coordinate: 0 for the frame's first column or row
unfoldable pub signed : ℕ → ℤ
signed x = pos x -ℤ pos origin

-- a layer: from a column, a row and the grey before, the grey after
abbrev pub Layer : Type 0
Layer = ℕ → ℕ → ℕ → ℕ

-- the layer that changes nothing
abbrev pub transparent : Layer
transparent c r grey = grey

-- a layer painted after another
abbrev pub over : Layer → Layer → Layer
over later earlier c r grey = later c r (earlier c r grey)

-- a layer, in a rectangle only
abbrev pub within : Rectangle → Layer → Layer
within a f c r grey = cond (covers a c r) (f c r grey) grey

-- a pixel's grey after a colour, "each only if set"
abbrev pub colored : Option ℕ → ℕ → ℕ
colored None grey = grey
colored (Some g) grey = g

-- "Filling paints each covered pixel"
unfoldable pub filled : Rectangle → Option ℕ → Layer
filled a color = within a (λ c r grey. colored color grey)

-- a list with each element replaced by what f makes of its index, counted from k, and of itself
unfoldable pub map_indexed : (ℕ → ℕ → ℕ) → ℕ → List ℕ → List ℕ
map_indexed f k [] = []
map_indexed f k (x ∷ xs) = f k x ∷ map_indexed f (suc k) xs

-- a frame of rows of fw pixels with a layer painted on it; "Points run row by row", and what is outside the frame is dropped
unfoldable pub paint : ℕ → Layer → List ℕ → List ℕ
paint fw f frame = map_indexed (λ k grey. f (origin + k % fw) (origin + k / fw) grey) 0 frame

-- the same in a clip only
abbrev pub paint_in : ℕ → Rectangle → Layer → List ℕ → List ℕ
paint_in fw clip f frame = paint fw (within clip f) frame

-- the rectangle of a frame
abbrev pub frame_of : ℕ → ℕ → Rectangle
frame_of fw fh = rectangle origin origin fw fh
