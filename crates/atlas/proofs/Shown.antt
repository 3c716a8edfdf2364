-- Laws of what a draw target shows of a cell: the part of an atlas that stands in it, the row after its last, and a glyph. Assumes nothing.
use Prim.Native.Nat.{ℕ, ◌+◌, ◌-◌, ◌*◌, ◌/◌, ◌^◌, ◌≤◌, ◌<◌}
use native.Mathlib.Nat.{div-le_self}
use native.Mathlib.Omega.{arith}
use mathlib.Core.Path.{◌≡◌, refl, sym, ap, ◌∙◌}
use mathlib.Core.Bool.{Bool, true, false, cond}
use mathlib.Core.List.{List}
use lib.ListN.{length}
use mir.Syntax.{w32, w64}
use mir.Val.{Fits}
use Rattle.std.specs.Prelude.{Option, Some, None}
use Rattle.geometry.specs.declared.Rectangle.{Rectangle}
use Rattle.geometry.specs.declared.DrawTarget.{DrawTarget}
use Rattle.geometry.specs.declared.FrameArea.{FrameArea}
use Rattle.geometry.specs.Rectangle.{rectangle, is_empty, intersection}
use Rattle.geometry.specs.Layer.{origin, Layer, within, paint}
use Rattle.geometry.specs.Canvas.{Canvas, InFrame, from_corner, paint_on}
use Rattle.geometry.proofs.Rectangles.{not_empty}
use Rattle.geometry.proofs.Layers.{within_same, paint_none, paint-same, within_none}
use Rattle.geometry.proofs.Frames.{rows_end}
use Rattle.geometry.proofs.Clips.{shown_in_area, shown_ends, shown_starts, part_in_frame, part-on_frame, paint_shown, paint_unshown}
use Rattle.atlas.specs.declared.Atlas.{Atlas}
use Rattle.atlas.specs.Atlas.{cell_width, cell_height, row_bytes, image_height, glyph_column, glyph_row, is_drawn, image, glyph, lower_edge, first_row_not_run}
use Rattle.atlas.specs.Row.{glyph_corner, SubImage}
use Rattle.atlas.proofs.Corners.{column_in, drawn_tests}
use Rattle.atlas.proofs.Glyphs.{glyph-within}
use Rattle.atlas.proofs.Images.{RowsDrawn}

-- what a draw target shows of a cell, where it shows some
module _ (t : DrawTarget) (cell shown : Rectangle) (e : shown ≡ intersection t.clip_area cell) (some : is_empty (intersection t.clip_area cell) ≡ false) where
  shown-some : is_empty shown ≡ false
  shown-some = ap is_empty e ∙ some

  -- the part of an atlas that stands in it
  module _ (stride x y n : ℕ) (s : SubImage stride x y cell.width cell.height n) where
    in_image : (x + (shown.left - cell.left) + shown.width ≤ 8 * stride) × (y + (shown.top - cell.top) + shown.height ≤ n / stride)
    in_image = omega (arith, s, shown_in_area t.clip_area cell shown e, shown_ends t.clip_area cell shown e shown-some)

    pub shown_column_fits : Fits w64 (x + (shown.left - cell.left))
    shown_column_fits = omega (arith, in_image, s.narrow)

    pub shown_row_fits : n < 2 ^ 64 → Fits w64 (y + (shown.top - cell.top))
    shown_row_fits b = omega (arith, in_image, div-le_self n stride)

    pub shown_sub_image : (part : FrameArea) → part ≡ from_corner shown → SubImage stride (x + (shown.left - cell.left)) (y + (shown.top - cell.top)) part.width part.height n
    shown_sub_image part p = rw p (omega (arith, in_image, s.narrow))

  pub shown_in_frame : (n : ℕ) (part : FrameArea) → Canvas t n → part ≡ from_corner shown → InFrame t.width n part
  shown_in_frame n part canvas p = part_in_frame t cell shown e n canvas part p (is_empty shown) refl shown-some

  -- the row after its last
  pub row_shown : shown.top + shown.height ≡ first_row_not_run cell.top cell.height (lower_edge t)
  unfolding first_row_not_run intersection
  row_shown = let q = rw e at (not_empty shown shown-some) in rw e (omega arith)

  pub row_shown_fits : (n : ℕ) → Canvas t n → Fits w32 (shown.top + shown.height)
  row_shown_fits n canvas = omega (arith, canvas, shown_ends t.clip_area cell shown e shown-some)

  -- its rows are drawn
  module _ (n : ℕ) (canvas : Canvas t n) (part : FrameArea) (p : part ≡ from_corner shown) (bytes : List ℕ) (stride x y k : ℕ) (text background : Option ℕ) (xs ys : List ℕ)
      (d : RowsDrawn t.width part k stride (x + (shown.left - cell.left)) (y + (shown.top - cell.top)) bytes text background xs ys)
      (past : part.height ≤ k) where
    -- and that is the whole part of the atlas, as far as it is shown
    pub image_shown : ys ≡ paint_on t (within cell (image bytes stride x y cell.left cell.top text background)) xs
    unfolding image
    image_shown =
        let b = shown_in_area t.clip_area cell shown e in
        let s = shown_starts t cell shown e n canvas in
        let cut : Layer = image bytes stride (x + (shown.left - cell.left)) (y + (shown.top - cell.top)) (origin + part.left) (origin + part.top) text background in
        let whole : Layer = image bytes stride x y cell.left cell.top text background in
        rows_end t.width part k cut xs ys d.rows past
        ∙ ap (λ (m : Rectangle). paint t.width (within m cut) xs) (part-on_frame t cell shown e n canvas part p)
        ∙ paint-same t.width _ _ xs (within_same shown cut whole (λ c r grey.
        let u : x + (shown.left - cell.left) + c - (origin + (shown.left - origin)) ≡ x + c - cell.left = omega (arith, b.0, s.left) in
        let v : y + (shown.top - cell.top) + r - (origin + (shown.top - origin)) ≡ y + r - cell.top = omega (arith, b.1, s.top) in
        rw (p, u, v)))
        ∙ paint_shown t.clip_area cell shown e t.width whole xs

-- the column and the row of a corner
column_of : Option (ℕ × ℕ) → ℕ
column_of None = 0
column_of (Some p) = p.0

row_of : Option (ℕ × ℕ) → ℕ
row_of None = 0
row_of (Some p) = p.1

-- what a corner tells
module _ (a : Atlas) (n i : ℕ) (corner : Option (ℕ × ℕ)) (e : corner ≡ glyph_corner a n i) where
  pub corner_missing : corner ≡ None → is_drawn a n i ≡ false
  unfolding glyph_corner
  corner_missing m = go (is_drawn a n i) (sym m ∙ e)
    where
      go : (t : Bool) → ◌≡◌ {A = Option (ℕ × ℕ)} None (cond t (Some (glyph_column a i, glyph_row a i)) None) → t ≡ false
      go true h = cc
      go false h = refl

  pub corner_at : (column row : ℕ) → corner ≡ Some (column, row) → (is_drawn a n i ≡ true) × (column ≡ glyph_column a i) × (row ≡ glyph_row a i)
  unfolding glyph_corner column_of row_of
  corner_at column row m = go (is_drawn a n i) (sym m ∙ e)
    where
      go : (t : Bool) → ◌≡◌ {A = Option (ℕ × ℕ)} (Some (column, row)) (cond t (Some (glyph_column a i, glyph_row a i)) None) → (t ≡ true) × (column ≡ glyph_column a i) × (row ≡ glyph_row a i)
      go true h = (refl, ap column_of h, ap row_of h)
      go false h = (cc, cc, cc)

-- a glyph that is drawn lies in the atlas
pub drawn_in : (a : Atlas) (n i : ℕ) → is_drawn a n i ≡ true → (glyph_column a i + cell_width a ≤ a.width) × (glyph_row a i + cell_height a ≤ image_height a n)
drawn_in a n i e = let t = drawn_tests a n i e in (column_in i _ (cell_width a) a.width refl t.wide t.fits, t.above_foot)

pub some_shown : (clip cell shown : Rectangle) (empty : Bool) → shown ≡ intersection clip cell → empty ≡ is_empty shown → empty ≡ false → is_empty (intersection clip cell) ≡ false
some_shown clip cell shown empty e is-empty holds = cc

-- a glyph is not painted where a draw target shows nothing of its cell
pub glyph_unshown : (t : DrawTarget) (bytes : List ℕ) (a : Atlas) (text background : Option ℕ) (i left top : ℕ) (shown : Rectangle) (empty : Bool) (xs : List ℕ)
    → shown ≡ intersection t.clip_area (rectangle left top (cell_width a) (cell_height a)) → empty ≡ is_empty shown → empty ≡ true → xs ≡ paint_on t (glyph bytes a text background i left top) xs
glyph_unshown t bytes a text background i left top shown empty xs e is-empty holds =
    paint_unshown t.clip_area _ shown e t.width _ xs empty is-empty holds
    ∙ paint-same t.width _ _ xs (within_same t.clip_area _ _ (λ c r grey. glyph-within bytes a text background i left top c r grey))

-- a glyph whose corner is known, on a draw target
module _ (bytes : List ℕ) (a : Atlas) (i : ℕ) (place : Option (ℕ × ℕ)) (k : place ≡ glyph_corner a (length bytes) i) where
  module _ (t : DrawTarget) (text background : Option ℕ) (left top : ℕ) (xs : List ℕ) where
    pub glyph_missing : place ≡ None → xs ≡ paint_on t (glyph bytes a text background i left top) xs
    unfolding glyph
    glyph_missing m =
        let d = corner_missing a (length bytes) i place k m in
        sym (paint_none t.width _ xs (within_none t.clip_area _ (λ c r grey. rw d)))

    pub glyph_drawn : (x y : ℕ) (ys : List ℕ) → place ≡ Some (x, y) → ys ≡ paint_on t (within (rectangle left top (cell_width a) (cell_height a)) (image bytes (row_bytes a) x y left top text background)) xs
        → ys ≡ paint_on t (glyph bytes a text background i left top) xs
    unfolding glyph
    glyph_drawn x y ys at f =
        let d = corner_at a (length bytes) i place k x y at in
        f ∙ paint-same t.width _ _ xs (within_same t.clip_area _ _ (λ c r grey. rw (d.0, d.1, d.2)))

  pub glyph_sub_image : (x y : ℕ) → place ≡ Some (x, y) → a.width < 2 ^ 32 → SubImage (row_bytes a) x y (cell_width a) (cell_height a) (length bytes)
  glyph_sub_image x y at b = let d = corner_at a (length bytes) i place k x y at in omega (arith, drawn_in a (length bytes) i d.0, d.1, d.2)
