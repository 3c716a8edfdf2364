-- Laws of a glyph's corner: the numbers that lead to it fit, and the definition makes the same tests. Assumes nothing.
use Prim.Native.Nat.{ℕ, zero, suc, ◌+◌, ◌*◌, ◌/◌, ◌%◌, ◌^◌, ◌≤◌, ◌<◌}
use native.Mathlib.Nat.{div-zero, mod-lt, mul-le-mul, mul-le-mul_right, div-le_self, div-mul-le_self, div-eq-sub-div}
use native.Mathlib.Omega.{arith}
use mathlib.Core.Path.{◌≡◌, refl, sym, ◌∙◌}
use mathlib.Core.Bool.{Bool, true, false, cond, and-eq-true_iff}
use lib.Dec.{leb}
use borrow.Author.Tests.{leb-true, le-leb, lt-leb}
use mir.Syntax.{w32, w64}
use mir.Val.{Fits}
use Rattle.std.specs.Prelude.{Option, Some, None, SomeIff, unwrap_or}
use Rattle.atlas.specs.declared.Atlas.{Atlas}
use Rattle.atlas.specs.declared.Cells.{Cells}
use Rattle.atlas.specs.Atlas.{cell_width, cell_height, image_height, glyph_column, glyph_row, is_drawn}
use Rattle.atlas.specs.Row.{CellsOf, glyph_corner}

-- an atlas has a cell in a row
pub per_row_pos : (g w aw : ℕ) → g ≡ aw / w → 1 ≤ w → w ≤ aw → 0 < g
per_row_pos g w aw e p q = rw (e, div-eq-sub-div p q) (omega arith)

-- the columns of glyph i lie in it
pub column_in : (i g w aw : ℕ) → g ≡ aw / w → 1 ≤ w → w ≤ aw → i % g * w + w ≤ aw
column_in i g w aw e p q =
    let m : i % g < g = mod-lt i (per_row_pos g w aw e p q) in
    let n : (i % g + 1) * w ≤ g * w = mul-le-mul_right w (omega arith) in
    let o : g * w ≤ aw = rw e (div-mul-le_self aw w) in
    omega arith

pub column_fits : (i g w aw : ℕ) → g ≡ aw / w → 1 ≤ w → w ≤ aw → aw < 2 ^ 32 → Fits w32 (i % g * w)
column_fits i g w aw e p q b = omega (arith, column_in i g w aw e p q)

pub column_widens : (i g w aw : ℕ) → g ≡ aw / w → 1 ≤ w → w ≤ aw → aw < 2 ^ 32 → Fits w64 (i % g * w)
column_widens i g w aw e p q b = omega (arith, column_in i g w aw e p q)

-- the row of cells
pub line_fits : (i g : ℕ) → i < 2 ^ 32 → Fits w64 (i / g)
line_fits i g b = omega (arith, div-le_self i g)

foot_small : (i g h : ℕ) → i < 2 ^ 32 → h < 2 ^ 32 → i / g * h + h < 2 ^ 64
foot_small i g h b k =
    let m : (i / g + 1) * h ≤ 4294967296 * 4294967295 = mul-le-mul {n₂ = 4294967296} {m₂ = 4294967295} (omega (arith, div-le_self i g)) (omega arith) in
    omega arith

pub row_fits : (i g h : ℕ) → i < 2 ^ 32 → h < 2 ^ 32 → Fits w64 (i / g * h)
row_fits i g h b k = omega (arith, foot_small i g h b k)

pub foot-fits : (i g h : ℕ) → i < 2 ^ 32 → h < 2 ^ 32 → Fits w64 (i / g * h + h)
foot-fits i g h b k = omega (arith, foot_small i g h b k)

-- a quotient as it is found
pub quotient : (a b q : ℕ) (found : Option ℕ) → SomeIff found (0 < b) (a / b) → q ≡ unwrap_or found 0 → q ≡ a / b
quotient a b q (Some n) s e = e ∙ s.1
quotient a zero q None s e = e ∙ sym (div-zero a)
quotient a (suc b) q None s e = absurd (s (omega arith))

-- how many glyphs stand in a row
pub per_row_fits : (g w aw : ℕ) → g ≡ aw / w → aw < 2 ^ 32 → Fits w32 g
per_row_fits g w aw e b = omega (arith, div-le_self aw w)

-- a glyph that is drawn has a cell, which fits the atlas's width and stands above its foot
pub record Drawn (a : Atlas) (n i : ℕ) : Type 0 where
  pub wide : 1 ≤ cell_width a
  pub high : 1 ≤ cell_height a
  pub fits : cell_width a ≤ a.width
  pub above_foot : glyph_row a i + cell_height a ≤ image_height a n

module _ (a : Atlas) (n i : ℕ) where
  pub drawn_tests : is_drawn a n i ≡ true → Drawn a n i
  unfolding is_drawn
  drawn_tests e =
      let p = (and-eq-true_iff (leb 1 (cell_width a)) _).0 e in
      let q = (and-eq-true_iff (leb 1 (cell_height a)) _).0 p.1 in
      let r = (and-eq-true_iff (leb (cell_width a) a.width) _).0 q.1 in
      record { wide = leb-true _ _ p.0; high = leb-true _ _ q.0; fits = leb-true _ _ r.0; above_foot = leb-true _ _ r.1 }

  -- one that is not drawn has no corner
  pub corner_nowhere : (is_drawn a n i ≡ true → ⊥) → ◌≡◌ {A = Option (ℕ × ℕ)} None (glyph_corner a n i)
  unfolding glyph_corner
  corner_nowhere never = go (is_drawn a n i) refl
    where
      go : (t : Bool) → is_drawn a n i ≡ t → ◌≡◌ {A = Option (ℕ × ℕ)} None (cond t (Some (glyph_column a i, glyph_row a i)) None)
      go true e = absurd (never e)
      go false e = refl

-- a cell in an atlas that is wide enough: drawn unless it passes the foot
module _ (a : Atlas) (n i : ℕ) (c : Cells) (h : CellsOf a n c) (p : 1 ≤ cell_width a) (q : 1 ≤ cell_height a) (r : cell_width a ≤ a.width) where
  pub corner_past_foot : c.image_height < i / c.glyphs_per_row * cell_height a + cell_height a → ◌≡◌ {A = Option (ℕ × ℕ)} None (glyph_corner a n i)
  unfolding glyph_corner is_drawn
  corner_past_foot f =
      let g : image_height a n < glyph_row a i + cell_height a = rw (h.per_row, h.height) at f in
      rw (le-leb 1 (cell_width a) p, le-leb 1 (cell_height a) q, le-leb (cell_width a) a.width r, lt-leb (glyph_row a i + cell_height a) (image_height a n) g)

  pub corner_in : i / c.glyphs_per_row * cell_height a + cell_height a ≤ c.image_height
      → ◌≡◌ {A = Option (ℕ × ℕ)} (Some (i % c.glyphs_per_row * cell_width a, i / c.glyphs_per_row * cell_height a)) (glyph_corner a n i)
  unfolding glyph_corner is_drawn
  corner_in f =
      let g : glyph_row a i + cell_height a ≤ image_height a n = rw (h.per_row, h.height) at f in
      rw (le-leb 1 (cell_width a) p, le-leb 1 (cell_height a) q, le-leb (cell_width a) a.width r, le-leb (glyph_row a i + cell_height a) (image_height a n) g, h.per_row)
