-- The first row that the loop over a glyph's rows does not run: before it are the cell's rows above the edge, and from it on the glyph paints
-- nothing that the target shows. Assumes nothing.
use Prim.Native.Nat.{ℕ, ◌+◌, ◌-◌, ◌≤◌, ◌<◌, min}
use native.Mathlib.Omega.{arith}
use mathlib.Core.Path.{◌≡◌}
use mathlib.Core.List.{List}
use Rattle.std.specs.Prelude.{Option}
use Rattle.geometry.specs.declared.DrawTarget.{DrawTarget}
use Rattle.geometry.proofs.Rectangles.{In}
use Rattle.atlas.specs.declared.Atlas.{Atlas}
use Rattle.atlas.specs.Atlas.{cell_height, glyph, lower_edge, first_row_not_run}
use Rattle.atlas.proofs.Glyphs.{glyph_out}

module _ (top ch edge : ℕ) where
  -- the rows that are run
  pub run_above : (r : ℕ) → top ≤ r → r < first_row_not_run top ch edge → (r < top + ch) × (r < edge)
  unfolding first_row_not_run
  run_above r p q = omega arith

  pub above_run : (r : ℕ) → r < top + ch → r < edge → r < first_row_not_run top ch edge
  unfolding first_row_not_run
  above_run r p q = omega arith

  -- as it is found
  pub row_below : (n below : ℕ) → below ≡ edge - top → n ≡ min ch below → top + n ≡ first_row_not_run top ch edge
  unfolding first_row_not_run
  row_below n below d e = omega arith

pub not_run_unpainted : (t : DrawTarget) (bytes : List ℕ) (a : Atlas) (text background : Option ℕ) (i left top c r grey : ℕ) → In t.clip_area c r
    → first_row_not_run top (cell_height a) (lower_edge t) ≤ r → glyph bytes a text background i left top c r grey ≡ grey
unfolding first_row_not_run
not_run_unpainted t bytes a text background i left top c r grey shown past = glyph_out bytes a text background i left top c r grey (λ j. omega arith)
