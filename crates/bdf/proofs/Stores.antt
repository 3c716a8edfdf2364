-- What stores leave: the bytes of a number, and bytes that fill a part. Assumes nothing.
use Prim.Native.Nat.{ℕ, ◌+◌, ◌-◌, ◌*◌, ◌/◌}
use mathlib.Core.Path.{◌≡◌, ◌∙◌}
use mathlib.Core.List.{List, [], ◌∷◌, ◌++◌, append-nil}
use native.Mathlib.Omega.{arith}
use lib.ListN.{length, drop, drop_of_length-le}
use lib.Seq.{sets, sets-eq, drop-drop}
use mir.Syntax.{w8}
use mir.Val.{Fits}
use borrow.Rule.Slice.PartMut.{put_mid}
use Rattle.bdf.specs.declared.reader.BoundingBox.{BoundingBox}
use Rattle.bdf.specs.Reader.{baseline}
use Rattle.bdf.specs.Font.{u16, u32, record_of}
use Rattle.bdf.specs.Stores.{metrics}
use Rattle.bdf.specs.Writing.{GoodCell}

-- a part is filled
pub sets_all : (s vs : List ℕ) → length s ≡ length vs → sets s 0 vs ≡ vs
sets_all s vs e = sets-eq vs s 0 (omega arith) ∙ rw (drop_of_length-le s {i = 0 + length vs} (omega arith)) (append-nil vs)

-- the metrics of a cell, where b is its baseline and h its height less 1, as the code finds them
module _ (cell : BoundingBox) (b : ℕ) (e : b ≡ cell.height + cell.y - 1_000_000_001) where
  baseline-found : b ≡ baseline cell
  unfolding baseline
  baseline-found = e

  pub baseline_small : GoodCell cell → Fits w8 b
  baseline_small g = omega (arith, baseline-found, g.baseline-fits)

  pub metrics-stored : (s : List ℕ) (h : ℕ) → length s ≡ 10 → h ≡ cell.height - 1
      → sets s 0 (cell.width ∷ cell.height ∷ 0 ∷ b ∷ (h / 2) ∷ 1 ∷ (cell.height + 1) ∷ 1 ∷ 0 ∷ 0 ∷ []) ≡ metrics cell
  unfolding metrics
  metrics-stored s h l f = rw (baseline-found, f) (sets_all s _ l)

-- numbers stored one after the other, and the metrics after them
module _ (s : List ℕ) (l : length s ≡ 28) where
  pub record_stored : (cell : BoundingBox) (s₁ s₂ s₃ s₄ s₅ s₆ b₁ b₂ b₃ b₄ b₅ b₆ ws : List ℕ) (a m : ℕ) → s₁ ≡ sets s 0 b₁ → b₁ ≡ u32 28 → s₂ ≡ sets s₁ 4 b₂ → b₂ ≡ u32 a
      → s₃ ≡ sets s₂ 8 b₃ → b₃ ≡ u32 (28 + a) → s₄ ≡ sets s₃ 12 b₄ → b₄ ≡ u16 m → s₅ ≡ sets s₄ 14 b₅ → b₅ ≡ u16 0 → s₆ ≡ sets s₅ 16 b₆ → b₆ ≡ u16 (16 * cell.width)
      → ws ≡ metrics cell → put_mid 18 10 s₆ ws ≡ record_of cell a m
  unfolding record_of metrics
  record_stored cell s₁ s₂ s₃ s₄ s₅ s₆ b₁ b₂ b₃ b₄ b₅ b₆ ws a m e₁ f₁ e₂ f₂ e₃ f₃ e₄ f₄ e₅ f₅ e₆ f₆ w =
      let vs : List ℕ = u32 28 ++ (u32 a ++ (u32 (28 + a) ++ (u16 m ++ (u16 0 ++ u16 (16 * cell.width))))) in
      let all : s₆ ≡ vs ++ drop 18 s = rw (e₆, e₅, e₄, e₃, e₂, e₁, f₁, f₂, f₃, f₄, f₅, f₆) (sets-eq vs s 0 (omega arith)) in
      let d : drop 10 (drop 18 s) ≡ [] = rw (drop-drop 10 18 s) (drop_of_length-le s {i = 28} (omega arith)) in
      rw (all, w, d)
