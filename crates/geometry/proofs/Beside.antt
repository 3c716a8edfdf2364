-- Layers side by side: what ends at a column and what starts there do not touch, so it does not matter which is painted first. Assumes nothing.
use Prim.Native.Nat.{ℕ, ◌+◌, ◌≤◌, ◌<◌}
use native.Mathlib.Omega.{arith}
use native.Mathlib.Decide.{dec_lt}
use mathlib.Core.Path.{◌≡◌, sym, ap, ◌∙◌}
use mathlib.Core.List.{List}
use mathlib.Core.Logic.{⊎_elim}
use Rattle.std.specs.Prelude.{Option}
use Rattle.geometry.specs.Rectangle.{rectangle}
use Rattle.geometry.specs.Layer.{Layer, over, colored, filled, paint}
use Rattle.geometry.proofs.Rectangles.{In, in_or_out}
use Rattle.geometry.proofs.Layers.{within_in, filled_out, paint-over, paint-same}

-- a layer that is one layer and then another
pub record Joined (f f₁ f₂ : Layer) : Type 0 where
  pub at : (c r grey : ℕ) → f c r grey ≡ f₂ c r (f₁ c r grey)

-- on a frame
pub paint_joined : (fw : ℕ) (f f₁ f₂ : Layer) (frame : List ℕ) → Joined f f₁ f₂ → paint fw f₂ (paint fw f₁ frame) ≡ paint fw f frame
paint_joined fw f f₁ f₂ frame j = paint-over fw f₁ f₂ frame ∙ sym (paint-same fw f _ frame j.at)

-- a layer that changes nothing from a column on
pub record EndsAt (k : ℕ) (f : Layer) : Type 0 where
  pub past : (c r grey : ℕ) → k ≤ c → f c r grey ≡ grey

-- a layer that changes nothing left of a column
pub record StartsAt (k : ℕ) (f : Layer) : Type 0 where
  pub before : (c r grey : ℕ) → c < k → f c r grey ≡ grey

-- either may be painted first
either_first : {k : ℕ} {f g : Layer} → EndsAt k f → StartsAt k g → (c r grey : ℕ) → f c r (g c r grey) ≡ g c r (f c r grey)
either_first {k} {f} {g} ends starts c r grey = elim (dec_lt c k) [
  | yes l ↦ ap (f c r) (starts.before c r grey l) ∙ sym (starts.before c r (f c r grey) l)
  | no l ↦ ends.past c r (g c r grey) (omega arith) ∙ ap (g c r) (sym (ends.past c r grey (omega arith)))
]

-- what is painted over two parts at the end may be painted over each part by itself
pub part_by_part : {k : ℕ} {f f₁ f₂ g g₁ g₂ : Layer} → Joined f f₁ f₂ → Joined g g₁ g₂ → EndsAt k f₁ → StartsAt k g₂ → Joined (over f g) (over f₁ g₁) (over f₂ g₂)
part_by_part {f₁ = f₁} {f₂ = f₂} {g = g} {g₁ = g₁} f-joined g-joined ends starts = record {
  at = λ c r grey. f-joined.at c r (g c r grey) ∙ ap (λ n. f₂ c r (f₁ c r n)) (g-joined.at c r grey) ∙ ap (f₂ c r) (either_first ends starts c r (g₁ c r grey));
}

pub over_ends : {k : ℕ} {f g : Layer} → EndsAt k f → EndsAt k g → EndsAt k (over f g)
over_ends {g = g} f-ends g-ends = record { past = λ c r grey l. f-ends.past c r (g c r grey) l ∙ g-ends.past c r grey l }

-- ---- filled rectangles of one height

module _ (x top w h : ℕ) (color : Option ℕ) where
  pub filled_ends : EndsAt (x + w) (filled (rectangle x top w h) color)
  filled_ends = record { past = λ c r grey l. filled_out (rectangle x top w h) color c r grey (λ i. omega arith) }

  pub filled_starts : StartsAt x (filled (rectangle x top w h) color)
  filled_starts = record { before = λ c r grey l. filled_out (rectangle x top w h) color c r grey (λ i. omega arith) }

  filled_in : (c r grey : ℕ) → In (rectangle x top w h) c r → filled (rectangle x top w h) color c r grey ≡ colored color grey
  unfolding filled
  filled_in c r grey i = within_in (rectangle x top w h) (λ c r grey. colored color grey) c r grey i

-- one that is v + w wide is one v wide, and then one w wide
pub filled_joined : (x top v w h : ℕ) (color : Option ℕ) → Joined (filled (rectangle x top (v + w) h) color) (filled (rectangle x top v h) color) (filled (rectangle (x + v) top w h) color)
filled_joined x top v w h color = record { at = λ c r grey. ⊎_elim (inside c r grey) (outside c r grey) (in_or_out (rectangle x top (v + w) h) c r) }
  where
    inside : (c r grey : ℕ) → In (rectangle x top (v + w) h) c r → filled (rectangle x top (v + w) h) color c r grey ≡ over (filled (rectangle (x + v) top w h) color) (filled (rectangle x top v h) color) c r grey
    inside c r grey i = filled_in x top (v + w) h color c r grey i ∙ sym (elim (dec_lt c (x + v)) [
      | yes l ↦ (filled_starts (x + v) top w h color).before c r _ l ∙ filled_in x top v h color c r grey (omega arith)
      | no l ↦ filled_in (x + v) top w h color c r _ (omega arith) ∙ ap (colored color) ((filled_ends x top v h color).past c r grey (omega arith))
    ])

    outside : (c r grey : ℕ) → (In (rectangle x top (v + w) h) c r → ⊥) → filled (rectangle x top (v + w) h) color c r grey ≡ over (filled (rectangle (x + v) top w h) color) (filled (rectangle x top v h) color) c r grey
    outside c r grey o =
        filled_out (rectangle x top (v + w) h) color c r grey o
        ∙ sym (filled_out (rectangle (x + v) top w h) color c r _ (λ i. o (omega arith)) ∙ filled_out (rectangle x top v h) color c r grey (λ i. o (omega arith)))
