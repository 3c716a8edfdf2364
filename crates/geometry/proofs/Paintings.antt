-- Laws of a frame before a layer is painted on it and after. Assumes nothing.
use Prim.Native.Nat.{ℕ}
use mathlib.Core.Path.{◌≡◌, refl, ap, ◌∙◌}
use mathlib.Core.List.{List}
use Rattle.geometry.specs.declared.DrawTarget.{DrawTarget}
use Rattle.geometry.specs.declared.canvas.Frame.{Frame}
use Rattle.geometry.specs.Layer.{Layer, over, within}
use Rattle.geometry.specs.Canvas.{paint_on}
use Rattle.geometry.specs.Painted.{Painted}
use Rattle.geometry.proofs.Layers.{within_over, paint-over, paint-same}

-- one layer painted on a draw target, then another
pub paint_then : (t : DrawTarget) (f g : Layer) (xs ys zs : List ℕ) → ys ≡ paint_on t f xs → zs ≡ paint_on t g ys → zs ≡ paint_on t (over g f) xs
paint_then t f g xs ys zs p q =
    q ∙ ap (paint_on t g) p ∙ paint-over t.width _ _ xs ∙ paint-same t.width _ (within t.clip_area (over g f)) xs (within_over t.clip_area f g)

module _ (before : Frame) (layer : Layer) where
  -- a frame that stays as it is
  pub painted_none : before.greys.now ≡ paint_on before.target layer before.greys.now → Painted before layer before
  painted_none e = record { greys = e; same_greys = refl; same_target = refl }

  -- one layer painted, then another
  pub painted_then : (later : Layer) (middle after : Frame) → Painted before layer middle → Painted middle later after → Painted before (over later layer) after
  painted_then later middle after p q = record {
    greys = paint_then before.target layer later before.greys.now middle.greys.now after.greys.now p.greys (rw p.same_target at q.greys);
    same_greys = q.same_greys ∙ p.same_greys;
    same_target = q.same_target ∙ p.same_target;
  }

  -- another layer that makes the same greys
  pub painted_by : (other : Layer) (after : Frame) → Painted before layer after → after.greys.now ≡ paint_on before.target other before.greys.now → Painted before other after
  painted_by other after p e = record { greys = e; same_greys = p.same_greys; same_target = p.same_target }
