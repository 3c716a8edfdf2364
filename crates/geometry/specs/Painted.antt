-- A frame before a layer is painted on it and after. Assumes nothing.
-- Serves contracts: nothing here has to be believed.
use Rattle.std.specs.Prelude.{◌≡◌}
use Rattle.geometry.specs.declared.canvas.Frame.{Frame}
use Rattle.geometry.specs.Layer.{Layer}
use Rattle.geometry.specs.Canvas.{paint_on}

-- the layer is painted on the frame's greys, and these lie where they lay, on the same draw target
pub record Painted (before : Frame) (layer : Layer) (after : Frame) : Type 0 where
  pub greys : after.greys.now ≡ paint_on before.target layer before.greys.now
  pub same_greys : after.greys.ghost_name ≡ before.greys.ghost_name
  pub same_target : after.target ≡ before.target
