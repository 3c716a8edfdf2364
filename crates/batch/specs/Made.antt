-- What making a list of edits came to. Assumes nothing.
-- Serves contracts: nothing here has to be believed.
use Rattle.std.specs.Prelude.{◌+◌, ◌^◌, ◌<◌}
use Rattle.geometry.specs.declared.Rectangle.{Rectangle}
use Rattle.text.specs.Signed.{signed_rectangle}
use Rattle.calls.specs.declared.Batch.{Batch}
use Rattle.calls.specs.Calls.{batch}
use Rattle.calls.specs.Replies.{code_of}
use Rattle.batch.specs.declared.Made.{Made}

-- the reply that says it
abbrev pub made_batch : Made → Batch
made_batch m = batch (code_of m.refused) m.made (signed_rectangle m.area)

-- a rectangle whose right edge and foot fit a signed number of 32 bits
pub record EndsNear (a : Rectangle) : Type 0 where
  pub right : a.left + a.width < 2 ^ 31
  pub foot : a.top + a.height < 2 ^ 31
