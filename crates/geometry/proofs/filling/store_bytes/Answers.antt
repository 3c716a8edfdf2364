-- The part copied over, put back, is the bytes stored from its start on. Assumes nothing.
use mathlib.Core.Path.{ap, ◌∙◌}
use lib.ListN.{length}
use lib.Seq.{sets}
use Rattle.geometry.proofs.Stores.{part_stored}
use Rattle.geometry.proofs.filling.store_bytes.Goals as goal

pub returns : goal.returns
returns c = part_stored _ _ _ _ c.requires (ap length c.copy_bytes.ensures) ∙ ap (sets _ _) c.copy_bytes.ensures
