-- Four bytes as a signed number. Assumes nothing.
use Rattle.entries.proofs.TwosComplement.{signed_bytes}
use Rattle.entries.proofs.i32_at.Goals as goal

pub returns : goal.returns
returns c = signed_bytes _ _ _ c.type_inv.list c.from_le_bytes.ensures
