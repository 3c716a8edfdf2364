-- `in_bitmap` meets its contract: bitmap lines are expected, and more of them to come. Assumes nothing.
use Rattle.std.proofs.Common.{refl}
use Rattle.bdf.proofs.Steps.{bitmap_next}
use Rattle.bdf.proofs.reader.Reader.in_bitmap.Goals as goal

pub returns : goal.returns
returns c = bitmap_next _ _ _ c.eq.ensures refl
