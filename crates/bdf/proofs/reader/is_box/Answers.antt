-- `is_box` meets its contract: its tests are the definition's. Assumes nothing.
use Rattle.std.proofs.Common.{refl, ap, leb}
use Rattle.bdf.proofs.Steps.{box_made_of}
use Rattle.bdf.proofs.reader.is_box.Goals as goal

pub returns : goal.returns
returns c = box_made_of c.args.four.width c.args.four.height c.args.four.x c.args.four.y _ _ _ _ refl refl (ap (leb c.args.four.x.size) c.from-limit.ensures) (ap (leb c.args.four.y.size) c.from-limit.ensures)
