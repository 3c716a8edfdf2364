-- What is read of an item of an accepted sheet is within the limits of drawing.
use Rattle.records.proofs.Readings.{item_limits_lem}
use Rattle.records.proofs.listed.ItemRecord.layout.Goals as goal

pub invariant_of-result : goal.invariant_of-result
invariant_of-result c = record { limits = search item_limits_lem }
