-- The numbers and the metrics, one after the other, are the record. Assumes nothing.
use Rattle.bdf.proofs.Stores.{record_stored}
use Rattle.bdf.proofs.glyphs.put_record.Goals as goal

pub returns : goal.returns
returns c = record_stored _ c.requires.output_len c.args.cell _ _ _ _ _ _ _ _ _ _ _ _ _ c.args.atlas c.args.mapping
    c.store_bytes.ensures c.to_le_bytes.ensures c.store_bytes-2.ensures c.to_le_bytes-2.ensures c.store_bytes-3.ensures c.to_le_bytes-3.ensures
    c.store_bytes-4.ensures c.to_le_bytes-4.ensures c.store_bytes-5.ensures c.to_le_bytes-5.ensures c.store_bytes-6.ensures c.to_le_bytes-6.ensures c.put_metrics.ensures
