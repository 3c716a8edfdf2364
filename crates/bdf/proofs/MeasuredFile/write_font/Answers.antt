-- `MeasuredFile::write_font` meets its contract: the record stands before them. Assumes nothing.
use Rattle.bdf.proofs.Fonts.{last_cell, size_cast, size_few, mapping_few, head_long, tail_long, font_whole}
use Rattle.bdf.proofs.MeasuredFile.write_font.Goals as goal

pub overflow_cast-size : goal.overflow_cast-size
overflow_cast-size c = search size_cast

pub put_record-requires-clause-output_len : goal.put_record-requires-clause-output_len
put_record-requires-clause-output_len c = search head_long

pub put_record-requires-clause-good_cell : goal.put_record-requires-clause-good_cell
put_record-requires-clause-good_cell c = search last_cell

pub put_record-requires-clause-atlas_bound : goal.put_record-requires-clause-atlas_bound
put_record-requires-clause-atlas_bound c = search size_few

pub put_record-requires-clause-mapping_bound : goal.put_record-requires-clause-mapping_bound
put_record-requires-clause-mapping_bound c = search mapping_few

pub write_pieces-requires : goal.write_pieces-requires
write_pieces-requires c = search tail_long

pub returns : goal.returns
returns c = search font_whole
