-- `MeasuredFile::write` meets its contract: the length that was measured is that of the font. Assumes nothing.
use Rattle.bdf.proofs.Fonts.{head_fits, end_fits, end_cast, short_refused, short_kept, good_accepted, good_length, good_written, output_long}
use Rattle.bdf.proofs.MeasuredFile.write.Goals as goal

pub overflow_add-end : goal.overflow_add-end
overflow_add-end c = search head_fits

pub overflow_add-end-2 : goal.overflow_add-end-2
overflow_add-end-2 c = search end_fits

pub returns-then-output-end-clause-code : goal.returns-then-output-end-clause-code
returns-then-output-end-clause-code c = search short_refused

pub returns-then-output-end-clause-output_after : goal.returns-then-output-end-clause-output_after
returns-then-output-end-clause-output_after c = search short_kept

pub write_font-requires : goal.write_font-requires
write_font-requires c = search output_long

pub overflow_cast-result : goal.overflow_cast-result
overflow_cast-result c = search end_cast

pub returns-clause-code : goal.returns-clause-code
returns-clause-code c = search good_accepted

pub returns-clause-output_after : goal.returns-clause-output_after
returns-clause-output_after c = search good_written

pub returns-clause-font_length : goal.returns-clause-font_length
returns-clause-font_length c = search good_length
