-- `line_step` meets its contract: each line that may be expected is a case of the definition. Assumes nothing.
use Rattle.bdf.proofs.Steps.{expected_is, expected_word, expected_count, expected_cell, expected_box, expected_encoding}
use Rattle.bdf.specs.Reader.{line_step}
use Rattle.bdf.proofs.reader.SoundReader.line_step.Goals as goal

pub returns-in-StartFont : goal.returns-in-StartFont
unfolding line_step
returns-in-StartFont c = search expected_word

pub returns-in-Font : goal.returns-in-Font
unfolding line_step
returns-in-Font c = search expected_word

pub returns-in-Size : goal.returns-in-Size
unfolding line_step
returns-in-Size c = search expected_word

pub returns-in-FontBoundingBox : goal.returns-in-FontBoundingBox
unfolding line_step
returns-in-FontBoundingBox c = search expected_cell

pub returns-in-Properties : goal.returns-in-Properties
unfolding line_step
returns-in-Properties c = search expected_is

pub returns-in-Property : goal.returns-in-Property
unfolding line_step
returns-in-Property c = search expected_is

pub returns-in-Chars : goal.returns-in-Chars
unfolding line_step
returns-in-Chars c = search expected_count

pub returns-in-Glyph : goal.returns-in-Glyph
unfolding line_step
returns-in-Glyph c = search expected_is

pub returns-in-Encoding : goal.returns-in-Encoding
unfolding line_step
returns-in-Encoding c = search expected_encoding

pub returns-in-Swidth : goal.returns-in-Swidth
unfolding line_step
returns-in-Swidth c = search expected_word

pub returns-in-Dwidth : goal.returns-in-Dwidth
unfolding line_step
returns-in-Dwidth c = search expected_word

pub returns-in-Bbx : goal.returns-in-Bbx
unfolding line_step
returns-in-Bbx c = search expected_box

pub returns-in-Attributes : goal.returns-in-Attributes
unfolding line_step
returns-in-Attributes c = search expected_is

pub returns-in-Bitmap : goal.returns-in-Bitmap
unfolding line_step
returns-in-Bitmap c = search expected_word

pub returns-in-Rows : goal.returns-in-Rows
unfolding line_step
returns-in-Rows c = search expected_is

pub returns-in-Nothing : goal.returns-in-Nothing
unfolding line_step
returns-in-Nothing c = search expected_is
