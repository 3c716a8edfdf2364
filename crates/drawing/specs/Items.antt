-- What an item of an accepted sheet stands for, and what it paints. Assumes nothing.
-- Serves contracts: nothing here has to be believed.
use Rattle.geometry.specs.declared.Rectangle.{Rectangle}
use Rattle.geometry.specs.Layer.{Layer}
use Rattle.line.specs.Line.{Font}
use Rattle.text.specs.Text.{Text}
use Rattle.records.specs.declared.listed.ItemRecord.{ItemRecord}
use Rattle.records.specs.Records.{item, item_font}
use Rattle.drawing.specs.Drawing.{item_layer, item_ink}

abbrev pub text_of : ItemRecord → Text
text_of i = item i.sheet.bytes.now i.number

abbrev pub font_of : ItemRecord → Font
font_of i = item_font i.sheet.bytes.now i.number

abbrev pub layer_of : ItemRecord → Layer
layer_of i = item_layer i.sheet.bytes.now i.number

abbrev pub ink_of : ItemRecord → Rectangle
ink_of i = item_ink i.sheet.bytes.now i.number
