-- The edit that a value of the programs is. Assumes nothing.
-- Serves contracts: nothing here has to be believed.
use Rattle.sheet.specs.Edits.{new_text, new_place, new_style}
use Rattle.replay.specs.declared.edit.Edit.{Edit}
use Rattle.replay.specs.declared.edit.Edit.TheVariants.{Text, Place, Style}
use Rattle.sheet.specs.Edits as definition

abbrev pub spelled : Edit → definition.Edit
spelled (Text item text) = new_text item text.now
spelled (Place item x y) = new_place item x y
spelled (Style item style) = new_style item style.now
