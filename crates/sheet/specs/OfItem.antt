-- The edit of an item that a value of the code stands for. Assumes nothing.
-- Serves contracts: nothing here has to be believed.
use Rattle.std.specs.Prelude.{ℕ}
use Rattle.sheet.specs.declared.edit.Edit.TheVariants.{Text, Place, Style}
use Rattle.sheet.specs.declared.edit.Edit as code
use Rattle.sheet.specs.Edits.{Edit, new_text, new_place, new_style}

abbrev pub of_item : ℕ → code.Edit → Edit
of_item i (Text t) = new_text i t.now
of_item i (Place x y) = new_place i x y
of_item i (Style t) = new_style i t.now
