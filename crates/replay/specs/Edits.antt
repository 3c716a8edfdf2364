-- The edit that a list stores. Assumes nothing.
-- Serves contracts: nothing here has to be believed.
use Rattle.std.specs.Prelude.{ℕ, cond, List, eqb, ℤ}
use Rattle.sheet.specs.Edits.{Edit, new_text, new_place, new_style}

-- by its kind: 0 a new text, 1 a new place, any other a new style
unfoldable pub edit_of : ℕ → ℕ → ℤ → ℤ → List ℕ → Edit
edit_of kind item x y bytes = cond (eqb kind 0) (new_text item bytes) (cond (eqb kind 1) (new_place item x y) (new_style item bytes))
