-- A part of a record: the metrics of a cell. Assumes nothing.
-- Serves contracts: nothing here has to be believed.
use Rattle.std.specs.Prelude.{ℕ, ◌+◌, ◌-◌, ◌/◌, List, [], ◌∷◌}
use Rattle.bdf.specs.declared.reader.BoundingBox.{BoundingBox}
use Rattle.bdf.specs.Reader.{baseline}

-- the last ten bytes of a record
unfoldable pub metrics : BoundingBox → List ℕ
metrics cell = cell.width ∷ cell.height ∷ 0 ∷ baseline cell ∷ ((cell.height - 1) / 2) ∷ 1 ∷ (cell.height + 1) ∷ 1 ∷ 0 ∷ 0 ∷ []
