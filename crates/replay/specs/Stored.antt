-- Bytes stored in a list of bytes, where they fit. Assumes nothing.
-- Serves contracts: nothing here has to be believed.
use Rattle.std.specs.Prelude.{ℕ, ◌+◌, cond, List, leb, length}
use Rattle.std.proofs.lemmas.List.Edits.{sets}

-- l with the bytes from an offset on, or l itself where they do not fit
unfoldable pub stored : List ℕ → ℕ → List ℕ → List ℕ
stored l at bytes = cond (leb (at + length bytes) (length l)) (sets l at bytes) l
