-- What the list stores of a change: an offset and a length of two bytes each, then the bytes. Assumes nothing.
-- Serves contracts: nothing here has to be believed.
use Rattle.std.specs.Prelude.{ℕ, ◌+◌, ◌*◌, List, ◌++◌, length, take, drop, slice_index}

-- the number that two bytes from an offset on store
unfoldable pub length_at : List ℕ → ℕ → ℕ
length_at l at = slice_index (drop at l) 0 + 256 * slice_index (drop at l) 1

unfoldable pub change_bytes : List ℕ → List ℕ
change_bytes c = take (length_at c 2) (drop 4 c)

-- bytes with a change: those of the change from its offset on, the others as they were
unfoldable pub changed : List ℕ → ℕ → List ℕ → List ℕ
changed l at bytes = take at l ++ (bytes ++ drop (at + length bytes) l)
