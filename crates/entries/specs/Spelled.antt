-- The bytes of a list of edits, entry after entry (docs/SHEET.md, A list of edits). Assumes nothing.
-- To be believed: it says what a sheet means.
use Rattle.std.specs.Prelude.{ℕ, ◌/◌, ◌<◌, List, [], ◌∷◌, ◌++◌, length, get_or}
use Rattle.std.specs.Int.{w32}
use Rattle.std.proofs.Common.{of_z, SFits}
use Rattle.sheet.specs.Fields.{le16}
use Rattle.sheet.specs.Edits.{Edit, new_text, new_place, new_style, item_number}

-- the four bytes of a number: the low two, then the high two
unfoldable pub le32 : ℕ → List ℕ
le32 n = le16 n ++ le16 (n / 65_536)

-- "an edit kind (0 text, 1 place, 2 style; 1 byte)"
unfoldable pub kind_number : Edit → ℕ
kind_number (new_text i t) = 0
kind_number (new_place i x y) = 1
kind_number (new_style i t) = 2

-- "place data are two signed 32-bit numbers, x and y", in two's complement
unfoldable pub data_bytes : Edit → List ℕ
data_bytes (new_text i t) = t
data_bytes (new_place i x y) = le32 (of_z w32 x) ++ le32 (of_z w32 y)
data_bytes (new_style i t) = t

-- "Each entry is an edit kind (0 text, 1 place, 2 style; 1 byte), item number (1), data length (2) and data"
unfoldable pub entry_bytes : Edit → List ℕ
entry_bytes e = kind_number e ∷ item_number e ∷ le16 (length (data_bytes e)) ++ data_bytes e

unfoldable pub list_bytes : List Edit → List ℕ
list_bytes [] = []
list_bytes (e ∷ es) = entry_bytes e ++ list_bytes es

-- ---- the edits that an entry can hold

abbrev pub Bytes : List ℕ → Type 0
Bytes l = (k : ℕ) → get_or l k 0 < 256

-- x and y from −2^31 to 2^31 − 1
unfoldable pub PlaceFits : Edit → Type 0
PlaceFits (new_text i t) = Unit {0}
PlaceFits (new_place i x y) = SFits w32 x × SFits w32 y
PlaceFits (new_style i t) = Unit {0}

-- an item number of 1 byte, and data whose length has 2
pub record Storable (e : Edit) : Type 0 where
  pub item_byte : item_number e < 256
  pub data_short : length (data_bytes e) < 65_536
  pub data_bytes_lem : Bytes (data_bytes e)
  pub place-fits : PlaceFits e

unfoldable pub AllStorable : List Edit → Type 0
AllStorable [] = Unit {0}
AllStorable (e ∷ es) = Storable e × AllStorable es
