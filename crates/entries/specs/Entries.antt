-- A list of edits: the entries that its bytes spell, and whether they fill it (docs/SHEET.md, A list of edits). Assumes nothing.
-- To be believed: it says what a sheet means.
use Rattle.std.specs.Prelude.{ℕ, zero, suc, ◌+◌, ◌^◌, Bool, true, false, cond, ◌&&◌, List, [], ◌∷◌, ltb, leb, eqb, ℤ, pos, ◌-ℤ◌, length, drop}
use Rattle.sheet.specs.Fields.{byte_at, le16_at, le32_at, part}
use Rattle.sheet.specs.Edits.{Edit, new_text, new_place, new_style}

-- ---- the entry at the head of a list: "an edit kind (0 text, 1 place, 2 style; 1 byte), item number (1), data length (2) and data"

abbrev pub kind_of : List ℕ → ℕ
kind_of l = byte_at l 0

abbrev pub item_of : List ℕ → ℕ
item_of l = byte_at l 1

abbrev pub data_length : List ℕ → ℕ
data_length l = le16_at l 2

unfoldable pub data_of : List ℕ → List ℕ
data_of l = part l 4 (data_length l)

-- what stands behind it
unfoldable pub behind : List ℕ → List ℕ
behind l = drop (4 + data_length l) l

-- a signed number of 4 bytes, in two's complement: below 2^31 itself, from there on 2^32 less
unfoldable pub signed_of : ℕ → ℤ
signed_of n = cond (ltb n (2 ^ 31)) (pos n) (pos n -ℤ pos (2 ^ 32))

-- the edit that it spells, by its kind; "place data are two signed 32-bit numbers, x and y"
unfoldable pub edit_of : List ℕ → Edit
edit_of l =
    cond (eqb (kind_of l) 0) (new_text (item_of l) (data_of l))
    (cond (eqb (kind_of l) 1) (new_place (item_of l) (signed_of (le32_at l 4)) (signed_of (le32_at l 8))) (new_style (item_of l) (data_of l)))

-- ---- refusal 22: "a list whose entries don't fill it exactly, have an unknown kind or a place not 8 bytes long"

unfoldable pub is_known : ℕ → ℕ → Bool
is_known kind size = cond (eqb kind 0) true (cond (eqb kind 1) (eqb size 8) (eqb kind 2))

-- whether an entry stands at the head, whole
unfoldable pub is_entry : List ℕ → Bool
is_entry l = leb (4 + data_length l) (length l) && is_known (kind_of l) (data_length l)

-- from the head of a list on, at most k entries: f at each, `bad` where there is none, `end` at the end
unfoldable pub fold_by : {A : Type 0} → (List ℕ → A → A) → A → A → ℕ → List ℕ → A
fold_by f bad end zero l = bad
fold_by f bad end (suc k) [] = end
fold_by f bad end (suc k) (x ∷ l) = cond (is_entry (x ∷ l)) (f (x ∷ l) (fold_by f bad end k (behind (x ∷ l)))) bad

-- an entry has 4 bytes at least, so there are steps enough
unfoldable pub fold : {A : Type 0} → (List ℕ → A → A) → A → A → List ℕ → A
fold f bad end l = fold_by f bad end (suc (length l)) l

-- whether entries fill the list
unfoldable pub is_filled : List ℕ → Bool
is_filled = fold (λ l rest. rest) false true

-- the edits that they spell
unfoldable pub edits_of : List ℕ → List Edit
edits_of = fold (λ l rest. edit_of l ∷ rest) [] []
