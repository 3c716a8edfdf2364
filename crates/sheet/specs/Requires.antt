-- What functions on a sheet's bytes require, each as one record. Assumes nothing.
-- Serves contracts: nothing here has to be believed.
use Rattle.std.specs.Prelude.{ℕ, ◌+◌, ◌≤◌, ◌<◌, ◌≡◌, List, length}
use Rattle.sheet.specs.Fields.{font_count, item_count, pieces_at, slot_size}
use Rattle.sheet.specs.Conforming.{Headed}
use Rattle.sheet.specs.Accepted.{ItemIn, Accepted}
use Rattle.sheet.specs.Edits.{Edit, refusal}

-- the header's limits hold, and the records lie in the file
pub record RecordsIn (b : List ℕ) : Type 0 where
  pub headed : Headed b
  pub records_in : pieces_at b ≤ length b

-- a font of an accepted sheet, by its number
pub record FontListed (b : List ℕ) (n : ℕ) : Type 0 where
  pub accepted : Accepted b
  pub listed : n < font_count b

-- an item of an accepted sheet, by its number
pub record ItemListed (b : List ℕ) (n : ℕ) : Type 0 where
  pub accepted : Accepted b
  pub listed : n < item_count b

-- an edit of an accepted sheet that is not refused
pub record EditAllowed (b : List ℕ) (e : Edit) : Type 0 where
  pub accepted : Accepted b
  pub allowed : refusal b e ≡ 0

-- a text fits the slot of the item whose record stands at o
pub record TextFits (b : List ℕ) (o : ℕ) (t : List ℕ) : Type 0 where
  pub item_in : ItemIn b o
  pub short : length t ≤ slot_size b o

-- a style fits the item whose record stands at o
pub record StyleFits (b : List ℕ) (o : ℕ) (t : List ℕ) : Type 0 where
  pub record_in : o + 28 ≤ length b
  pub eight : length t ≡ 8
