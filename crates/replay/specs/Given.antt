-- What an iterator over the entries of a stored list gives. Assumes nothing.
-- Serves contracts: nothing here has to be believed.
use Rattle.std.specs.Prelude.{ℕ, ◌≡◌, ◌<◌, cond, eqb, List, [], length, drop, Option, MatchOption}
use Rattle.std.specs.Borrow.{Bor}
use Rattle.replay.specs.declared.Entries.{Entries}

-- what stands behind an entry of this size at the head of a list; one of no size is the last
unfoldable pub behind : ℕ → List ℕ → List ℕ
behind size l = cond (eqb size 0) [] (drop size l)

-- an entry is given from its start to the list's end, and what stands behind it is left; `sizes` says which sizes may be told of it
pub record EntryGiven {F : Type 0} (sizes : F → List ℕ → ℕ → Type 0) (s : Entries F) (entry : Bor (List ℕ)) (t : Entries F) : Type 0 where
  pub any_left : 0 < length s.rest.now
  pub whole : entry.now ≡ s.rest.now
  pub size : ℕ
  pub told : sizes s.size s.rest.now size
  pub rest_left : t.rest.now ≡ behind size s.rest.now
  pub same_sizes : t.size ≡ s.size

-- an entry where anything was left, and else none
abbrev pub GivesEntry : {F : Type 0} → (F → List ℕ → ℕ → Type 0) → Entries F → Option (Bor (List ℕ)) → Entries F → Type 0
GivesEntry sizes s given t = MatchOption given ((s.rest.now ≡ []) × (t ≡ s)) (λ entry. EntryGiven sizes s entry t)
