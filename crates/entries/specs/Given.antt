-- What an iterator over a list's entries gives. Assumes nothing.
-- Serves contracts: nothing here has to be believed.
use Rattle.std.specs.Prelude.{◌≡◌, ℕ, Option, cond, List, eqb, MatchOption}
use Rattle.std.specs.Option.{is_some}
use Rattle.sheet.specs.Fields.{le32_at}
use Rattle.sheet.specs.Edits.{Edit, new_text, new_place, new_style}
use Rattle.sheet.specs.OfItem.{of_item}
use Rattle.entries.specs.Entries.{behind, signed_of, edit_of, is_entry}
use Rattle.entries.specs.declared.Entries.{Entries}
use Rattle.sheet.specs.declared.edit.Entry.{Entry}

-- the edit of a kind, by its item and its data
unfoldable pub edit_by : ℕ → ℕ → List ℕ → Edit
edit_by kind item t =
    cond (eqb kind 0) (new_text item t) (cond (eqb kind 1) (new_place item (signed_of (le32_at t 0)) (signed_of (le32_at t 4))) (new_style item t))

-- an entry exactly where one stands at the head of what was left, and then what stands behind it is left, and else the same
pub record GivesEntry (s : Entries) (given : Option Entry) (t : Entries) : Type 0 where
  pub whole : is_some given ≡ is_entry s.rest.now
  pub step : MatchOption given (t.rest.now ≡ s.rest.now) (λ e. (of_item e.item e.edit ≡ edit_of s.rest.now) × (t.rest.now ≡ behind s.rest.now))
