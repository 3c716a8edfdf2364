-- Machines: what one makes of a list of inputs, whole or up to the first that is refused. Assumes nothing.
-- To be believed: it says what a sheet means.
use Rattle.std.specs.Prelude.{List, [], ◌∷◌}
use Rattle.characters.specs.Refusal.{unless_refused}
use Rattle.calls.specs.declared.Box.{Box}

-- what a machine with states S makes of an input: the state after it, and the reply
pub record Machine (S Input Reply : Type 0) : Type 0 where
  pub next : S → Input → S
  pub reply : S → Input → Reply

-- the state after a list, and the reply to each input
pub record Run (S Reply : Type 0) : Type 0 where
  pub state : S
  pub replies : List Reply

-- "Each call gets its run's sheet and frame as the call before left them; nobody else writes them"
unfoldable pub run : {S Input Reply : Type 0} → Machine S Input Reply → S → List Input → Run S Reply
run m s [] = record { state = s; replies = [] }
run m s (i ∷ is) = let r = run m (m.next s i) is in record { state = r.state; replies = m.reply s i ∷ r.replies }

-- "Edits run in order, the first refused one stops the list, and the earlier ones stand": the run up to there, with the refused one
unfoldable pub run_until_refused : {S Input : Type 0} → Machine S Input Box → S → List Input → Run S Box
run_until_refused m s [] = record { state = s; replies = [] }
run_until_refused m s (i ∷ is) =
    let r = unless_refused (m.reply s i).code (run_until_refused m (m.next s i) is) (record { state = m.next s i; replies = [] }) in
    record { state = r.state; replies = m.reply s i ∷ r.replies }
