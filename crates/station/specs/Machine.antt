-- The two runs of demand 3 (docs/DEMANDS.md), made of the exported calls, and the plain machine (docs/SHEET.md, Drawing and edits), over steps that are
-- single edits or lists of them (docs/SHEET.md, A list of edits). Assumes nothing.
-- To be believed: it says what a sheet means.
use Rattle.std.specs.Prelude.{ℕ, cond, List, []}
use Rattle.characters.specs.Refusal.{unless_refused}
use Rattle.sheet.specs.Edits.{Edit, refusal, edited}
use Rattle.entries.specs.Entries.{is_filled, edits_of}
use Rattle.drawing.specs.Drawing.{page}
use Rattle.calls.specs.declared.Box.{Box}
use Rattle.calls.specs.declared.Batch.{Batch}
use Rattle.calls.specs.Machine.{Machine, Run, run, run_until_refused}
use Rattle.calls.specs.Calls.{box_reply, edit_damage, draw_code, draw_frame, Logger, patched_machine, zeros, batch, batch_of, edit_list_reply, edit_list_sheet, edit_list_frame, on_sheet_reply, on_sheet_sheet}

-- ---- a step of the plain machine

-- "the edit is refused: no byte changes", "Otherwise .. the bytes named above are replaced"
unfoldable pub plain_step : List ℕ → Edit → List ℕ
plain_step b e = unless_refused (refusal b e) (edited b e) b

-- "the reply is that number with zeros", "the reply is 0 with the damage rectangle for the bytes before and after"
unfoldable pub plain_reply : List ℕ → Edit → Box
plain_reply b e = box_reply (refusal b e) (edit_damage b e)

-- ---- the machines for single edits; that with a frame is `patched_machine`

-- an edit "on the sheet alone"
abbrev pub fresh_machine : Machine (List ℕ) Edit Box
fresh_machine = record { next = on_sheet_sheet; reply = on_sheet_reply }

-- the plain machine "is fed each edit's kind, item number and data, never a reply"; "Its state is the sheet's bytes"
abbrev pub plain_machine : Machine (List ℕ) Edit Box
plain_machine = record { next = plain_step; reply = plain_reply }

-- ---- steps: "Demand 3's first run may use either"

-- a single edit, or the bytes of a list
pub data EditStep : Type 0 where
  single : Edit → EditStep
  list : List ℕ → EditStep

pub data StepReply : Type 0 where
  to_single : Box → StepReply
  to_list : Batch → StepReply

-- the calls with a frame
abbrev pub patched_next : Logger → EditStep → Logger
patched_next s (single e) = patched_machine.next s e
patched_next s (list l) = record { sheet = edit_list_sheet s.sheet s.frame l; frame = edit_list_frame s.sheet s.frame l }

abbrev pub patched_reply : Logger → EditStep → StepReply
patched_reply s (single e) = to_single (patched_machine.reply s e)
patched_reply s (list l) = to_list (edit_list_reply s.sheet s.frame l)

abbrev pub patched_steps : Machine Logger EditStep StepReply
patched_steps = record { next = patched_next; reply = patched_reply }

-- a machine for single edits, given steps: a list "counts as its entries up to there, with the refused one, or as none at 22"
module _ {S : Type 0} (m : Machine S Edit Box) where
  abbrev pub counted : S → List ℕ → Run S Box
  counted s l = cond (is_filled l) (run_until_refused m s (edits_of l)) (record { state = s; replies = [] })

  abbrev pub singly_next : S → EditStep → S
  singly_next s (single e) = m.next s e
  singly_next s (list l) = (counted s l).state

  -- "except at 22, its reply is compared with the one so formed from the .. replies to them"; at 22 it is 22 with zeros
  abbrev pub singly_reply : S → EditStep → StepReply
  singly_reply s (single e) = to_single (m.reply s e)
  singly_reply s (list l) = to_list (cond (is_filled l) (batch_of (counted s l).replies) (batch 22 0 zeros))

  abbrev pub singly_steps : Machine S EditStep StepReply
  singly_steps = record { next = singly_next; reply = singly_reply }

-- ---- the runs

-- how a run ends: its sheet, its frame, the drawing's code, and the reply to each step
pub record Outcome (Reply : Type 0) : Type 0 where
  pub sheet : List ℕ
  pub frame : List ℕ
  pub drawn : ℕ
  pub replies : List Reply

module _ {Input Reply : Type 0} where
  -- "The patched run draws, then makes a list of the three edits"
  unfoldable pub patched_run : Machine Logger Input Reply → List ℕ → List ℕ → List Input → Outcome Reply
  patched_run m b frame is =
      let r = run m (record { sheet = b; frame = draw_frame b frame }) is in
      record { sheet = r.state.sheet; frame = r.state.frame; drawn = draw_code b frame; replies = r.replies }

  -- "The fresh run makes that list on the sheet alone and draws at the end"
  unfoldable pub fresh_run : Machine (List ℕ) Input Reply → List ℕ → List ℕ → List Input → Outcome Reply
  fresh_run m b frame is =
      let r = run m b is in
      record { sheet = r.state; frame = draw_frame r.state frame; drawn = draw_code r.state frame; replies = r.replies }

  -- "at first the accepted sheet's"; "Its page is the fresh drawing of its bytes"
  unfoldable pub plain_run : Machine (List ℕ) Input Reply → List ℕ → List Input → Outcome Reply
  plain_run m b is =
      let r = run m b is in
      record { sheet = r.state; frame = page r.state; drawn = 0; replies = r.replies }
