-- The loop over a list of edits: what remains of the list, made from where the loop stands, gives what the whole list gives. Assumes nothing.
use Prim.Native.Nat.{ℕ, suc, ◌+◌, ◌-◌, ◌≤◌}
use native.Mathlib.Omega.{arith}
use mathlib.Core.Path.{◌≡◌, refl, sym, ap, ◌∙◌}
use native.Mathlib.Numerals.{add-one}
use mathlib.Core.Bool.{true, false}
use Rattle.std.specs.Prelude.{Ok, Err}
use Rattle.refusals.specs.declared.Refusal.{Refusal}
use Rattle.refusals.specs.Numbers.{number}
use Rattle.refusals.proofs.Numbers.{not_zero}
use mathlib.Core.List.{List, [], ◌∷◌}
use lib.ListN.{length}
use Rattle.geometry.specs.declared.Rectangle.{Rectangle}
use Rattle.geometry.specs.Rectangle.{rectangle, join}
use Rattle.geometry.specs.Layer.{origin}
use Rattle.text.specs.Signed.{SignedRectangle, signed_rectangle}
use Rattle.text.specs.Signed
use Rattle.text.proofs.Signed.{signed-join, signed-origin}
use Rattle.sheet.specs.Edits.{Edit, refusal}
use Rattle.entries.specs.Entries.{behind, edit_of, is_entry, edits_of}
use Rattle.entries.proofs.Walks.{behind_shorter, edits_behind, edits_stopped}
use Rattle.changes.specs.Change.{change_of, Checked, area_of, outcome, sheet_after, frame_after}
use Rattle.drawing.specs.Drawing.{repainted}
use Rattle.calls.specs.declared.Box.{Box}
use Rattle.calls.specs.declared.Batch.{Batch}
use Rattle.calls.specs.Machine.{Run, run_until_refused}
use Rattle.calls.proofs.Machines.{until_end, until_made, until_refused}
use Rattle.calls.specs.Calls.{box_area, edit_reply, Logger, patched_machine, singly, batch, zeros, batch_from, batch_of}
use Rattle.batch.specs.Made.{EndsNear}
use Rattle.batch.proofs.Steps.{edit_sheet_lem, edit_frame_lem, checked_after, reply_code, reply_area, join_near, change_near, outcome_code, area_is, frame_kept, frame_made}

-- ---- the calls made singly, one entry further

module _ (b frame l : List ℕ) (g : Checked b frame) (q : is_entry l ≡ true) where
  abbrev e : Edit
  e = edit_of l

  -- sheet and frame after its edit
  abbrev after : Logger
  after = record { sheet = sheet_after b e; frame = frame_after b frame e }

  same_after : patched_machine.next (record { sheet = b; frame = frame }) e ≡ after
  same_after = rw (edit_sheet_lem b frame e g, edit_frame_lem b frame e g)

  singly-refused : (n : ℕ) → refusal b e ≡ suc n → singly b frame l ≡ record { state = after; replies = edit_reply b frame e ∷ [] }
  singly-refused n z =
      ap (run_until_refused patched_machine (record { sheet = b; frame = frame })) (edits_behind l q)
      ∙ until_refused patched_machine _ e (edits_of (behind l)) n (reply_code b frame e g ∙ z)
      ∙ ap (λ (s : Logger). record { state = s; replies = edit_reply b frame e ∷ [] }) same_after

  singly-made : refusal b e ≡ 0
      → singly b frame l ≡ record { state = (singly (sheet_after b e) (frame_after b frame e) (behind l)).state; replies = edit_reply b frame e ∷ (singly (sheet_after b e) (frame_after b frame e) (behind l)).replies }
  singly-made z =
      ap (run_until_refused patched_machine (record { sheet = b; frame = frame })) (edits_behind l q)
      ∙ until_made patched_machine _ e (edits_of (behind l)) (reply_code b frame e g ∙ z)
      ∙ ap (λ (s : Logger). record { state = (run_until_refused patched_machine s (edits_of (behind l))).state; replies = edit_reply b frame e ∷ (run_until_refused patched_machine s (edits_of (behind l))).replies }) same_after

-- ---- replies, one further

module _ (made : ℕ) (a : SignedRectangle) (r : Box) (rs : List Box) where
  pub batch_made : r.code ≡ 0 → batch_from made a (r ∷ rs) ≡ batch_from (suc made) (Signed.join a (box_area r)) rs
  unfolding batch_from
  batch_made z = rw z

  pub batch_refused : (n : ℕ) → r.code ≡ suc n → batch_from made a (r ∷ rs) ≡ batch (suc n) made a
  unfolding batch_from
  batch_refused n z = rw z

-- ---- the start, and the end

corner : signed_rectangle (rectangle origin origin 0 0) ≡ zeros
corner = rw (signed-origin 0)

pub start_near : (a : Rectangle) → a ≡ rectangle origin origin 0 0 → EndsNear a
start_near a e = rw e (omega arith)

pub start-batch : (a : Rectangle) (rs : List Box) → a ≡ rectangle origin origin 0 0 → batch_from 0 (signed_rectangle a) rs ≡ batch_of rs
start-batch a rs e = ap (λ (z : SignedRectangle). batch_from 0 z rs) (ap signed_rectangle e ∙ corner)

-- what is left of a list where no entry stands
module _ (b frame l : List ℕ) (n : false ≡ is_entry l) where
  no_more : singly b frame l ≡ record { state = record { sheet = b; frame = frame }; replies = [] }
  no_more = ap (run_until_refused patched_machine (record { sheet = b; frame = frame })) (edits_stopped l n) ∙ until_end patched_machine _

  pub end_batch : (made : ℕ) (a : SignedRectangle) (whole : Batch) → batch_from made a (singly b frame l).replies ≡ whole → batch 0 made a ≡ whole
  unfolding batch_from
  end_batch made a whole q = ap (λ (r : Run Logger Box). batch_from made a r.replies) (sym no_more) ∙ q

  module _ (whole : Logger) (q : (singly b frame l).state ≡ whole) where
    same_end : record { sheet = b; frame = frame } ≡ whole
    same_end = ap (λ (r : Run Logger Box). r.state) (sym no_more) ∙ q

    pub end_sheet : b ≡ whole.sheet
    end_sheet = ap (λ (s : Logger). s.sheet) same_end

    pub end_frame : frame ≡ whole.frame
    end_frame = ap (λ (s : Logger). s.frame) same_end

-- ---- one entry of a list, whose edit is e

module _ (b frame l : List ℕ) (g : Checked b frame) (t : true ≡ is_entry l) (e : Edit) (same : e ≡ edit_of l) where
  here : is_entry l ≡ true
  here = sym t

  -- it is refused
  module _ (d : Refusal) (eo : change_of (Err d) ≡ outcome b e) where
    refused : refusal b (edit_of l) ≡ suc (number d - 1)
    refused =
        let p : number d ≡ suc (number d - 1) = omega (arith, not_zero d) in
        sym (outcome_code b frame (edit_of l) _ (eo ∙ ap (outcome b) same)) ∙ p

    stopped : singly b frame l ≡ record { state = record { sheet = sheet_after b (edit_of l); frame = frame_after b frame (edit_of l) }; replies = edit_reply b frame (edit_of l) ∷ [] }
    stopped = singly-refused b frame l g here (number d - 1) refused

    pub stopped_batch : (made : ℕ) (a : SignedRectangle) (whole : Batch) → batch_from made a (singly b frame l).replies ≡ whole → batch (number d) made a ≡ whole
    stopped_batch made a whole q =
        let p : number d ≡ suc (number d - 1) = omega (arith, not_zero d) in
        ap (λ (n : ℕ). batch n made a) p
        ∙ sym (batch_refused made a (edit_reply b frame (edit_of l)) [] (number d - 1) (reply_code b frame (edit_of l) g ∙ refused))
        ∙ ap (λ (r : Run Logger Box). batch_from made a r.replies) (sym stopped) ∙ q

    module _ (whole : Logger) (q : (singly b frame l).state ≡ whole) where
      pub stopped_sheet : (s : List ℕ) → s ≡ sheet_after b e → s ≡ whole.sheet
      stopped_sheet s es = es ∙ ap (sheet_after b) same ∙ ap (λ (r : Run Logger Box). r.state.sheet) (sym stopped) ∙ ap (λ (x : Logger). x.sheet) q

      pub stopped_frame : frame ≡ whole.frame
      stopped_frame =
          frame_kept b frame (edit_of l) _ (eo ∙ ap (outcome b) same) (not_zero d)
          ∙ ap (λ (r : Run Logger Box). r.state.frame) (sym stopped) ∙ ap (λ (x : Logger). x.frame) q

  -- it is made
  module _ (a : Rectangle) (eo : change_of (Ok a) ≡ outcome b e) where
    allowed : refusal b (edit_of l) ≡ 0
    allowed = sym (outcome_code b frame (edit_of l) _ (eo ∙ ap (outcome b) same))

    made_area : a ≡ area_of b (edit_of l)
    made_area = area_is b frame (edit_of l) _ (eo ∙ ap (outcome b) same) g refl

    pub area_near : EndsNear a
    area_near = change_near b frame e _ eo g

    pub joined_near : (m j : Rectangle) → j ≡ join m a → EndsNear m → EndsNear j
    joined_near m j ej f = rw ej (join_near m a f area_near)

    module _ (s f r : List ℕ) (es : s ≡ sheet_after b e) (ef : f ≡ repainted s a frame) (er : r ≡ behind l) where
      frame-is : f ≡ frame_after b frame (edit_of l)
      frame-is = frame_made b frame (edit_of l) _ (eo ∙ ap (outcome b) same) g refl s (es ∙ ap (sheet_after b) same) f ef

      pub checked_next : Checked s f
      checked_next = rw (es ∙ ap (sheet_after b) same, frame-is) (checked_after b frame (edit_of l) g)

      next_here : singly (sheet_after b (edit_of l)) (frame_after b frame (edit_of l)) (behind l) ≡ singly s f r
      next_here = rw (es ∙ ap (sheet_after b) same, frame-is, er)

      further : singly b frame l ≡ record { state = (singly s f r).state; replies = edit_reply b frame (edit_of l) ∷ (singly s f r).replies }
      further = singly-made b frame l g here allowed ∙ ap (λ (r : Run Logger Box). record { state = r.state; replies = edit_reply b frame (edit_of l) ∷ r.replies }) next_here

      pub state_next : (whole : Logger) → (singly b frame l).state ≡ whole → (singly s f r).state ≡ whole
      state_next whole q = ap (λ (r : Run Logger Box). r.state) (sym further) ∙ q

      pub batch-next : (made : ℕ) (m j : Rectangle) (whole : Batch) → j ≡ join m a → batch_from made (signed_rectangle m) (singly b frame l).replies ≡ whole
          → batch_from (made + 1) (signed_rectangle j) (singly s f r).replies ≡ whole
      batch-next made m j whole ej q =
          let rest = (singly s f r).replies in
          let area : signed_rectangle j ≡ Signed.join (signed_rectangle m) (box_area (edit_reply b frame (edit_of l)))
          = ap signed_rectangle (ej ∙ ap (join m) made_area) ∙ sym (signed-join m (area_of b (edit_of l))) ∙ ap (Signed.join (signed_rectangle m)) (sym (reply_area b frame (edit_of l) g allowed)) in
          ap (λ (k : ℕ). batch_from k (signed_rectangle j) rest) (add-one made) ∙ ap (λ (z : SignedRectangle). batch_from (suc made) z rest) area
          ∙ sym (batch_made made (signed_rectangle m) (edit_reply b frame (edit_of l)) rest (reply_code b frame (edit_of l) g ∙ allowed))
          ∙ ap (λ (r : Run Logger Box). batch_from made (signed_rectangle m) r.replies) (sym further) ∙ q

-- ---- where the loop stands: on a sheet and a frame, with what is left of the list, the number made and their rectangle

pub record Stands (b₀ frame₀ list b frame l : List ℕ) (made : ℕ) (m : Rectangle) : Type 0 where
  pub checked : Checked b frame
  pub counted : made + length l ≤ length list
  pub near : EndsNear m
  pub batch-as : batch_from made (signed_rectangle m) (singly b frame l).replies ≡ batch_of (singly b₀ frame₀ list).replies
  pub state-as : (singly b frame l).state ≡ (singly b₀ frame₀ list).state

-- at an entry, whose edit is made
pub stands_next : (b₀ frame₀ list b frame l : List ℕ) (made : ℕ) (m : Rectangle) → Stands b₀ frame₀ list b frame l made m
    → (e : Edit) (a : Rectangle) → change_of (Ok a) ≡ outcome b e → (s f r : List ℕ) (j : Rectangle) → s ≡ sheet_after b e → f ≡ repainted s a frame → j ≡ join m a
    → e ≡ edit_of l → true ≡ is_entry l → r ≡ behind l → Stands b₀ frame₀ list s f r (made + 1) j
stands_next b₀ frame₀ list b frame l made m i e a eo s f r j es ef ej same t er =
    let h = behind_shorter l r t er in
    record {
      checked = checked_next b frame l i.checked t e same a eo s f r es ef er;
      counted = omega (arith, i.counted);
      near = joined_near b frame l i.checked t e same a eo m j ej i.near;
      batch-as = batch-next b frame l i.checked t e same a eo s f r es ef er made m j _ ej i.batch-as;
      state-as = state_next b frame l i.checked t e same a eo s f r es ef er _ i.state-as;
    }
