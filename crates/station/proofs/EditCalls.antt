-- The calls that edit: what a code of 0 gives to what they call, and what is left. Assumes nothing.
use Prim.Native.Nat.{ℕ}
use mathlib.Core.Path.{◌≡◌, refl, sym, ap, ◌∙◌}
use mathlib.Core.List.{List, []}
use lib.ListN.{length}
use Rattle.std.specs.Prelude.{Result, Ok, Err}
use Rattle.std.specs.Result.{IsErrAnd, IfOk}
use Rattle.refusals.specs.declared.Refusal.{Refusal}
use Rattle.refusals.specs.Numbers.{number}
use Rattle.refusals.proofs.Numbers.{not_zero}
use Rattle.geometry.specs.declared.Rectangle.{Rectangle}
use Rattle.geometry.specs.Canvas.{Canvas}
use Rattle.sheet.specs.Accepted.{Accepted}
use Rattle.sheet.specs.Check.{check}
use Rattle.sheet.specs.Edits.{Edit, new_text, item_number, refusal, edited}
use Rattle.sheet.proofs.Acceptance.{accepted}
use Rattle.characters.proofs.Refusals.{or_else_zero, or_else_refused}
use Rattle.drawing.specs.Drawing.{repainted}
use Rattle.drawing.specs.Frames.{target_of}
use Rattle.changes.specs.Change.{Change, change_of, Checked, area_of, outcome, sheet_after}
use Rattle.calls.specs.declared.Box.{Box}
use Rattle.calls.specs.declared.Batch.{Batch}
use Rattle.calls.specs.Calls.{box_reply, draw_code, edit_code, edit_reply, edit_sheet, edit_frame, singly, zeros, batch, batch_of, edit_list_code, edit_list_reply, on_sheet_code, on_sheet_reply, on_sheet_sheet}
use Rattle.calls.specs.Replies.{CornerFits, reply_of}
use Rattle.calls.proofs.Refusals.{draw_code_is, draw_framed, edit_code_is, edit_list_code_is, on_sheet_code_is}
use Rattle.batch.specs.declared.Made.{Made}
use Rattle.batch.specs.Made.{made_batch}
use Rattle.batch.proofs.Steps.{edit_sheet_lem, edit_frame_lem, edit_reply_lem, near_corner, damage_near, outcome_code, frame_kept, stored_accepted, stored_canvas, frame_made}
use Rattle.station.proofs.Calls.{kept, done, box_refused}

-- ---- an edit's outcome

-- the reply of a refusal that is handed on
handed_on : (r : Result Rectangle Refusal) (d : Refusal) → IsErrAnd r (λ x. x ≡ d) → reply_of r ≡ reply_of (Err d)
handed_on (Ok a) d h = absurd h
handed_on (Err x) d h = ap (λ (y : Refusal). reply_of (Err y)) h

module _ (b : List ℕ) (e : Edit) where
  -- the number of the refusal that it came to
  told : (d : Refusal) → change_of (Err d) ≡ outcome b e → number d ≡ refusal b e
  told d eo = outcome_code b [] e _ eo

  module _ (a : Rectangle) (eo : change_of (Ok a) ≡ outcome b e) where
    allowed : 0 ≡ refusal b e
    allowed = outcome_code b [] e _ eo

    replied : (r : Box) → r ≡ box_reply 0 a → r ≡ box_reply (refusal b e) (area_of b e)
    unfolding outcome
    replied r q = rw (← allowed) (q ∙ ap (box_reply 0) (ap (λ (o : Change). o.area) eo ∙ rw (← allowed)))

    corner : Accepted b → CornerFits a
    unfolding outcome
    corner g = near_corner a (damage_near b (edited b e) (item_number e) a g (ap (λ (o : Change). o.area) eo ∙ rw (← allowed)))

-- ---- an edit with a frame

module _ (b frame : List ℕ) (e : Edit) where
  -- refused before the edit is asked
  module _ (d : Refusal) (q : number d ≡ draw_code b frame) where
    code-refused : number d ≡ edit_code b frame e
    code-refused = rw (edit_code_is b frame e) (or_else_refused (draw_code b frame) (refusal b e) d q)

    pub edit_refused : (r : Result Rectangle Refusal) → IsErrAnd r (λ x. x ≡ d) → reply_of r ≡ edit_reply b frame e
    unfolding edit_reply
    edit_refused r h = handed_on r d h ∙ box_refused d (edit_code b frame e) code-refused _ _ refl

    pub edit_sheet_kept : b ≡ edit_sheet b frame e
    unfolding edit_sheet
    edit_sheet_kept = kept d _ code-refused _ b

    pub edit_frame_kept : frame ≡ edit_frame b frame e
    unfolding edit_frame
    edit_frame_kept = kept d _ code-refused _ frame

  module _ (z : 0 ≡ draw_code b frame) where
    pub checked_zero : Checked b frame
    checked_zero = record { accepted = (or_else_zero _ _ (sym (draw_code_is b frame) ∙ sym z)).0; sized = (draw_framed b frame z).sized }

    pub edit_sheet_left : (s : List ℕ) → s ≡ sheet_after b e → s ≡ edit_sheet b frame e
    edit_sheet_left s p = p ∙ sym (edit_sheet_lem b frame e checked_zero)

    -- by the edit itself
    module _ (d : Refusal) (eo : change_of (Err d) ≡ outcome b e) where
      pub edit_told : (r : Result Rectangle Refusal) → IsErrAnd r (λ x. x ≡ d) → reply_of r ≡ edit_reply b frame e
      edit_told r h = handed_on r d h ∙ box_refused d (refusal b e) (told b e d eo) _ (area_of b e) refl ∙ sym (edit_reply_lem b frame e checked_zero)

      pub edit_frame_told : frame ≡ edit_frame b frame e
      edit_frame_told = frame_kept b frame e _ eo (not_zero d) ∙ sym (edit_frame_lem b frame e checked_zero)

    -- made
    module _ (a : Rectangle) (eo : change_of (Ok a) ≡ outcome b e) where
      pub edit_corner : CornerFits a
      edit_corner = corner b e a eo (accepted b checked_zero.accepted)

      pub edit_replied : box_reply 0 a ≡ edit_reply b frame e
      edit_replied = replied b e a eo _ refl ∙ sym (edit_reply_lem b frame e checked_zero)

      module _ (s : List ℕ) (es : s ≡ sheet_after b e) where
        pub edit_accepted : Accepted s
        edit_accepted = stored_accepted b frame e _ eo checked_zero refl s es

        pub edit_canvas : Canvas (target_of s a) (length frame)
        edit_canvas = stored_canvas b frame e _ eo checked_zero refl s es

        pub edit_frame_left : (f : List ℕ) → f ≡ repainted s a frame → f ≡ edit_frame b frame e
        edit_frame_left f p = frame_made b frame e _ eo checked_zero refl s es f p ∙ sym (edit_frame_lem b frame e checked_zero)

-- ---- an edit on the sheet alone

module _ (b : List ℕ) (e : Edit) where
  module _ (d : Refusal) (q : number d ≡ check b) where
    on-sheet-refused : number d ≡ on_sheet_code b e
    on-sheet-refused = rw (on_sheet_code_is b e) (or_else_refused (check b) (refusal b e) d q)

    pub on_sheet_refused : (r : Result Rectangle Refusal) → IsErrAnd r (λ x. x ≡ d) → reply_of r ≡ on_sheet_reply b e
    unfolding on_sheet_reply
    on_sheet_refused r h = handed_on r d h ∙ box_refused d (on_sheet_code b e) on-sheet-refused _ _ refl

    pub on_sheet_kept : b ≡ on_sheet_sheet b e
    unfolding on_sheet_sheet
    on_sheet_kept = kept d _ on-sheet-refused _ b

  module _ (z : 0 ≡ check b) where
    pub on_sheet_accepted : Accepted b
    on_sheet_accepted = accepted b (sym z)

    code-is : on_sheet_code b e ≡ refusal b e
    code-is = on_sheet_code_is b e ∙ rw (← z)

    pub on_sheet_left : (s : List ℕ) → s ≡ sheet_after b e → s ≡ on_sheet_sheet b e
    unfolding on_sheet_sheet sheet_after
    on_sheet_left s p = p ∙ rw code-is

    pub on_sheet_replied : (r : Result Rectangle Refusal) → change_of r ≡ outcome b e → reply_of r ≡ on_sheet_reply b e
    unfolding on_sheet_reply
    on_sheet_replied (Ok a) eo = rw code-is (replied b e a eo _ refl)
    on_sheet_replied (Err d) eo = box_refused d (on_sheet_code b e) (told b e d eo ∙ sym code-is) _ _ refl

    pub on_sheet_corner : (r : Result Rectangle Refusal) → change_of r ≡ outcome b e → IfOk r CornerFits
    on_sheet_corner (Ok a) eo = corner b e a eo on_sheet_accepted
    on_sheet_corner (Err d) eo = tt

-- ---- a list of edits

module _ (b frame list : List ℕ) where
  pub list_refused : (d : Refusal) → number d ≡ edit_list_code b frame list → (r : Batch) → r ≡ batch (number d) 0 zeros → r ≡ edit_list_reply b frame list
  unfolding edit_list_reply
  list_refused d q r e = e ∙ ap (λ (k : ℕ). batch k 0 zeros) q ∙ kept d _ q _ _

  module _ (z : 0 ≡ edit_list_code b frame list) where
    pub list_checked : Checked b frame
    list_checked = checked_zero b frame (new_text 0 []) (sym (or_else_zero _ _ (sym (edit_list_code_is b frame list) ∙ sym z)).0)

    pub list_replied : (r : Batch) (m : Made) → r ≡ made_batch m → made_batch m ≡ batch_of (singly b frame list).replies → r ≡ edit_list_reply b frame list
    unfolding edit_list_reply
    list_replied r m e s = done _ z r _ _ (e ∙ s)
