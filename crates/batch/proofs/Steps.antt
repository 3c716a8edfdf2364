-- One edit with a frame, on a sheet that the check accepts and a frame of its size: its call is the edit itself. Assumes nothing.
use Prim.Native.Nat.{ℕ, zero, suc, ◌-◌}
use native.Mathlib.Omega.{arith}
use mathlib.Core.Path.{◌≡◌, refl, sym, ap, ◌∙◌}
use mathlib.Core.List.{List}
use lib.ListN.{length, replicate, length-replicate}
use borrow.Author.Tests.{eq-eqb}
use Rattle.geometry.specs.declared.Rectangle.{Rectangle}
use Rattle.geometry.specs.Rectangle.{rectangle, envelope, join}
use Rattle.geometry.specs.Layer.{origin}
use Rattle.geometry.specs.Canvas.{EndsFit, Canvas}
use Rattle.geometry.proofs.Rectangles.{join_cases}
use Rattle.geometry.proofs.Layers.{length-paint}
use Rattle.characters.specs.Refusal.{unless_refused}
use Rattle.text.specs.Signed.{signed_rectangle}
use Rattle.sheet.specs.Fields.{frame_width}
use Rattle.sheet.specs.Accepted.{Accepted}
use Rattle.sheet.specs.Edits.{Edit, item_number, refusal, edited}
use Rattle.sheet.proofs.Acceptance.{accepted}
use Rattle.sheet.proofs.Stays.{stays}
use Rattle.sheet.proofs.Unchanged.{same-frame_width, same-frame_height}
use Rattle.drawing.specs.Drawing.{pixel_count, damage, repainted}
use Rattle.drawing.specs.Frames.{target_of}
use Rattle.drawing.proofs.Repainting.{same-pixel_count}
use Rattle.drawing.proofs.Painting.{damage_canvas}
use Rattle.changes.specs.Change.{Change, Checked, area_of, outcome, sheet_after, frame_after}
use Rattle.calls.specs.Calls.{box_reply, box_area, edit_code, edit_reply, edit_sheet, edit_frame}
use Rattle.calls.specs.Replies.{CornerFits}
use Rattle.batch.specs.Made.{EndsNear}

positive : (n : ℕ) → (n ≡ 0 → ⊥) → n ≡ suc (n - 1)
positive n h = omega arith

-- ---- rectangles whose ends are near

module _ (a : Rectangle) (f : EndsNear a) where
  pub near_ends : EndsFit a
  near_ends = omega (arith, f)

  pub near_corner : CornerFits a
  near_corner = omega (arith, f)

pub join_near : (a b : Rectangle) → EndsNear a → EndsNear b → EndsNear (join a b)
unfolding envelope
join_near a b p q = join_cases EndsNear a b p q (omega arith)

pub damage_near : (b b' : List ℕ) (n : ℕ) (a : Rectangle) → Accepted b → a ≡ damage b b' n → EndsNear a
damage_near b b' n a g e =
    let c = damage_canvas b b' n (replicate (pixel_count b) 0) g (simp length-replicate) in
    rw e (record { right = omega (arith, c.right, c.width); foot = omega (arith, c.foot, c.height) })

pub checked_accepted : (b frame : List ℕ) → Checked b frame → Accepted b
checked_accepted b frame g = accepted b g.accepted

-- ---- an edit

module _ (b frame : List ℕ) (e : Edit) (g : Checked b frame) where
  pub edit_code_lem : edit_code b frame e ≡ refusal b e
  unfolding edit_code
  edit_code_lem = rw (g.accepted, eq-eqb (length frame) (pixel_count b) g.sized)

  pub edit_reply_lem : edit_reply b frame e ≡ box_reply (refusal b e) (area_of b e)
  unfolding edit_reply
  edit_reply_lem = rw edit_code_lem

  pub edit_sheet_lem : edit_sheet b frame e ≡ sheet_after b e
  unfolding edit_sheet sheet_after
  edit_sheet_lem = rw edit_code_lem

  pub edit_frame_lem : edit_frame b frame e ≡ frame_after b frame e
  unfolding edit_frame frame_after
  edit_frame_lem = rw edit_code_lem

  -- it leaves an accepted sheet, and a frame of its size
  pub checked_after : Checked (sheet_after b e) (frame_after b frame e)
  unfolding sheet_after frame_after repainted
  checked_after = go (refusal b e) refl
    where
      go : (n : ℕ) → refusal b e ≡ n → Checked (unless_refused n (edited b e) b) (unless_refused n (repainted (edited b e) (area_of b e) frame) frame)
      go zero a = record { accepted = stays b e g.accepted a; sized = length-paint (frame_width (edited b e)) _ frame ∙ g.sized ∙ sym (same-pixel_count b e (accepted b g.accepted) a) }
      go (suc n) a = g

  pub checked_call : Checked (edit_sheet b frame e) (edit_frame b frame e)
  checked_call = rw (edit_sheet_lem, edit_frame_lem) checked_after

  pub reply_code : (edit_reply b frame e).code ≡ refusal b e
  unfolding box_reply
  reply_code = rw edit_reply_lem

  -- the rectangle of one that is made
  pub reply_area : refusal b e ≡ 0 → box_area (edit_reply b frame e) ≡ signed_rectangle (area_of b e)
  unfolding box_reply
  reply_area z = rw (edit_reply_lem, z)

-- ---- the edit on the sheet, then the frame repainted

module _ (b frame : List ℕ) (e : Edit) (o : Change) (eo : o ≡ outcome b e) where
  pub outcome_code : o.code ≡ refusal b e
  unfolding outcome
  outcome_code = ap (λ (x : Change). x.code) eo

  -- refused: nothing is repainted
  pub frame_kept : (o.code ≡ 0 → ⊥) → frame ≡ frame_after b frame e
  unfolding frame_after
  frame_kept h = let p : refusal b e ≡ suc (o.code - 1) = sym outcome_code ∙ positive o.code h in rw p

  module _ (g : Checked b frame) where
    pub change_near : EndsNear o.area
    unfolding outcome
    change_near = rw eo (go (refusal b e))
      where
        go : (k : ℕ) → EndsNear (unless_refused k (area_of b e) (rectangle origin origin 0 0))
        go zero = damage_near b _ _ _ (accepted b g.accepted) refl
        go (suc k) = omega arith

    module _ (z : o.code ≡ 0) where
      allowed : refusal b e ≡ 0
      allowed = sym outcome_code ∙ z

      pub area_is : o.area ≡ area_of b e
      unfolding outcome
      area_is = ap (λ (x : Change). x.area) eo ∙ rw allowed

      module _ (s : List ℕ) (es : s ≡ sheet_after b e) where
        stored : s ≡ edited b e
        unfolding sheet_after
        stored = es ∙ rw allowed

        pub stored_accepted : Accepted s
        stored_accepted = rw stored (accepted (edited b e) (stays b e g.accepted allowed))

        pub stored_canvas : Canvas (target_of s o.area) (length frame)
        stored_canvas =
            let c = accepted b g.accepted in
            rw (stored, area_is, same-frame_width b e c allowed, same-frame_height b e c allowed) (damage_canvas b (edited b e) (item_number e) frame c g.sized)

        pub frame_made : (f : List ℕ) → f ≡ repainted s o.area frame → f ≡ frame_after b frame e
        unfolding frame_after
        frame_made f ef = rw allowed (ef ∙ rw (stored, area_is))
