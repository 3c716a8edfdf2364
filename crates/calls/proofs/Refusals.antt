-- The codes of the calls: each is the first refusal of two, and what a code of 0 tells. Assumes nothing.
use Prim.Native.Nat.{ℕ, zero, suc, ◌≤◌, ◌<◌}
use mathlib.Core.Path.{◌≡◌, refl, sym, ap, ◌∙◌}
use mathlib.Core.Bool.{Bool, true, false}
use mathlib.Core.List.{List, ◌++◌}
use lib.Dec.{ltb, leb, eqb}
use lib.ListN.{length}
use borrow.Author.Tests.{le-leb, lt-leb, eqb-true}
use Rattle.std.specs.Prelude.{Result}
use Rattle.std.specs.Result.{IsErrAnd}
use Rattle.refusals.specs.declared.Refusal.{Refusal}
use Rattle.refusals.specs.Numbers.{number, refusal_of}
use Rattle.characters.specs.Refusal.{need, or_else}
use Rattle.sheet.specs.Fields.{frame_width, frame_height, item_count}
use Rattle.sheet.specs.Check.{check}
use Rattle.sheet.specs.Edits.{Edit, refusal}
use Rattle.entries.specs.Entries.{is_filled}
use Rattle.characters.proofs.Refusals.{need_zero, or_else_zero, or_else_handed_on, or_else_passed, need_failed, need_passed}
use Rattle.sheet.proofs.Acceptance.{accepted}
use Rattle.drawing.specs.Drawing.{pixel_count}
use Rattle.drawing.specs.Frames.{Framed}
use Rattle.page.specs.Page.{page_header}
use Rattle.calls.specs.Calls.{netpbm, is_there, fits, draw_code, draw_item_code, edit_code, edit_list_code, on_sheet_code, page_code}

-- ---- each code is the first refusal of two

pub on_sheet_code_is : (b : List ℕ) (e : Edit) → on_sheet_code b e ≡ or_else (check b) (refusal b e)
unfolding on_sheet_code
on_sheet_code_is b e = refl

pub draw_code_is : (b frame : List ℕ) → draw_code b frame ≡ or_else (check b) (fits b frame 0)
unfolding draw_code
draw_code_is b frame = refl

-- a test between two refusals goes with the first
need-between : (n : ℕ) (t : Bool) (m rest : ℕ) → or_else n (need t (suc m) rest) ≡ or_else (or_else n (need t (suc m) 0)) rest
need-between zero true m rest = refl
need-between zero false m rest = refl
need-between (suc n) t m rest = refl

module _ (b frame : List ℕ) where
  pub after_frame : (rest : ℕ) → or_else (check b) (fits b frame rest) ≡ or_else (draw_code b frame) rest
  unfolding draw_code
  after_frame rest = need-between (check b) (eqb (length frame) (pixel_count b)) 10 rest

  pub draw_item_code_is : (n : ℕ) → draw_item_code b frame n ≡ or_else (draw_code b frame) (is_there n (item_count b) 0)
  unfolding draw_item_code
  draw_item_code_is n = after_frame (is_there n (item_count b) 0)

  pub after_item : (rest n : ℕ) → or_else (check b) (fits b frame (is_there n (item_count b) rest)) ≡ or_else (draw_item_code b frame n) rest
  after_item rest n =
      let there = ltb n (item_count b) in
      after_frame (need there 12 rest) ∙ need-between (draw_code b frame) there 11 rest ∙ ap (λ (m : ℕ). or_else m rest) (sym (draw_item_code_is n))

  pub edit_code_is : (e : Edit) → edit_code b frame e ≡ or_else (draw_code b frame) (refusal b e)
  unfolding edit_code
  edit_code_is e = after_frame (refusal b e)

  pub edit_list_code_is : (list : List ℕ) → edit_list_code b frame list ≡ or_else (draw_code b frame) (need (is_filled list) 22 0)
  unfolding edit_list_code
  edit_list_code_is list = after_frame (need (is_filled list) 22 0)

  pub page_code_is : (output : List ℕ) → page_code b frame output ≡ or_else (draw_code b frame) (need (leb (length (netpbm b frame)) (length output)) 17 0)
  unfolding page_code
  page_code_is output = after_frame (need (leb (length (netpbm b frame)) (length output)) 17 0)

-- ---- ways out: the tests before have refused, or passed

module _ (b frame : List ℕ) (rest : ℕ) where
  pub framed_handed_on : {A : Type 0} (r : Result A Refusal) (d : Refusal) → IsErrAnd r (λ e. e ≡ d) → number d ≡ draw_code b frame → refusal_of r ≡ or_else (check b) (fits b frame rest)
  framed_handed_on r d h e = or_else_handed_on (draw_code b frame) rest r d h e ∙ sym (after_frame b frame rest)

  pub framed_passed : (m : ℕ) → 0 ≡ draw_code b frame → m ≡ rest → m ≡ or_else (check b) (fits b frame rest)
  framed_passed m z e = or_else_passed (draw_code b frame) rest m z e ∙ sym (after_frame b frame rest)

  pub listed_handed_on : {A : Type 0} (n : ℕ) (r : Result A Refusal) (d : Refusal) → IsErrAnd r (λ e. e ≡ d) → number d ≡ draw_item_code b frame n → refusal_of r ≡ or_else (check b) (fits b frame (is_there n (item_count b) rest))
  listed_handed_on n r d h e = or_else_handed_on (draw_item_code b frame n) rest r d h e ∙ sym (after_item b frame rest n)

  pub listed_passed : (n m : ℕ) → 0 ≡ draw_item_code b frame n → m ≡ rest → m ≡ or_else (check b) (fits b frame (is_there n (item_count b) rest))
  listed_passed n m z e = or_else_passed (draw_item_code b frame n) rest m z e ∙ sym (after_item b frame rest n)

pub ruleset call_chain = (framed_passed, listed_passed, need_failed, need_passed)

-- ---- 17

module _ (b frame : List ℕ) (w h len : ℕ) (el : len ≡ length (page_header w h ++ frame)) (ew : w ≡ frame_width b) (eh : h ≡ frame_height b) where
  length-netpbm : len ≡ length (netpbm b frame)
  unfolding netpbm
  length-netpbm = el ∙ rw (ew, eh)

module _ (b frame output : List ℕ) (w h len : ℕ) (el : len ≡ length (page_header w h ++ frame)) (ew : w ≡ frame_width b) (eh : h ≡ frame_height b) where
  pub page_in : len ≤ length output → length (netpbm b frame) ≤ length output
  page_in k = rw (← length-netpbm b frame w h len el ew eh) k

  -- of the bytes that were checked
  module _ (c : List ℕ) (same : b ≡ c) (z : 0 ≡ draw_code c frame) where
    pub page_room : len ≤ length output → 0 ≡ page_code c frame output
    page_room k = rw (page_code_is c frame output, ← z, ← same, ← length-netpbm b frame w h len el ew eh, le-leb len (length output) k)

    pub page_short : length output < len → 17 ≡ page_code c frame output
    page_short k = rw (page_code_is c frame output, ← z, ← same, ← length-netpbm b frame w h len el ew eh, lt-leb len (length output) k)

-- ---- what a code of 0 tells

module _ (b frame : List ℕ) (z : 0 ≡ draw_code b frame) where
  pub draw_framed : Framed b frame
  draw_framed =
      let p = or_else_zero (check b) (fits b frame 0) (sym (draw_code_is b frame) ∙ sym z) in
      record { accepted = accepted b p.0; sized = eqb-true _ _ (need_zero (eqb (length frame) (pixel_count b)) 10 0 p.1).0 }
