-- Every position and box that a call replies is docs/SHEET.md's in signed numbers, for all inputs: a refused call replies zeros, and a good one has an
-- accepted sheet, whose positions and boxes are exact. Assumes nothing.
use Prim.Native.Nat.{ℕ, zero, suc}
use mathlib.Core.Path.{◌≡◌, refl, ap}
use mathlib.Core.List.{List}
use lib.Dec.{ltb, eqb}
use lib.ListN.{length}
use borrow.Author.Tests.{ltb-true}
use Rattle.geometry.specs.declared.Point.{Point}
use Rattle.geometry.specs.declared.Rectangle.{Rectangle}
use Rattle.text.specs.Signed.{SignedPoint, signed_point, SignedRectangle, signed_rectangle}
use Rattle.sheet.specs.Fields.{item_count}
use Rattle.sheet.specs.Check.{check}
use Rattle.sheet.specs.Edits.{Edit}
use Rattle.characters.proofs.Refusals.{need_zero, or_else_zero}
use Rattle.drawing.specs.Drawing.{pixel_count}
use Rattle.drawing.proofs.Exact.{Bytes, SheetExact, sheet_exact}
use Rattle.drawing.proofs.EditedExact.{EditBytes, edit_exact}
use Rattle.calls.specs.Calls.{is_there, fits, position_reply, drawn_reply, box_reply, item_code, bounding_box_reply, draw_item_code, draw_item_reply, whitespace_code, whitespace_reply, edit_code, edit_reply, on_sheet_code, on_sheet_reply}
use Rattle.station.specs.SignedReplies
use Rattle.station.specs.SignedReplies.{position_of, drawn_of, box_of}

-- ---- a reply, if a code of 0 makes its numbers exact

position_exact : (code : ℕ) (p : Point) (s : SignedPoint) → (code ≡ 0 → signed_point p ≡ s) → position_reply code p ≡ position_of code s
unfolding position_reply
position_exact zero p s e = ap (position_of 0) (e refl)
position_exact (suc code) p s e = refl

drawn_exact : (code : ℕ) (p : Point) (s : SignedPoint) (n : ℕ) → (code ≡ 0 → signed_point p ≡ s) → drawn_reply code p n ≡ drawn_of code s n
unfolding drawn_reply
drawn_exact zero p s n e = ap (λ q. drawn_of 0 q n) (e refl)
drawn_exact (suc code) p s n e = refl

box_exact : (code : ℕ) (a : Rectangle) (s : SignedRectangle) → (code ≡ 0 → signed_rectangle a ≡ s) → box_reply code a ≡ box_of code s
unfolding box_reply
box_exact zero a s e = ap (box_of 0) (e refl)
box_exact (suc code) a s e = refl

-- ---- the theorem

pub record RepliesExact (b : List ℕ) : Type 0 where
  pub draw_item : (frame : List ℕ) (n : ℕ) → draw_item_reply b frame n ≡ SignedReplies.draw_item_reply b frame n
  pub whitespace : (frame : List ℕ) (n width : ℕ) → whitespace_reply b frame n width ≡ SignedReplies.whitespace_reply b frame n width
  pub bounding_box_lem : (n : ℕ) → bounding_box_reply b n ≡ SignedReplies.bounding_box_reply b n
  pub edit : (frame : List ℕ) (e : Edit) → EditBytes e → edit_reply b frame e ≡ SignedReplies.edit_reply b frame e
  pub on_sheet : (e : Edit) → EditBytes e → on_sheet_reply b e ≡ SignedReplies.on_sheet_reply b e

module _ (b : List ℕ) (bytes : Bytes b) where
  -- after the check and 12
  listed-exact : (n rest : ℕ) → check b ≡ 0 → is_there n (item_count b) rest ≡ 0 → SheetExact b n
  listed-exact n rest c z = sheet_exact b bytes c n (ltb-true n (item_count b) (need_zero (ltb n (item_count b)) 11 rest z).0)

  -- after 11
  framed : (frame : List ℕ) (rest : ℕ) → fits b frame rest ≡ 0 → rest ≡ 0
  framed frame rest z = (need_zero (eqb (length frame) (pixel_count b)) 10 rest z).1

  pub replies_exact : RepliesExact b
  unfolding draw_item_reply draw_item_code whitespace_reply whitespace_code bounding_box_reply item_code edit_reply edit_code on_sheet_reply on_sheet_code
  replies_exact = record {
    draw_item = λ frame n. drawn_exact (draw_item_code b frame n) _ _ _ (λ z. let c = or_else_zero (check b) _ z in (listed-exact n 0 c.0 (framed frame _ c.1)).text.next);
    whitespace = λ frame n width. position_exact (whitespace_code b frame n width) _ _ (λ z. let c = or_else_zero (check b) _ z in (listed-exact n _ c.0 (framed frame _ c.1)).whitespace-next width);
    bounding_box_lem = λ n. box_exact (item_code b n) _ _ (λ z. let c = or_else_zero (check b) _ z in (listed-exact n 0 c.0 c.1).text.bounding_box_lem);
    edit = λ frame e s. box_exact (edit_code b frame e) _ _ (λ z. let c = or_else_zero (check b) _ z in (edit_exact b e bytes s c.0 (framed frame _ c.1)).rectangle);
    on_sheet = λ e s. box_exact (on_sheet_code b e) _ _ (λ z. let c = or_else_zero (check b) _ z in (edit_exact b e bytes s c.0 c.1).rectangle);
  }
