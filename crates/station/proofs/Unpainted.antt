-- An accepted edit of an item that paints nothing, before and after, replies zeros and touches no pixel. Assumes nothing.
use Prim.Native.Nat.{ℕ}
use native.Mathlib.Omega.{arith}
use mathlib.Core.Path.{◌≡◌, ◌∙◌}
use mathlib.Core.Bool.{false}
use mathlib.Core.List.{List}
use lib.IntN.{pos}
use lib.Seq.{ext_get_or}
use Rattle.geometry.specs.Rectangle.{rectangle, covers}
use Rattle.geometry.specs.Layer.{origin}
use Rattle.geometry.proofs.Rectangles.{out_covers}
use Rattle.line.specs.Ink.{NoRow}
use Rattle.text.proofs.Signed.{signed-origin}
use Rattle.sheet.specs.Edits.{Edit, item_number, edited}
use Rattle.records.specs.Records.{item, item_font}
use Rattle.drawing.specs.Drawing.{column_of, row_of}
use Rattle.drawing.proofs.DamageHolds.{damage_none}
use Rattle.calls.specs.declared.Box.{Box}
use Rattle.calls.specs.Calls.{box_reply, edit_damage, edit_code, edit_reply, edit_frame}
use Rattle.station.proofs.Demand3.{OneEdit, one_edit}

-- no row of item n counts
abbrev pub Unpainted : List ℕ → ℕ → Type 0
Unpainted b n = NoRow (item_font b n).mono (item b n).character_style

abbrev pub zeros : Box
zeros = record { code = 0; left = pos 0; top = pos 0; width = 0; height = 0 }

pub unpainted_edit : (b frame : List ℕ) (e : Edit) → edit_code b frame e ≡ 0 → Unpainted b (item_number e) → Unpainted (edited b e) (item_number e)
    → (edit_reply b frame e ≡ zeros) × (edit_frame b frame e ≡ frame)
unfolding box_reply
unpainted_edit b frame e z before after =
    (one.replied ∙ rw (none, signed-origin 0), ext_get_or 0 (edit_frame b frame e) frame one.same_size (λ k l. one.outside k (rw one.same_size at l) (outside k)))
  where
    one : OneEdit b frame e
    one = one_edit b frame e z

    none : edit_damage b e ≡ rectangle origin origin 0 0
    none = damage_none b (edited b e) (item_number e) before after

    outside : (k : ℕ) → covers (edit_damage b e) (column_of b k) (row_of b k) ≡ false
    outside k = rw none (out_covers (rectangle origin origin 0 0) (column_of b k) (row_of b k) (λ i. omega arith))
