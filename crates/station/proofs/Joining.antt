-- A line sent in two runs is the line sent at once, and so is whitespace in two widths, over the definitions that the contracts of the exported calls cite.
-- Assumes nothing.
use Prim.Native.Nat.{ℕ, ◌+◌, ◌≤◌, ◌<◌}
use native.Mathlib.Omega.{arith}
use mathlib.Core.Path.{◌≡◌, refl, sym, ap, ◌∙◌}
use mathlib.Core.Bool.{true}
use mathlib.Core.List.{List, ◌++◌}
use lib.ListN.{length, length-append}
use borrow.Author.Tests.{eq-eqb, le-leb, lt-ltb}
use Rattle.geometry.specs.declared.Point.{Point}
use Rattle.geometry.specs.Layer.{signed, Layer, paint}
use Rattle.geometry.proofs.Beside.{Joined, paint_joined}
use Rattle.geometry.proofs.Layers.{length-paint}
use Rattle.characters.specs.Utf8.{well_formed}
use Rattle.characters.proofs.Parts.{well_formed-append}
use Rattle.line.specs.Line.{Font}
use Rattle.line.proofs.Joining.{whitespace_joined}
use Rattle.text.specs.Text.{Text, layer, next, replaced}
use Rattle.text.proofs.Joining.{run_at, TextJoined, text_joined}
use Rattle.sheet.specs.Fields.{frame_width, item_count, item_at, slot_size}
use Rattle.sheet.specs.Check.{check}
use Rattle.sheet.specs.Edits.{Edit, new_text, new_place, in_range, text_refusal, place_refusal, refusal, edited}
use Rattle.sheet.proofs.Acceptance.{accepted}
use Rattle.sheet.proofs.Bytes.{same-le16_at}
use Rattle.sheet.proofs.Stays.{stays}
use Rattle.sheet.proofs.Unchanged.{same-frame_width, same-font_count, same-item_count, same_slot_fields}
use Rattle.records.specs.Records.{item, item_font}
use Rattle.records.proofs.EditedItem.{text_edited, place-edited}
use Rattle.records.proofs.Unchanged.{same-item_font}
use Rattle.edits.proofs.Signed.{biased-signed}
use Rattle.drawing.specs.Drawing.{item_layer, pixel_count, whitespace_layer, whitespace_next}
use Rattle.drawing.proofs.Repainting.{same-pixel_count}
use Rattle.calls.specs.declared.Drawn.{Drawn}
use Rattle.calls.specs.declared.Position.{Position}
use Rattle.calls.specs.Calls.{drawn_reply, position_reply, box_reply, draw_item_code, draw_item_reply, draw_item_frame, whitespace_code, whitespace_reply, whitespace_frame, on_sheet_code, on_sheet_reply, on_sheet_sheet}
use Rattle.station.proofs.Runs.{on_sheet_code_lem}
use Rattle.station.specs.Joining.{ItemOnFrame, TwoRuns, StringsJoined, TwoWidths, WidthsJoined, set_first, first_sheet, first_reply, first_frame, set_place, moved_sheet, set_second, second_reply, set_joined, joined_reply, first_width_reply, first_width_frame, set_width_place, second_width_reply, joined_width_reply}

-- ---- replies of good calls

abbrev drawn_at : Point → ℕ → Drawn
drawn_at p n = record { code = 0; x = signed p.x; y = signed p.y; replaced = n }

abbrev position_at : Point → Position
position_at p = record { code = 0; x = signed p.x; y = signed p.y }

-- ---- a sheet that edits of item n have made of b, in which the item is now t

record EditedTo (b : List ℕ) (n : ℕ) (t : Text) (b' : List ℕ) : Type 0 where
  accepted : check b' ≡ 0
  listed : n < item_count b'
  size : pixel_count b' ≡ pixel_count b
  width : frame_width b' ≡ frame_width b
  font : item_font b' n ≡ item_font b n
  slot : slot_size b' (item_at b' n) ≡ slot_size b (item_at b n)
  item-is : item b' n ≡ t

-- an edit of such a sheet, made on the sheet alone, in which the item becomes t
record Made (b : List ℕ) (n : ℕ) (t : Text) (b' : List ℕ) (e : Edit) : Type 0 where
  code : (on_sheet_reply b' e).code ≡ 0
  sheet : EditedTo b n t (on_sheet_sheet b' e)

module _ (b : List ℕ) (n : ℕ) (t : Text) (b' : List ℕ) (d : EditedTo b n t b') where
  made : (e : Edit) (t' : Text) → refusal b' e ≡ 0 → item (edited b' e) n ≡ t' → Made b n t' b' e
  unfolding on_sheet_reply box_reply on_sheet_sheet
  made e t' a q =
      let g = accepted b' d.accepted in
      let zero : on_sheet_code b' e ≡ 0 = on_sheet_code_lem b' e d.accepted ∙ a in
      record {
        code = zero;
        sheet = rw zero (record {
          accepted = stays b' e d.accepted a;
          listed = rw (same-item_count b' e g a) d.listed;
          size = same-pixel_count b' e g a ∙ d.size;
          width = same-frame_width b' e g a ∙ d.width;
          font = same-item_font b' e g a n d.listed ∙ d.font;
          slot = rw (same-font_count b' e g a) (same-le16_at b' (edited b' e) (item_at b' n + 8) (λ k p q. same_slot_fields b' e g a n d.listed k (omega arith) (omega arith))) ∙ d.slot;
          item-is = q;
        });
      }

  text-made : (u : List ℕ) → length u ≤ slot_size b (item_at b n) → well_formed u ≡ true → Made b n (run_at t u t.position) b' (new_text n u)
  unfolding text_refusal
  text-made u short well =
      let taken : refusal b' (new_text n u) ≡ 0 = rw (lt-ltb n (item_count b') d.listed, le-leb (length u) (slot_size b' (item_at b' n)) (omega (arith, d.slot)), well) in
      made (new_text n u) _ taken (text_edited b' n (accepted b' d.accepted) u taken ∙ rw d.item-is)

  -- a place that a reply gave
  place-made : (p : Point) → in_range (signed p.x) ≡ true → in_range (signed p.y) ≡ true → Made b n (run_at t t.text p) b' (new_place n (signed p.x) (signed p.y))
  unfolding place_refusal
  place-made p x_in y_in =
      let taken : refusal b' (new_place n (signed p.x) (signed p.y)) ≡ 0 = rw (lt-ltb n (item_count b') d.listed, x_in, y_in) in
      made (new_place n (signed p.x) (signed p.y)) _ taken
      (place-edited b' n (accepted b' d.accepted) (signed p.x) (signed p.y) taken ∙ rw (d.item-is, biased-signed p.x, biased-signed p.y))

  -- drawings of it
  module _ (frame : List ℕ) (sized : length frame ≡ pixel_count b) where
    draw-code : draw_item_code b' frame n ≡ 0
    unfolding draw_item_code
    draw-code = rw (d.accepted, eq-eqb (length frame) (pixel_count b') (sized ∙ sym d.size), lt-ltb n (item_count b') d.listed)

    draw-reply : draw_item_reply b' frame n ≡ drawn_at (next (item_font b n).mono t) (replaced (item_font b n) t)
    unfolding draw_item_reply drawn_reply
    draw-reply = rw (draw-code, d.font, d.item-is)

    draw-frame : draw_item_frame b' frame n ≡ paint (frame_width b) (layer (item_font b n) t) frame
    unfolding draw_item_frame item_layer
    draw-frame = rw (draw-code, d.width, d.font, d.item-is)

    module _ (v : ℕ) (narrow : v ≤ 65_535) where
      whitespace-code : whitespace_code b' frame n v ≡ 0
      unfolding whitespace_code
      whitespace-code = rw (d.accepted, eq-eqb (length frame) (pixel_count b') (sized ∙ sym d.size), lt-ltb n (item_count b') d.listed, le-leb v 65_535 narrow)

      whitespace-reply : whitespace_reply b' frame n v ≡ position_at (whitespace_next t v)
      unfolding whitespace_reply position_reply
      whitespace-reply = rw (whitespace-code, d.item-is)

      whitespace-frame : whitespace_frame b' frame n v ≡ paint (frame_width b) (whitespace_layer (item_font b n).mono t v) frame
      unfolding whitespace_frame
      whitespace-frame = rw (whitespace-code, d.width, d.font, d.item-is)

-- before any edit, and a frame with a layer painted on it
module _ (b frame : List ℕ) (n : ℕ) (h : ItemOnFrame b frame n) where
  start : EditedTo b n (item b n) b
  start = record { accepted = h.sheet_accepted; listed = h.item_there; size = refl; width = refl; font = refl; slot = refl; item-is = refl }

  painted-size : (f : Layer) (frame' : List ℕ) → frame' ≡ paint (frame_width b) f frame → length frame' ≡ pixel_count b
  painted-size f frame' e = ap length e ∙ length-paint (frame_width b) f frame ∙ h.frame_of_its_size

-- ---- the theorems

module _ (b frame : List ℕ) (n : ℕ) (t u : List ℕ) (h : TwoRuns b frame n t u) where
  abbrev font : Font
  font = item_font b n

  -- the two runs and the whole
  abbrev one : Text
  one = run_at (item b n) t (item b n).position

  abbrev behind : Point
  behind = next font.mono one

  abbrev two : Text
  two = run_at (item b n) u behind

  abbrev both : Text
  both = run_at (item b n) (t ++ u) (item b n).position

  sized : length frame ≡ pixel_count b
  sized = h.drawable.frame_of_its_size

  short : (length t ≤ slot_size b (item_at b n)) × (length u ≤ slot_size b (item_at b n))
  short = omega (arith, h.joined_fits_slot, length-append t u)

  first : Made b n one b (set_first b frame n t u)
  first = text-made b n _ b (start b frame n h.drawable) t short.0 h.first_well_formed

  first-reply : first_reply b frame n t u ≡ drawn_at behind (replaced font one)
  first-reply = draw-reply b n one _ first.sheet frame sized

  drawn_first : first_frame b frame n t u ≡ paint (frame_width b) (layer font one) frame
  drawn_first = draw-frame b n one _ first.sheet frame sized

  first-size : length (first_frame b frame n t u) ≡ pixel_count b
  first-size = painted-size b frame n h.drawable _ _ drawn_first

  moved : Made b n (run_at (item b n) t behind) (first_sheet b frame n t u) (set_place b frame n t u)
  moved = rw first-reply (place-made b n one _ first.sheet behind (rw first-reply at h.second_x_in_range) (rw first-reply at h.second_y_in_range))

  second : Made b n two (moved_sheet b frame n t u) (set_second b frame n t u)
  second = text-made b n _ _ moved.sheet u short.1 h.second_well_formed

  second-reply : second_reply b frame n t u ≡ drawn_at (next font.mono two) (replaced font two)
  second-reply = draw-reply b n two _ second.sheet _ first-size

  joined : Made b n both b (set_joined b frame n t u)
  joined = text-made b n _ b (start b frame n h.drawable) (t ++ u) h.joined_fits_slot (well_formed-append t u h.first_well_formed ∙ h.second_well_formed)

  joined-reply : joined_reply b frame n t u ≡ drawn_at (next font.mono both) (replaced font both)
  joined-reply = draw-reply b n both _ joined.sheet frame sized

  law : TextJoined font (item b n) t u
  law = text_joined font (item b n) t u h.spacing_zero h.aligned_left h.first_one_line h.second_one_line h.first_well_formed

  pub strings_joined : StringsJoined b frame n t u
  strings_joined = record {
    first_set = first.code;
    first_drawn = rw first-reply;
    place_set = moved.code;
    second_set = second.code;
    second_drawn = rw second-reply;
    joined_set = joined.code;
    joined_drawn = rw joined-reply;
    same_frame =
        draw-frame b n two _ second.sheet _ first-size ∙ ap (paint (frame_width b) (layer font two)) drawn_first
        ∙ paint_joined (frame_width b) _ _ _ frame law.layers ∙ sym (draw-frame b n both _ joined.sheet frame sized);
    same_x = rw (second-reply, joined-reply, law.position);
    same_y = rw (second-reply, joined-reply, law.position);
    replaced_adds_up = rw (second-reply, first-reply, joined-reply) (sym law.count);
  }

module _ (b frame : List ℕ) (n v w : ℕ) (h : TwoWidths b frame n v w) where
  -- whitespace of a width at the item, on the sheet as it was at first
  module _ (width : ℕ) (narrow : width ≤ 65_535) where
    width-reply : whitespace_reply b frame n width ≡ position_at (whitespace_next (item b n) width)
    width-reply = whitespace-reply b n _ b (start b frame n h.drawable) frame h.drawable.frame_of_its_size width narrow

    width-frame : whitespace_frame b frame n width ≡ paint (frame_width b) (whitespace_layer (item_font b n).mono (item b n) width) frame
    width-frame = whitespace-frame b n _ b (start b frame n h.drawable) frame h.drawable.frame_of_its_size width narrow

  narrow : (v ≤ 65_535) × (w ≤ 65_535)
  narrow = omega (arith, h.widths_add_up)

  first_width : first_width_reply b frame n v w ≡ position_at (whitespace_next (item b n) v)
  first_width = width-reply v narrow.0

  first-width-size : length (first_width_frame b frame n v w) ≡ pixel_count b
  first-width-size = painted-size b frame n h.drawable _ _ (width-frame v narrow.0)

  abbrev rest : Text
  rest = run_at (item b n) (item b n).text (whitespace_next (item b n) v)

  moved-width : Made b n rest b (set_width_place b frame n v w)
  moved-width = rw first_width
      (place-made b n _ b (start b frame n h.drawable) (whitespace_next (item b n) v) (rw first_width at h.second_x_in_range) (rw first_width at h.second_y_in_range))

  second-width : second_width_reply b frame n v w ≡ position_at (whitespace_next rest w)
  second-width = whitespace-reply b n rest _ moved-width.sheet _ first-width-size w narrow.1

  joined-width : joined_width_reply b frame n v w ≡ position_at (whitespace_next (item b n) (v + w))
  joined-width = width-reply (v + w) h.widths_add_up

  same_next : whitespace_next rest w ≡ whitespace_next (item b n) (v + w)
  unfolding whitespace_next
  same_next = ap along (omega arith)
    where
      along : ℕ → Point
      along x = record { x = x; y = (item b n).position.y }

  layers-joined : Joined (whitespace_layer (item_font b n).mono (item b n) (v + w)) (whitespace_layer (item_font b n).mono (item b n) v) (whitespace_layer (item_font b n).mono rest w)
  unfolding whitespace_layer whitespace_next
  layers-joined = whitespace_joined (item b n).character_style (item_font b n).mono v w (item b n).position.x _

  pub widths_joined : WidthsJoined b frame n v w
  widths_joined = record {
    first_drawn = rw first_width;
    place_set = moved-width.code;
    second_drawn = rw second-width;
    joined_drawn = rw joined-width;
    same_frame =
        whitespace-frame b n rest _ moved-width.sheet _ first-width-size w narrow.1 ∙ ap (paint (frame_width b) (whitespace_layer (item_font b n).mono rest w)) (width-frame v narrow.0)
        ∙ paint_joined (frame_width b) _ _ _ frame layers-joined ∙ sym (width-frame (v + w) h.widths_add_up);
    same_x = rw (second-width, joined-width, same_next);
    same_y = rw (second-width, joined-width, same_next);
  }
