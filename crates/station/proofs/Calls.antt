-- The outcome of each call, one law for each way out: refused, or what is done where the code is 0. Assumes nothing.
use Prim.Native.Nat.{ℕ, suc, ◌-◌, ◌≤◌}
use native.Mathlib.Omega.{arith}
use mathlib.Core.Path.{◌≡◌, refl, sym, ap, ap₂, ◌∙◌}
use mathlib.Core.Bool.{Bool, true, false}
use mathlib.Core.List.{List, ◌++◌}
use lib.ListN.{length, drop}
use mir.Syntax.{w32}
use mir.Val.{Fits, bool_byte}
use Rattle.refusals.specs.declared.Refusal.{Refusal}
use Rattle.refusals.specs.Numbers.{number}
use Rattle.refusals.proofs.Numbers.{not_zero}
use Rattle.geometry.specs.declared.Point.{Point}
use Rattle.geometry.specs.declared.Rectangle.{Rectangle}
use Rattle.characters.specs.declared.Cursor.{Cursor}
use Rattle.characters.specs.declared.Step as Characters
use Rattle.characters.specs.declared.Step.TheVariants.{Character, IllFormed, End}
use Rattle.characters.specs.Refusal.{unless_refused}
use Rattle.characters.specs.Utf8.{step_at}
use Rattle.mapping.specs.declared.Glyph as Mapping
use Rattle.mapping.specs.Mapping.{glyph, contains}
use Rattle.line.specs.Line
use Rattle.line.specs.declared.fonts.Font as Lent
use Rattle.line.specs.Lent.{lent}
use Rattle.text.specs.Text.{next, replaced, bounding_box}
use Rattle.geometry.specs.Layer.{paint}
use Rattle.sheet.specs.Fields.{frame_width, frame_height}
use Rattle.bdf.specs.Font.{font_of, font_bytes, read_code}
use Rattle.records.specs.Records.{font, item, item_font}
use Rattle.drawing.specs.Drawing.{item_layer, fresh_drawing, whitespace_layer, whitespace_next}
use Rattle.drawing.specs.Frames.{Framed}
use Rattle.calls.specs.declared.Number.{Number}
use Rattle.calls.specs.declared.Glyph.{Glyph}
use Rattle.calls.specs.declared.Position.{Position}
use Rattle.calls.specs.declared.Drawn.{Drawn}
use Rattle.calls.specs.declared.Box.{Box}
use Rattle.calls.specs.declared.Step.{Step}
use Rattle.page.specs.Page.{page_header}
use Rattle.page.specs.Room.{PageFits}
use Rattle.calls.specs.Calls.{netpbm, number_reply, position_reply, drawn_reply, box_reply, yes_no, glyph_reply, font_code, index_reply, contains_reply, item_code, bounding_box_reply, draw_item_code, draw_item_reply, draw_item_frame, whitespace_code, whitespace_reply, whitespace_frame, draw_code, draw_frame, page_code, page_reply, page_output, read_bdf_reply, step_reply, walk_reply}
use Rattle.calls.specs.Replies.{refused_number, refused_glyph, refused_position, refused_drawn, refused_box}
use Rattle.page.proofs.Pages.{length_page_le}

-- ---- a refused call

module _ (d : Refusal) (code : ℕ) (e : number d ≡ code) where
  positive : number d ≡ suc (number d - 1)
  positive = omega (arith, not_zero d)

  pub kept : {A : Type 0} (good before : A) → before ≡ unless_refused code good before
  kept good before = rw (← e, positive)

  pub number_refused : (r : Number) (v : ℕ) → r ≡ refused_number (number d) → r ≡ number_reply code v
  unfolding number_reply
  number_refused r v q = q ∙ rw (← e, positive)

  pub glyph_refused : (r : Glyph) (g : Mapping.Glyph) → r ≡ refused_glyph (number d) → r ≡ glyph_reply code g
  unfolding glyph_reply
  glyph_refused r g q = q ∙ rw (← e, positive)

  pub position_refused : (r : Position) (p : Point) → r ≡ refused_position (number d) → r ≡ position_reply code p
  unfolding position_reply
  position_refused r p q = q ∙ rw (← e, positive)

  pub drawn_refused : (r : Drawn) (p : Point) (k : ℕ) → r ≡ refused_drawn (number d) → r ≡ drawn_reply code p k
  unfolding drawn_reply
  drawn_refused r p k q = q ∙ rw (← e, positive)

  pub box_refused : (r : Box) (a : Rectangle) → r ≡ refused_box (number d) → r ≡ box_reply code a
  unfolding box_reply
  box_refused r a q = q ∙ rw (← e, positive)

-- ---- a call that is not refused: c is the sheet that it has checked, k the number of its font or item

module _ (code : ℕ) (z : 0 ≡ code) where
  pub done : {A : Type 0} (r good before : A) → r ≡ good → r ≡ unless_refused code good before
  done r good before q = rw (← z) q

  pub number_done : (value v : ℕ) → value ≡ v → ◌≡◌ {A = Number} (record { code = 0; value = value }) (number_reply code v)
  unfolding number_reply
  number_done value v q = rw (← z, q)

module _ (b c : List ℕ) (n k : ℕ) (same : c ≡ b) (here : k ≡ n) where
  pub box_replied : (r : Box) (a : Rectangle) → 0 ≡ item_code b n → r ≡ box_reply 0 a → a ≡ bounding_box (item_font c k).mono (item c k) → r ≡ bounding_box_reply b n
  unfolding bounding_box_reply
  box_replied r a z q e = rw (← z, ← same, ← here, ← e) q

  module _ (frame : List ℕ) where
    module _ (z : 0 ≡ draw_item_code b frame n) where
      pub item_replied : (r : Drawn) (p : Point) (m : ℕ) → r ≡ drawn_reply 0 p m → p ≡ next (item_font c k).mono (item c k) → m ≡ replaced (item_font c k) (item c k) → r ≡ draw_item_reply b frame n
      unfolding draw_item_reply
      item_replied r p m q ep em = rw (← z, ← same, ← here, ← ep, ← em) q

      pub item_drawn : (f : List ℕ) → f ≡ paint (frame_width c) (item_layer c k) frame → f ≡ draw_item_frame b frame n
      unfolding draw_item_frame
      item_drawn f q = rw (← z, ← same, ← here) q

    module _ (width : ℕ) (z : 0 ≡ whitespace_code b frame n width) where
      pub whitespace_replied : (r : Position) (p : Point) → r ≡ position_reply 0 p → p ≡ whitespace_next (item c k) width → r ≡ whitespace_reply b frame n width
      unfolding whitespace_reply
      whitespace_replied r p q ep = rw (← z, ← same, ← here, ← ep) q

      pub whitespace_drawn : (f : List ℕ) → f ≡ paint (frame_width c) (whitespace_layer (item_font c k).mono (item c k) width) frame → f ≡ whitespace_frame b frame n width
      unfolding whitespace_frame
      whitespace_drawn f q = rw (← z, ← same, ← here) q

pub page_drawn : (b c frame f : List ℕ) → c ≡ b → 0 ≡ draw_code b frame → f ≡ fresh_drawing c frame → f ≡ draw_frame b frame
unfolding draw_frame
page_drawn b c frame f same z q = rw (← z, ← same) q

-- ---- station_index, station_contains

told : (t : Bool) → bool_byte t ≡ yes_no t
told true = refl
told false = refl

module _ (b c : List ℕ) (n k : ℕ) (same : c ≡ b) (here : k ≡ n) (z : 0 ≡ font_code b n) (f : Lent.Font) (ef : lent f ≡ font c k) where
  mapping-is : f.mapping.bytes.now ≡ (font b n).mapping
  mapping-is = ap (λ (x : Line.Font). x.mapping) ef ∙ ap₂ (λ (s : List ℕ) (i : ℕ). (font s i).mapping) same here

  replacement-is : f.metrics.font.replacement_index ≡ (font b n).mono.replacement_index
  replacement-is = ap (λ (x : Line.Font). x.mono.replacement_index) ef ∙ ap₂ (λ (s : List ℕ) (i : ℕ). (font s i).mono.replacement_index) same here

  pub index_done : (ch v : ℕ) (g : Mapping.Glyph) → g ≡ glyph f.mapping.bytes.now f.metrics.font.replacement_index ch → v ≡ bool_byte g.listed
      → ◌≡◌ {A = Glyph} (record { code = 0; index = g.index; listed = v }) (index_reply b n ch)
  unfolding index_reply glyph_reply
  index_done ch v g q d =
      let same-glyph : g ≡ glyph (font b n).mapping (font b n).mono.replacement_index ch = q ∙ ap₂ (λ (m : List ℕ) (r : ℕ). glyph m r ch) mapping-is replacement-is in
      let good : ◌≡◌ {A = Glyph} (record { code = 0; index = g.index; listed = v }) (glyph_reply 0 g) = rw (d ∙ told g.listed) in
      good ∙ ap₂ glyph_reply z same-glyph

  pub contains_done : (ch v : ℕ) (t : Bool) → t ≡ contains f.mapping.bytes.now ch → v ≡ bool_byte t → ◌≡◌ {A = Number} (record { code = 0; value = v }) (contains_reply b n ch)
  unfolding contains_reply
  contains_done ch v t q d = number_done (font_code b n) z v _ (d ∙ told t ∙ ap yes_no (q ∙ ap (λ (m : List ℕ). contains m ch) mapping-is))

-- ---- station_write_page

module _ (b c frame output : List ℕ) (same : c ≡ b) (w h : ℕ) (ew : w ≡ frame_width c) (eh : h ≡ frame_height c) where
  same-page : page_header w h ++ frame ≡ netpbm c frame
  unfolding netpbm
  same-page = rw (ew, eh)

  pub page_room : Framed c frame → length (netpbm c frame) ≤ length output → PageFits w h frame output
  page_room f room =
      let g = f.accepted.laid_out.headed in
      record { width = omega (arith, g.width_most); height = omega (arith, g.height_most); room = rw same-page room }

  module _ (len : ℕ) (el : len ≡ length (page_header w h ++ frame)) where
    pub page_short : Framed c frame → Fits w32 len
    page_short f = record { fits = omega (arith, length_page_le w h frame, f.sized, f.accepted.laid_out.headed.area) }

    pub page_replied : 0 ≡ page_code b frame output → ◌≡◌ {A = Number} (record { code = 0; value = len }) (page_reply b frame output)
    unfolding page_reply
    page_replied z = number_done (page_code b frame output) z len _ (el ∙ ap length same-page ∙ ap (λ (s : List ℕ). length (netpbm s frame)) same)

  pub page_written : (out : List ℕ) → 0 ≡ page_code b frame output → out ≡ (page_header w h ++ frame) ++ drop (length (page_header w h ++ frame)) output → out ≡ page_output b frame output
  unfolding page_output
  page_written out z q = done (page_code b frame output) z out _ output (q ∙ rw (same-page, same))

-- ---- station_read_bdf

module _ (file : List ℕ) (n : ℕ) where
  pub read_refused : (d : Refusal) (r : Number) → number d ≡ read_code file n → r ≡ refused_number (number d) → r ≡ read_bdf_reply file n
  unfolding read_bdf_reply
  read_refused d r e q = number_refused d (read_code file n) e r _ q

  pub read_written : (size : ℕ) → 0 ≡ read_code file n → size ≡ length (font_bytes (font_of file)) → ◌≡◌ {A = Number} (record { code = 0; value = size }) (read_bdf_reply file n)
  unfolding read_bdf_reply
  read_written size z q = number_done (read_code file n) z size _ q

-- ---- station_walk

module _ (line : List ℕ) (at : ℕ) (s : Characters.Step) (e : s ≡ step_at line at) where
  walked : (s' : Characters.Step) → s ≡ s' → step_reply at s' ≡ walk_reply line at
  unfolding walk_reply
  walked s' q = ap (step_reply at) (sym q ∙ e)

  pub walk_character : (ch : ℕ) (c : Cursor) → s ≡ Character ch c → ◌≡◌ {A = Step} (record { code = 0; ended = 0; character = ch; next = c.at }) (walk_reply line at)
  unfolding step_reply
  walk_character ch c q = walked (Character ch c) q

  pub walk_ill_formed : (n : ℕ) → n ≡ 10 → s ≡ IllFormed → ◌≡◌ {A = Step} (record { code = n; ended = 0; character = 0; next = 0 }) (walk_reply line at)
  unfolding step_reply
  walk_ill_formed n e q = rw e (walked IllFormed q)

  pub walk_end : s ≡ End → ◌≡◌ {A = Step} (record { code = 0; ended = 1; character = 0; next = at }) (walk_reply line at)
  unfolding step_reply
  walk_end q = walked End q
