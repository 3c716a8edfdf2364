-- What the painting functions leave on a frame, each law in the form in which a function's proof has its facts. Assumes nothing.
use Prim.Native.Nat.{ℕ, suc, ◌+◌, ◌-◌, ◌*◌, ◌/◌, ◌%◌, ◌≤◌, ◌<◌}
use native.Mathlib.Nat.{mod-lt, div-lt_iff_lt-mul, mul_comm}
use native.Mathlib.Numerals.{add-one}
use native.Mathlib.Omega.{arith}
use mathlib.Core.Path.{◌≡◌, refl, sym, ap, ◌∙◌}
use mathlib.Core.Bool.{Bool, true, false, cond}
use mathlib.Core.List.{List, []}
use mathlib.Core.Logic.{⊎_elim}
use lib.ListN.{length, get_or}
use Rattle.std.specs.Prelude.{Some}
use Rattle.geometry.specs.declared.Rectangle.{Rectangle}
use Rattle.geometry.specs.declared.DrawTarget.{DrawTarget}
use Rattle.geometry.specs.Rectangle.{rectangle, is_empty, join, intersection}
use Rattle.geometry.specs.Layer.{origin, Layer, over, within, filled, paint, paint_in, frame_of}
use Rattle.geometry.specs.Canvas.{Canvas, paint_on}
use Rattle.geometry.proofs.Rectangles.{in_or_out, in_not_empty, intersection_in}
use Rattle.geometry.proofs.Clips.{shown_in_area, shown_ends}
use Rattle.geometry.proofs.Layers.{within_in, within_out, within_none, paint_agree, paint_none, paint-same}
use Rattle.geometry.specs.declared.canvas.Frame.{Frame}
use Rattle.geometry.specs.Painted.{Painted}
use Rattle.geometry.proofs.Paintings.{painted_none, painted_then, paint_then}
use Rattle.line.proofs.Painting.{paint-disjoint}
use Rattle.text.proofs.Ink.{layer_out}
use Rattle.sheet.specs.Fields.{frame_width, frame_height, paper, item_count}
use Rattle.sheet.specs.Accepted.{Accepted}
use Rattle.records.specs.Records.{item, item_font}
use Rattle.drawing.specs.Drawing.{numbers_from, order, item_layer, items_layer, page_layer, fresh_drawing, pixel_count, or_none, cut_to_frame, item_ink, damage, repainted}
use Rattle.drawing.specs.Frames.{target_of, Framed}

-- ---- the whole frame as a clip

module _ (b : List ℕ) (g : Accepted b) (frame : List ℕ) (n : length frame ≡ pixel_count b) where
  pub whole_canvas : Canvas (target_of b (frame_of (frame_width b) (frame_height b))) (length frame)
  whole_canvas =
      let h = g.laid_out.headed in
      record { size = mul_comm (frame_height b) (frame_width b) ∙ sym n; width = h.width_most; height = h.height_most; left = omega arith; right = omega arith; top = omega arith; foot = omega arith }

  -- a layer in the whole frame is the layer
  pub paint_whole : (f : Layer) → paint_in (frame_width b) (frame_of (frame_width b) (frame_height b)) f frame ≡ paint (frame_width b) f frame
  paint_whole f = paint_agree (frame_width b) (pixel_count b) _ f frame frame n n (λ k l.
      let w = g.laid_out.headed.width_least in
      let c : k % frame_width b < frame_width b = mod-lt k w in
      let r : k / frame_width b < frame_height b = (div-lt_iff_lt-mul w).1 (rw (mul_comm (frame_height b) (frame_width b)) l) in
      within_in (frame_of (frame_width b) (frame_height b)) f (origin + k % frame_width b) (origin + k / frame_width b) (get_or frame k 0) (omega arith))

pub canvas_read : (b : List ℕ) (t : DrawTarget) (n : ℕ) (clip : Rectangle) → Canvas (target_of b clip) n → t ≡ target_of b clip → Canvas t n
canvas_read b t n clip c e = rw e c

module _ (b frame : List ℕ) where
  pub framed_canvas : (clip : Rectangle) (t : DrawTarget) → Framed b frame → clip ≡ frame_of (frame_width b) (frame_height b) → t ≡ target_of b clip → Canvas t (length frame)
  framed_canvas clip t g e et = rw (et, e) (whole_canvas b g.accepted frame g.sized)

  pub painted_whole : (ys : List ℕ) (clip : Rectangle) (f : Layer) → Framed b frame → clip ≡ frame_of (frame_width b) (frame_height b) → ys ≡ paint_in (frame_width b) clip f frame → ys ≡ paint (frame_width b) f frame
  painted_whole ys clip f g c e = (rw c at e) ∙ paint_whole b g.accepted frame g.sized f

  -- what is painted on a frame that was made of these greys
  pub whole_drawn : (before after : Frame) (f : Layer) → Framed b frame → before.target ≡ target_of b (frame_of (frame_width b) (frame_height b)) → before.greys.now ≡ frame → Painted before f after
      → after.greys.now ≡ paint (frame_width b) f frame
  whole_drawn before after f g et eg p = painted_whole after.greys.now _ f g refl (rw (et, eg) at p.greys)

  pub fresh_painted : (ys : List ℕ) (clip : Rectangle) → Framed b frame → clip ≡ frame_of (frame_width b) (frame_height b) → ys ≡ repainted b clip frame → ys ≡ fresh_drawing b frame
  unfolding repainted fresh_drawing
  fresh_painted ys clip g c e = painted_whole ys clip (page_layer b) g c e

-- ---- items, one after another

module _ (b : List ℕ) where
  -- what is left to paint from item n on
  abbrev left : ℕ → Layer
  left n = items_layer b (numbers_from n (item_count b - n))

  -- the state of the loop at item n: the items before it are drawn
  pub record ItemsDrawn (first : Frame) (n : ℕ) (frame : Frame) : Type 0 where
    pub whole : (last : Frame) → Painted frame (left n) last → Painted first (items_layer b (order b)) last

  pub items_start : (first : Frame) → ItemsDrawn first 0 first
  unfolding order
  items_start first = record { whole = λ last p. (let e : item_count b - 0 ≡ item_count b = omega arith in rw e at p) }

  module _ (first frame : Frame) (n items : ℕ) (d : ItemsDrawn first n frame) (h : List ℕ) (same : h ≡ b) (e : items ≡ item_count h) where
    c : items ≡ item_count b
    c = rw same at e

    pub items_step : (next : Frame) → n < items → Painted frame (item_layer b n) next → ItemsDrawn first (n + 1) next
    unfolding items_layer numbers_from
    items_step next l p = record { whole = λ last q. d.whole last (let s : item_count b - n ≡ suc (item_count b - (n + 1)) = omega (arith, c) in rw (s, ← add-one n) (painted_then frame (item_layer b n) (left (n + 1)) next last p q)) }

    pub items_end : items ≤ n → Painted first (items_layer b (order b)) frame
    unfolding items_layer numbers_from
    items_end l =
        d.whole frame
        (let z : item_count b - n ≡ 0 = omega (arith, c) in
        rw z (painted_none frame (items_layer b []) (sym (paint_none frame.target.width _ frame.greys.now (within_none frame.target.clip_area (items_layer b []) (λ c r grey. refl))))))

  -- an item whose ink box shares no pixel with a frame's clip changes nothing there
  pub item_missed : (n : ℕ) (frame : Frame) (t : Bool) → (t ≡ true → is_empty (intersection (item_ink b n) frame.target.clip_area) ≡ true) → t ≡ true → Painted frame (item_layer b n) frame
  unfolding item_layer item_ink
  item_missed n frame t h q =
      let area = frame.target.clip_area in
      painted_none frame (item_layer b n) (paint-disjoint frame.target (item_ink b n) (item_layer b n) frame.greys.now
      (λ c r grey o. layer_out (item_font b n) (item b n) c r grey o)
      (λ c r i j.
      let k = in_not_empty (intersection (item_ink b n) area) c r (intersection_in c r (item_ink b n) area j i) in
      let e = h q in
      let z : ◌≡◌ {A = ℕ} 0 1 = cc in omega arith))

module _ (b : List ℕ) (area : Rectangle) where
  pub missed : (n : ℕ) (ink met : Rectangle) (t : Bool) → ink ≡ item_ink b n → met ≡ intersection ink area → t ≡ is_empty met → t ≡ true → is_empty (intersection (item_ink b n) area) ≡ true
  missed n ink met t ei em et q = rw (← ei, ← em, ← et) q

  -- paper, then the items: the page in the area
  pub page_painted : (t : DrawTarget) (grey : ℕ) (xs ys zs : List ℕ) → t ≡ target_of b area → grey ≡ paper b
      → ys ≡ paint_on t (filled area (Some grey)) xs → zs ≡ paint_in (frame_width b) area (items_layer b (order b)) ys → zs ≡ repainted b area xs
  unfolding repainted page_layer filled
  page_painted t grey xs ys zs w g p q =
      paint_then (target_of b area) _ (items_layer b (order b)) xs ys zs (rw (w, g) at p) q
      ∙ paint-same (frame_width b) _ (within area (page_layer b)) xs (λ c r grey. ⊎_elim
      (λ i. within_in area (over (items_layer b (order b)) (filled area (Some (paper b)))) c r grey i ∙ ap (items_layer b (order b) c r) (within_in area (λ c r grey. paper b) c r grey i) ∙ sym (within_in area (page_layer b) c r grey i))
      (λ o. within_out area (over (items_layer b (order b)) (filled area (Some (paper b)))) c r grey o ∙ sym (within_out area (page_layer b) c r grey o))
      (in_or_out area c r))

  pub page_drawn : (t : DrawTarget) (grey : ℕ) (xs : List ℕ) (first middle last : Frame) → t ≡ target_of b area → grey ≡ paper b → first.target ≡ t → first.greys.now ≡ xs
      → Painted first (filled area (Some grey)) middle → Painted middle (items_layer b (order b)) last → last.greys.now ≡ repainted b area xs
  page_drawn t grey xs first middle last w g et ex p q = page_painted t grey xs middle.greys.now last.greys.now w g (rw (et, ex) at p.greys) (rw (p.same_target, et, w) at q.greys)

-- ---- the damage rectangle lies in the frame

or_none_canvas : (fw fh n : ℕ) (a : Rectangle) → fh * fw ≡ n → fw ≤ 512 → fh ≤ 512 → Canvas (record { width = fw; height = fh; clip_area = or_none (intersection a (frame_of fw fh)) }) n
unfolding or_none
or_none_canvas fw fh n a s w h = go (is_empty (intersection a (frame_of fw fh))) refl
  where
    go : (t : Bool) → is_empty (intersection a (frame_of fw fh)) ≡ t → Canvas (record { width = fw; height = fh; clip_area = cond t (rectangle origin origin 0 0) (intersection a (frame_of fw fh)) }) n
    go true e = record { size = s; width = w; height = h; left = omega arith; right = omega arith; top = omega arith; foot = omega arith }
    go false e =
        let p = shown_in_area a (frame_of fw fh) _ refl in
        let q = shown_ends a (frame_of fw fh) _ refl e in
        record { size = s; width = w; height = h; left = p.0; right = q.2; top = p.1; foot = q.3 }

pub damage_canvas : (b b' : List ℕ) (n : ℕ) (frame : List ℕ) → Accepted b → length frame ≡ pixel_count b → Canvas (target_of b (damage b b' n)) (length frame)
unfolding damage cut_to_frame
damage_canvas b b' n frame g l =
    let h = g.laid_out.headed in
    or_none_canvas (frame_width b) (frame_height b) (length frame) (join (item_ink b n) (item_ink b' n)) (mul_comm (frame_height b) (frame_width b) ∙ sym l) h.width_most h.height_most
