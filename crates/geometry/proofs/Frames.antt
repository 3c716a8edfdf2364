-- Laws of a frame: a run of its pixels painted and put back, and a rectangle of it painted row by row. Assumes nothing.
use Prim.Native.Nat.{ℕ, suc, ◌+◌, ◌-◌, ◌*◌, ◌/◌, ◌%◌, ◌≤◌, ◌<◌}
use native.Mathlib.Nat.{add-zero, add-suc, suc-add, add-mul, mul-zero, mul-le-mul, mul-le-mul_right, mod-lt, div-add-mod', div-lt_iff_lt-mul, le-div_iff_mul-le, eq-zero-or-pos, eq-or-lt_of_le, add-sub_cancel_left}
use native.Mathlib.Omega.{arith}
use mathlib.Core.Path.{◌≡◌, refl, sym, ap, ◌∙◌}
use mathlib.Core.List.{List, [], ◌∷◌, ◌++◌}
use mathlib.Core.Logic.{⊎_elim}
use lib.ListN.{length, get_or, take, drop, length-drop, take-append-drop}
use lib.Seq.{length-take-le, ext_get_or}
use lib.Arith.{digits_div, digits_mod}
use mir.Syntax.{w64}
use mir.Val.{Fits}
use borrow.Rule.Slice.PartMut.{put_mid}
use Rattle.geometry.specs.declared.Rectangle.{Rectangle}
use Rattle.geometry.specs.declared.FrameArea.{FrameArea}
use Rattle.geometry.specs.Rectangle.{rectangle}
use Rattle.geometry.specs.Layer.{origin, Layer, over, within, map_indexed, paint}
use Rattle.geometry.specs.Canvas.{InFrame, on_frame}
use Rattle.geometry.proofs.Rectangles.{In, in_or_out}
use Rattle.geometry.proofs.Layers.{within_in, within_out, length-map_indexed, map_indexed_at, map_indexed-same, length-paint, paint-over, paint_none, paint-same}

map_indexed-append : (f : ℕ → ℕ → ℕ) (k : ℕ) (xs ys : List ℕ) → map_indexed f k (xs ++ ys) ≡ map_indexed f k xs ++ map_indexed f (k + length xs) ys
unfolding map_indexed
map_indexed-append f k [] ys = rw (add-zero k)
map_indexed-append f k (x ∷ xs) ys = rw (add-suc k (length xs), ← suc-add k (length xs)) (ap (λ (l : List ℕ). f k x ∷ l) (map_indexed-append f (suc k) xs ys))

map_indexed_none : (f : ℕ → ℕ → ℕ) (k : ℕ) (xs : List ℕ) → ((i x : ℕ) → i < length xs → f (k + i) x ≡ x) → map_indexed f k xs ≡ xs
map_indexed_none f k xs h =
    ext_get_or 0 (map_indexed f k xs) xs (length-map_indexed f k xs)
    (λ i b. let l : i < length xs = omega (arith, length-map_indexed f k xs) in map_indexed_at f k xs i l ∙ h i (get_or xs i 0) l)

-- a part painted and put back, by a map that changes nothing else
put-part : (f : ℕ → ℕ → ℕ) (a n : ℕ) (xs : List ℕ) → a + n ≤ length xs → ((i x : ℕ) → i < a → f i x ≡ x) → ((i x : ℕ) → a + n ≤ i → f i x ≡ x)
    → put_mid a n xs (map_indexed f a (take n (drop a xs))) ≡ map_indexed f 0 xs
put-part f a n xs room before after =
    let la : length (take a xs) ≡ a = length-take-le a xs (omega arith) in
    let ln : length (take n (drop a xs)) ≡ n = length-take-le n (drop a xs) (rw length-drop (omega arith)) in
    let first : map_indexed f 0 (take a xs) ≡ take a xs = map_indexed_none f 0 (take a xs) (λ i x l. before (0 + i) x (omega arith)) in
    let last : map_indexed f (a + n) (drop n (drop a xs)) ≡ drop n (drop a xs) = map_indexed_none f (a + n) (drop n (drop a xs)) (λ i x l. after (a + n + i) x (omega arith)) in
    let rest : map_indexed f a (drop a xs) ≡ map_indexed f a (take n (drop a xs)) ++ drop n (drop a xs) =
    ap (map_indexed f a) (sym (take-append-drop n (drop a xs))) ∙ map_indexed-append f a (take n (drop a xs)) (drop n (drop a xs)) ∙ rw (ln, last) in
    let e : 0 + length (take a xs) ≡ a = omega arith in
    sym (ap (map_indexed f 0) (sym (take-append-drop a xs)) ∙ map_indexed-append f 0 (take a xs) (drop a xs) ∙ rw (e, first, rest))

-- the n pixels from a on are those of a rectangle
pub record Run (fw a n : ℕ) (m : Rectangle) : Type 0 where
  pub inside : (i : ℕ) → a ≤ i → i < a + n → In m (origin + i % fw) (origin + i / fw)
  pub outside : (i : ℕ) → In m (origin + i % fw) (origin + i / fw) → (a ≤ i) × (i < a + n)

-- part of a row
pub row_run : (fw l r w : ℕ) → l + w ≤ fw → Run fw (r * fw + l) w (rectangle (origin + l) (origin + r) w 1)
row_run fw l r w room = record {
  inside = λ i p q.
      let e : r * fw + (i - r * fw) ≡ i = omega arith in
      let d : i / fw ≡ r = rw e at (digits_div r {m = fw} {r = i - r * fw} (omega arith)) in
      let m : i % fw ≡ i - r * fw = rw e at (digits_mod r {m = fw} {r = i - r * fw} (omega arith)) in
      omega arith;
  outside = λ i h.
      let d : i / fw ≡ r = omega arith in
      let e : i / fw * fw ≡ r * fw = ap (λ (q : ℕ). q * fw) d in
      omega (arith, div-add-mod' i fw);
}

-- whole rows
pub rows_run : (fw : ℕ) (a : FrameArea) → a.width ≡ fw → a.left + a.width ≤ fw → Run fw (a.top * fw) (a.height * fw) (on_frame a)
rows_run fw a e room = record {
  inside = λ i p q. ⊎_elim
      (λ (z : fw ≡ 0). let none : a.height * fw ≡ 0 = rw z (mul-zero a.height) in absurd (omega arith))
      (λ (z : 0 < fw).
      let low : a.top ≤ i / fw = (le-div_iff_mul-le z).1 p in
      let high : i / fw < a.top + a.height = (div-lt_iff_lt-mul z).1 (omega (arith, add-mul a.top a.height fw)) in
      omega (arith, mod-lt i z))
      (eq-zero-or-pos fw);
  outside = λ i b.
      let z : 0 < fw = omega arith in
      let low : a.top * fw ≤ i = (le-div_iff_mul-le z).0 (omega arith) in
      let high : i < (a.top + a.height) * fw = (div-lt_iff_lt-mul z).0 (omega arith) in
      omega (arith, add-mul a.top a.height fw);
}

-- the pixels of a rectangle that is one run, painted and put back
pub paint-run : (fw a n : ℕ) (m : Rectangle) (f : Layer) (frame : List ℕ) → Run fw a n m → a + n ≤ length frame
    → put_mid a n frame (map_indexed (λ i grey. f (origin + i % fw) (origin + i / fw) grey) a (take n (drop a frame))) ≡ paint fw (within m f) frame
unfolding paint
paint-run fw a n m f frame run room =
    let ln : length (take n (drop a frame)) ≡ n = length-take-le n (drop a frame) (rw length-drop (omega arith)) in
    ap (put_mid a n frame) (map_indexed-same _ (λ i grey. within m f (origin + i % fw) (origin + i / fw) grey) a a (take n (drop a frame))
    (λ i x l. sym (within_in m f _ _ x (run.inside (a + i) (omega arith) (omega arith)))))
    ∙ put-part (λ i grey. within m f (origin + i % fw) (origin + i / fw) grey) a n frame room
    (λ i x l. within_out m f _ _ x (λ b. let o = run.outside i b in omega arith))
    (λ i x l. within_out m f _ _ x (λ b. let o = run.outside i b in omega arith))

-- the first k rows of an area, and its row k alone
abbrev pub first_rows : FrameArea → ℕ → Rectangle
first_rows a k = rectangle (origin + a.left) (origin + a.top) a.width k

abbrev row_at : FrameArea → ℕ → Rectangle
row_at a k = rectangle (origin + a.left) (origin + (a.top + k)) a.width 1

-- the state of a loop over the rows of an area of the frame xs: the first k are painted by f
pub record RowsPainted (fw : ℕ) (a : FrameArea) (k : ℕ) (f : Layer) (xs frame : List ℕ) : Type 0 where
  pub painted : frame ≡ paint fw (within (first_rows a k) f) xs
  pub reach : k ≤ a.height
  pub size : length frame ≡ length xs

pub rows_start : (fw : ℕ) (a : FrameArea) (f : Layer) (xs : List ℕ) → RowsPainted fw a 0 f xs xs
rows_start fw a f xs = record {
  painted = sym (paint_none fw (within (first_rows a 0) f) xs (λ c r grey. within_out (first_rows a 0) f c r grey (λ i. omega arith)));
  reach = omega arith;
  size = refl;
}

-- k rows and the next are k + 1 rows
rows_next : (a : FrameArea) (k : ℕ) (f : Layer) (c r grey : ℕ) → over (within (row_at a k) f) (within (first_rows a k) f) c r grey ≡ within (first_rows a (k + 1)) f c r grey
rows_next a k f c r grey = ⊎_elim
    (λ (i : In (row_at a k) c r).
    within_in (row_at a k) f c r _ i ∙ ap (f c r) (within_out (first_rows a k) f c r grey (λ j. omega arith))
    ∙ sym (within_in (first_rows a (k + 1)) f c r grey (omega arith)))
    (λ (o : In (row_at a k) c r → ⊥). within_out (row_at a k) f c r _ o ∙ ⊎_elim
    (λ (j : In (first_rows a k) c r). within_in (first_rows a k) f c r grey j ∙ sym (within_in (first_rows a (k + 1)) f c r grey (omega arith)))
    (λ (p : In (first_rows a k) c r → ⊥). within_out (first_rows a k) f c r grey p ∙ sym (within_out (first_rows a (k + 1)) f c r grey
    (λ g. let b : r ≤ origin + (a.top + k) = omega arith in ⊎_elim (λ e. o (omega arith)) (λ e. p (omega arith)) (eq-or-lt_of_le b))))
    (in_or_out (first_rows a k) c r))
    (in_or_out (row_at a k) c r)

-- the index of a row of an area fits, and so does that of the row below its last
module _ (fw n : ℕ) (a : FrameArea) (k : ℕ) (room : InFrame fw n a) (reach : k ≤ a.height) where
  row_small : (a.top + k) * fw ≤ 512 * 512
  row_small = let h : a.top + k ≤ 512 = omega (arith, room) in mul-le-mul h room.narrow

  pub row_fits : Fits w64 ((a.top + k) * fw)
  row_fits = omega (arith, row_small)

  pub row_start_fits : Fits w64 ((a.top + k) * fw + a.left)
  row_start_fits = omega (arith, row_small, room)

  pub row_end_fits : Fits w64 ((a.top + k) * fw + a.left + a.width)
  row_end_fits = omega (arith, row_small, room)

-- a row of an area ends within the frame
module _ (fw n : ℕ) (a : FrameArea) (k : ℕ) (room : InFrame fw n a) (less : k < a.height) where
  row_room : (a.top + k) * fw + a.left + a.width ≤ n
  row_room =
      let m : (a.top + (k + 1)) * fw ≤ (a.top + a.height) * fw = mul-le-mul_right fw (omega arith) in
      omega (arith, room)

  pub row_end_in : (frame : List ℕ) → length frame ≡ n → (a.top + k) * fw + a.left + a.width ≤ length frame
  row_end_in frame e = omega (arith, row_room)

-- one row more, where the code lends its part of the frame
pub rows_step : (fw : ℕ) (a : FrameArea) (k s : ℕ) (f : Layer) (g : ℕ → ℕ → ℕ) (xs frame part : List ℕ)
    → InFrame fw (length xs) a → RowsPainted fw a k f xs frame → k < a.height
    → part ≡ map_indexed g s (take ((a.top + k) * fw + a.left + a.width - ((a.top + k) * fw + a.left)) (drop ((a.top + k) * fw + a.left) frame))
    → ((i x : ℕ) → i < a.width → g (s + i) x ≡ f (origin + a.left + i) (origin + (a.top + k)) x)
    → RowsPainted fw a (k + 1) f xs (put_mid ((a.top + k) * fw + a.left) ((a.top + k) * fw + a.left + a.width - ((a.top + k) * fw + a.left)) frame part)
rows_step fw a k s f g xs frame part in_frame p less ep agree =
    let b : ℕ = (a.top + k) * fw + a.left in
    let w : ℕ = a.width in
    let room = row_room fw (length xs) a k in_frame less in
    let right = in_frame.right in
    let lw : length (take w (drop b frame)) ≡ w = length-take-le w (drop b frame) (rw length-drop (omega arith)) in
    let same : map_indexed g s (take w (drop b frame)) ≡ map_indexed (λ i grey. f (origin + i % fw) (origin + i / fw) grey) b (take w (drop b frame)) =
    map_indexed-same g _ s b (take w (drop b frame)) (λ i x u.
    let e : (a.top + k) * fw + (a.left + i) ≡ b + i = omega arith in
    let d : (b + i) / fw ≡ a.top + k = rw e at (digits_div (a.top + k) {m = fw} {r = a.left + i} (omega arith)) in
    let m : (b + i) % fw ≡ a.left + i = rw e at (digits_mod (a.top + k) {m = fw} {r = a.left + i} (omega arith)) in
    let q : origin + (a.left + i) ≡ origin + a.left + i = omega arith in
    agree i x (omega arith) ∙ rw (d, m, q)) in
    let q : put_mid b (b + w - b) frame part ≡ paint fw (within (first_rows a (k + 1)) f) xs =
    rw (ep, add-sub_cancel_left b w, same) (paint-run fw b w (row_at a k) f frame (row_run fw a.left (a.top + k) w right) (omega arith))
    ∙ ap (paint fw (within (row_at a k) f)) p.painted
    ∙ paint-over fw (within (first_rows a k) f) (within (row_at a k) f) xs
    ∙ paint-same fw _ (within (first_rows a (k + 1)) f) xs (rows_next a k f) in
    record { painted = q; reach = omega arith; size = ap length q ∙ length-paint fw _ xs }

pub rows_end : (fw : ℕ) (a : FrameArea) (k : ℕ) (f : Layer) (xs frame : List ℕ) → RowsPainted fw a k f xs frame → a.height ≤ k → frame ≡ paint fw (within (on_frame a) f) xs
rows_end fw a k f xs frame p past = let e : k ≡ a.height = omega arith in rw e at p.painted
