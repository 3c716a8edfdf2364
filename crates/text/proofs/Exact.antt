-- The positions and boxes of a text in natural numbers are docs/SHEET.md's in signed ones: where there is room on the left of the text and
-- above it, no subtraction is cut at 0. Assumes nothing.
use Prim.Native.Nat.{ℕ, zero, suc, ◌+◌, ◌-◌, ◌*◌, ◌/◌, ◌≤◌}
use native.Mathlib.Omega.{arith}
use mathlib.Core.Path.{◌≡◌, refl, sym, ap, ◌∙◌}
use mathlib.Core.Bool.{Bool, true, false, cond}
use mathlib.Core.List.Memᴰ
use mathlib.Core.List.{List, [], ◌∷◌, map, Memᴰ}
use mathlib.Core.Logic.{◌⊎◌, inl, inr}
use lib.Dec.{eqb}
use lib.IntN.{ℤ, pos, negsuc, ◌+ℤ◌, ◌-ℤ◌, +ℤ_idr, -ℤ_one}
use lib.Signed.{quot_z}
use lib.ListN.{length}
use Rattle.geometry.specs.declared.Point.{Point}
use Rattle.geometry.specs.declared.Rectangle.{Rectangle}
use Rattle.geometry.specs.Layer.{signed}
use Rattle.geometry.specs.Rectangle.{joins}
use Rattle.characters.specs.Utf8.{chars}
use Rattle.characters.specs.Lines.{before, lines}
use Rattle.line.specs.declared.DecorationDimensions.{DecorationDimensions}
use Rattle.line.specs.declared.MonoFont.{MonoFont}
use Rattle.line.specs.Line.{character_width, spacing, baseline_offset, advance, measured_width, measured_height, ink_rows}
use Rattle.line.specs.Line
use Rattle.text.specs.declared.Alignment.{Alignment}
use Rattle.text.specs.declared.Alignment.TheVariants.{Left, Center, Right}
use Rattle.text.specs.Text.{Text, PlacedLine, aligned_start, line_height, place_line, place_lines, placed_lines, line_top, line_next, last_next, next, nowhere, measured_box, bounding_box, line_ink, ink_box}
use Rattle.text.specs.Signed
use Rattle.text.specs.Signed.{SignedPoint, signed_point, SignedRectangle, signed_rectangle, SignedText, signed_text, SignedLine, signed_line}
use Rattle.text.proofs.Signed.{signed_add, signed_sub, signed-joins}

-- ---- where a line starts

pub start_exact : (a : Alignment) (x w : ℕ) → w ≤ x → signed (aligned_start a x w) ≡ Signed.aligned_start a (signed x) w
unfolding aligned_start Signed.aligned_start
start_exact Left x w h = refl
start_exact Center x zero h = ap signed (let e : x - (0 - 1) / 2 ≡ x = omega arith in e) ∙ sym (+ℤ_idr (signed x))
start_exact Center x (suc w) h =
    ap signed (let e : x - (suc w - 1) / 2 ≡ x - w / 2 = omega arith in e) ∙ sym (signed_sub x (w / 2) (omega arith))
    ∙ ap (λ (z : ℤ). signed x -ℤ quot_z z (pos 2)) (sym (-ℤ_one (pos (suc w))))
start_exact Right x zero h = ap signed (let e : x + 1 - 0 ≡ x + 1 = omega arith in e) ∙ sym (signed_add x 1)
start_exact Right x (suc w) h =
    ap signed (let e : x + 1 - suc w ≡ x - w = omega arith in e) ∙ sym (signed_sub x w (omega arith)) ∙ ap (λ (z : ℤ). signed x -ℤ z) (sym (-ℤ_one (pos (suc w))))

-- ---- every placed line is a line of the text, no higher than the text's position

pub record PlacedAt (m : MonoFont) (t : Text) (ls : List (List ℕ)) (y : ℕ) (p : PlacedLine) : Type 0 where
  pub bytes : List ℕ
  pub listed : Memᴰ bytes ls
  pub placed : p ≡ place_line m t bytes p.y
  pub lower : y ≤ p.y

-- how much lower each line of a text stands
abbrev lower_by : MonoFont → Text → ℕ
lower_by m t = line_height m t.text_style.line_height

module _ (m : MonoFont) (t : Text) (p : PlacedLine) where
  pub placed_at : (ls : List (List ℕ)) (y : ℕ) → Memᴰ p (place_lines m t ls y) → PlacedAt m t ls y p
  unfolding place_lines place_line
  placed_at [] y q = absurd (Memᴰ.not-nil q)
  placed_at (l ∷ ls) y q = go (placed_at ls (y + lower_by m t)) (Memᴰ.cases_cons q)
    where
      go : (Memᴰ p (place_lines m t ls (y + lower_by m t)) → PlacedAt m t ls (y + lower_by m t) p) → (p ≡ place_line m t l y) ⊎ Memᴰ p (place_lines m t ls (y + lower_by m t)) → PlacedAt m t (l ∷ ls) y p
      go ih (inl e) =
          let d : y ≡ p.y = sym (ap (λ (q : PlacedLine). q.y) e) in
          record { bytes = l; listed = Memᴰ.head refl; placed = e ∙ ap (place_line m t l) d; lower = omega arith }
      go ih (inr q) = let a = ih q in record { bytes = a.bytes; listed = Memᴰ.tail a.listed; placed = a.placed; lower = omega arith }

-- a line is no longer than its text
before-length : (c n : ℕ) (ls : List (List ℕ)) → ((l : List ℕ) → Memᴰ l ls → length l ≤ n) → (l : List ℕ) → Memᴰ l (before c ls) → length l ≤ suc n
before-length c n [] h l m = absurd (Memᴰ.not-nil m)
before-length c n (k ∷ ls) h l m = go (Memᴰ.cases_cons m)
  where
    go : (l ≡ c ∷ k) ⊎ Memᴰ l ls → length l ≤ suc n
    go (inl e) = omega (arith, ap length e, h k (Memᴰ.head refl))
    go (inr q) = omega (arith, h l (Memᴰ.tail q))

pub length_line : (s l : List ℕ) → Memᴰ l (lines s) → length l ≤ length s
unfolding lines
length_line [] l m = go (Memᴰ.cases_cons m)
  where
    go : (l ≡ []) ⊎ Memᴰ l [] → length l ≤ 0
    go (inl e) = omega (arith, ap length e)
    go (inr q) = absurd (Memᴰ.not-nil q)
length_line (c ∷ cs) l m = go (length_line cs) (eqb c 0x0A) m
  where
    first : ((k : List ℕ) → Memᴰ k (lines cs) → length k ≤ length cs) → (l ≡ []) ⊎ Memᴰ l (lines cs) → length l ≤ suc (length cs)
    first ih (inl e) = omega (arith, ap length e)
    first ih (inr q) = omega (arith, ih l q)

    go : ((k : List ℕ) → Memᴰ k (lines cs) → length k ≤ length cs) → (b : Bool) → Memᴰ l (cond b ([] ∷ lines cs) (before c (lines cs))) → length l ≤ suc (length cs)
    go ih true q = first ih (Memᴰ.cases_cons q)
    go ih false q = before-length c (length cs) (lines cs) ih l q

-- ---- the whole text

-- there is room on the left of a text for each of its lines, and above it for its baseline's offset
pub record Room (m : MonoFont) (t : Text) : Type 0 where
  pub left : (l : List ℕ) → Memᴰ l (lines t.text) → measured_width m (length (chars l)) ≤ t.position.x
  pub above : baseline_offset m t.text_style.baseline ≤ t.position.y

-- the lines of a text, their top edges, characters, decorations and boxes, its next position and its boxes, and those of the same text in signed numbers
pub record Exact (m : MonoFont) (t : Text) (s : SignedText) : Type 0 where
  pub lines : map signed_line (placed_lines m t) ≡ Signed.placed_lines m s
  pub tops : map signed (map (line_top m t) (placed_lines m t)) ≡ map (Signed.line_top m s) (Signed.placed_lines m s)
  pub characters : (l : PlacedLine) (k : ℕ) → signed (l.x + k * (character_width m + spacing m)) ≡ Signed.character_x m (signed_line l) k
  pub decorations : (l : PlacedLine) → Memᴰ l (placed_lines m t) → (d : DecorationDimensions) → signed (line_top m t l + d.offset) ≡ Signed.decoration_top m s (signed_line l) d
  pub measured_boxes : map signed_rectangle (map (measured_box m t) (placed_lines m t)) ≡ map (Signed.measured_box m s) (Signed.placed_lines m s)
  pub line_inks : map signed_rectangle (map (line_ink m t) (placed_lines m t)) ≡ map (Signed.line_ink m s) (Signed.placed_lines m s)
  pub next : signed_point (next m t) ≡ Signed.next m s
  pub bounding_box_lem : signed_rectangle (bounding_box m t) ≡ Signed.bounding_box m s
  pub ink_box_lem : signed_rectangle (ink_box m t) ≡ Signed.ink_box m s

-- what is made of the members of a list in two ways
map_square : {A B C D : Type 0} (f : A → B) (g : B → D) (h : A → C) (k : C → D) (xs : List A) → ((x : A) → Memᴰ x xs → k (h x) ≡ g (f x)) → map k (map h xs) ≡ map g (map f xs)
map_square f g h k [] e = refl
map_square f g h k (x ∷ xs) e = rw (e x (Memᴰ.head refl), map_square f g h k xs (λ y q. e y (Memᴰ.tail q)))

module _ (m : MonoFont) (t : Text) where
  -- "Each line is lower by ..": the same lines, in the same order
  placed-exact : (ls : List (List ℕ)) (y : ℕ) → ((l : List ℕ) → Memᴰ l ls → measured_width m (length (chars l)) ≤ t.position.x)
      → map signed_line (place_lines m t ls y) ≡ Signed.place_lines m (signed_text t) ls (signed y)
  unfolding place_lines Signed.place_lines place_line Signed.place_line
  placed-exact [] y h = refl
  placed-exact (l ∷ ls) y h =
      let start = start_exact t.text_style.alignment t.position.x (measured_width m (length (chars l))) (h l (Memᴰ.head refl)) in
      rw (start, signed_add y (lower_by m t), placed-exact ls (y + lower_by m t) (λ k q. h k (Memᴰ.tail q)))

  next-exact : (l : PlacedLine) → signed_point (line_next m t l) ≡ Signed.line_next m (signed_text t) (signed_line l)
  unfolding line_next Signed.line_next
  next-exact l = rw (signed_add l.x (advance m t.character_style (length (chars l.text))))

  last-exact : (ls : List PlacedLine) (p : Point) → signed_point (last_next m t p ls) ≡ Signed.last_next m (signed_text t) (signed_point p) (map signed_line ls)
  unfolding last_next Signed.last_next
  last-exact [] p = refl
  last-exact (l ∷ ls) p = last-exact ls (line_next m t l) ∙ ap (λ (q : SignedPoint). Signed.last_next m (signed_text t) q (map signed_line ls)) (next-exact l)

  module _ (r : Room m t) where
    lines-exact : map signed_line (placed_lines m t) ≡ Signed.placed_lines m (signed_text t)
    unfolding placed_lines Signed.placed_lines
    lines-exact = placed-exact (lines t.text) t.position.y r.left

    top-exact : (l : PlacedLine) → Memᴰ l (placed_lines m t) → signed (line_top m t l) ≡ Signed.line_top m (signed_text t) (signed_line l)
    unfolding placed_lines
    top-exact l q = sym (signed_sub l.y (baseline_offset m t.text_style.baseline) (omega (arith, (placed_at m t l (lines t.text) t.position.y q).lower, r.above)))

    each_line : {C D : Type 0} (h : PlacedLine → C) (k : C → D) (g : SignedLine → D) → ((l : PlacedLine) → Memᴰ l (placed_lines m t) → k (h l) ≡ g (signed_line l))
        → map k (map h (placed_lines m t)) ≡ map g (Signed.placed_lines m (signed_text t))
    each_line h k g e = map_square signed_line g h k (placed_lines m t) e ∙ ap (map g) lines-exact

    -- a row so far below a line's top edge
    row-exact : (k : ℕ) (l : PlacedLine) → Memᴰ l (placed_lines m t) → signed (line_top m t l + k) ≡ Signed.line_top m (signed_text t) (signed_line l) +ℤ pos k
    row-exact k l q = sym (signed_add (line_top m t l) k) ∙ ap (λ (z : ℤ). z +ℤ pos k) (top-exact l q)

    joined-exact : (box : PlacedLine → Rectangle) (box' : SignedLine → SignedRectangle) → map signed_rectangle (map box (placed_lines m t)) ≡ map box' (Signed.placed_lines m (signed_text t))
        → signed_rectangle (joins (nowhere t) (map box (placed_lines m t))) ≡ Signed.joins (Signed.nowhere (signed_text t)) (map box' (Signed.placed_lines m (signed_text t)))
    joined-exact box box' e = sym (signed-joins (map box (placed_lines m t)) (nowhere t)) ∙ ap (Signed.joins (Signed.nowhere (signed_text t))) e

    pub text_exact : Exact m t (signed_text t)
    unfolding next Signed.next measured_box Line.measured_box Signed.measured_box bounding_box Signed.bounding_box line_ink Line.ink_box Signed.line_ink ink_box Signed.ink_box
    text_exact =
        let measured = each_line (measured_box m t) signed_rectangle (Signed.measured_box m (signed_text t)) (λ l q. rw (top-exact l q)) in
        let ink = each_line (line_ink m t) signed_rectangle (Signed.line_ink m (signed_text t)) (λ l q. rw (row-exact (ink_rows m t.character_style).top l q)) in
        record {
          lines = lines-exact;
          tops = each_line (line_top m t) signed (Signed.line_top m (signed_text t)) top-exact;
          characters = λ l k. sym (signed_add l.x (k * (character_width m + spacing m)));
          decorations = λ l q d. row-exact d.offset l q;
          measured_boxes = measured;
          line_inks = ink;
          next = last-exact (placed_lines m t) t.position ∙ ap (Signed.last_next m (signed_text t) (signed_point t.position)) lines-exact;
          bounding_box_lem = joined-exact (measured_box m t) (Signed.measured_box m (signed_text t)) measured;
          ink_box_lem = joined-exact (line_ink m t) (Signed.line_ink m (signed_text t)) ink;
        }

-- ---- docs/SHEET.md's marked starts: "Empty text at x = 10: right starts at 11, centre at 10", where −1 / 2 is 0 and rounding downwards would give 11;
-- "Right at 10: `AB` from 6, `AB` with 0D from 3", of measured widths 5 and 8; and a start left of the frame
starts :
    (Signed.aligned_start Right (pos 10) 0 ≡ pos 11)
    × (Signed.aligned_start Center (pos 10) 0 ≡ pos 10)
    × (Signed.aligned_start Right (pos 10) 5 ≡ pos 6)
    × (Signed.aligned_start Right (pos 10) 8 ≡ pos 3)
    × (Signed.aligned_start Center (negsuc 0) 4 ≡ negsuc 1)
unfolding Signed.aligned_start
starts = (refl, refl, refl, refl, refl)
