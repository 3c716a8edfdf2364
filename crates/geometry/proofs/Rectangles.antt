-- Laws of rectangles: `covers` as a fact, and what joins and intersections hold. Assumes nothing.
use Prim.Native.Nat.{ℕ, ◌+◌, ◌-◌, ◌≤◌, ◌<◌, min, max}
use native.Mathlib.Omega.{arith}
use mathlib.Core.Path.{◌≡◌, refl, sym, ◌∙◌}
use mathlib.Core.Bool.{Bool, true, false, cond, true≢false, and-eq-true_iff}
use mathlib.Mathlib.Data.Bool.Basic.{or-eq-false-eq-eq-false-and-eq-false}
use mathlib.Core.List.Memᴰ
use mathlib.Core.List.{List, [], ◌∷◌, map, Memᴰ}
use mathlib.Core.Logic.{◌⊎◌, inl, inr, ⊎_elim}
use lib.Dec.{eqb, leb}
use borrow.Author.Tests.{leb-true, leb-false, ltb-true, le-leb, lt-ltb, ne_eqb, eqb-false}
use Rattle.geometry.specs.declared.Rectangle.{Rectangle}
use Rattle.geometry.specs.Canvas.{EndsFit}
use Rattle.geometry.specs.Rectangle.{covers, is_empty, envelope, join, joins, intersection}

-- a place in a rectangle
pub record In (a : Rectangle) (c r : ℕ) : Type 0 where
  pub past_left : a.left ≤ c
  pub before-right : c < a.left + a.width
  pub past_top : a.top ≤ r
  pub before-foot : r < a.top + a.height

module _ (a : Rectangle) (c r : ℕ) where
  pub covers_in : covers a c r ≡ true → In a c r
  unfolding covers
  covers_in h =
      let p = (and-eq-true_iff _ _).0 h in
      let q = (and-eq-true_iff _ _).0 p.0 in
      let o = (and-eq-true_iff _ _).0 q.0 in
      record { past_left = leb-true _ _ o.0; before-right = ltb-true _ _ o.1; past_top = leb-true _ _ q.1; before-foot = ltb-true _ _ p.1 }

  pub in_covers : In a c r → covers a c r ≡ true
  unfolding covers
  in_covers h = rw (le-leb a.left c h.past_left, lt-ltb c (a.left + a.width) h.before-right, le-leb a.top r h.past_top, lt-ltb r (a.top + a.height) h.before-foot)

  pub out_covers : (In a c r → ⊥) → covers a c r ≡ false
  out_covers o = go (covers a c r) refl
    where
      go : (t : Bool) → covers a c r ≡ t → t ≡ false
      go true e = absurd (o (covers_in e))
      go false e = refl

  pub covers_out : covers a c r ≡ false → In a c r → ⊥
  covers_out e h = true≢false (sym (in_covers h) ∙ e)

  -- a place is in a rectangle, or it is not
  pub in_or_out : In a c r ⊎ (In a c r → ⊥)
  in_or_out = go (covers a c r) refl
    where
      go : (t : Bool) → covers a c r ≡ t → In a c r ⊎ (In a c r → ⊥)
      go true e = inl (covers_in e)
      go false e = inr (covers_out e)

  pub in_not_empty : In a c r → is_empty a ≡ false
  unfolding is_empty
  in_not_empty h = rw (ne_eqb a.width 0 (λ e. omega arith), ne_eqb a.height 0 (λ e. omega arith))

-- no place is in an empty rectangle
pub empty_out : (a : Rectangle) (empty : Bool) → empty ≡ is_empty a → empty ≡ true → (c r : ℕ) → In a c r → ⊥
empty_out a empty is-empty holds c r i = true≢false (sym holds ∙ is-empty ∙ in_not_empty a c r i)

pub not_empty : (a : Rectangle) → is_empty a ≡ false → (0 < a.width) × (0 < a.height)
unfolding is_empty
not_empty a h =
    let n = (or-eq-false-eq-eq-false-and-eq-false (eqb a.width 0) (eqb a.height 0)).0 h in
    omega (arith, eqb-false a.width 0 n.0, eqb-false a.height 0 n.1)

-- empty, if it cannot be otherwise
pub empty_if : (a : Rectangle) → (is_empty a ≡ false → ⊥) → is_empty a ≡ true
empty_if a h = go (is_empty a) refl
  where
    go : (t : Bool) → is_empty a ≡ t → t ≡ true
    go true e = refl
    go false e = absurd (h e)

-- a place in either of two rectangles is in their join
module _ (c r : ℕ) where
  pub join_left : (a b : Rectangle) → In a c r → In (join a b) c r
  unfolding join envelope
  join_left a b h = go (is_empty b)
    where
      go : (t : Bool) → In (cond t a (cond (is_empty a) b (envelope a b))) c r
      go true = h
      go false = rw (in_not_empty a c r h) (omega arith)

  pub join-right : (a b : Rectangle) → In b c r → In (join a b) c r
  unfolding join envelope
  join-right a b h = rw (in_not_empty b c r h) (go (is_empty a))
    where
      go : (t : Bool) → In (cond t b (envelope a b)) c r
      go true = h
      go false = omega arith

  pub joins_first : (a : Rectangle) (bs : List Rectangle) → In a c r → In (joins a bs) c r
  unfolding joins
  joins_first a [] h = h
  joins_first a (b ∷ bs) h = joins_first (join a b) bs (join_left a b h)

  -- and each of a list is in the join of them all
  pub joins_each : {A : Type 0} (f : A → Rectangle) (a : Rectangle) (xs : List A) (x : A) → Memᴰ x xs → In (f x) c r → In (joins a (map f xs)) c r
  unfolding joins
  joins_each f a [] x m h = absurd (Memᴰ.not-nil m)
  joins_each f a (y ∷ ys) x m h = ⊎_elim
      (λ e. joins_first (join a (f y)) (map f ys) (join-right a (f y) (rw e at h)))
      (λ q. joins_each f (join a (f y)) ys x q h)
      (Memᴰ.cases_cons m)

  pub intersection_in : (a b : Rectangle) → In a c r → In b c r → In (intersection a b) c r
  unfolding intersection
  intersection_in a b h k = omega arith

  pub intersection_both : (a b : Rectangle) → In (intersection a b) c r → (In a c r) × (In b c r)
  unfolding intersection
  intersection_both a b h = omega arith

-- of the n numbers from a on, those from s on
past : (a n s : ℕ) → a ≤ s → n - (s - a) ≡ a + n - s
past a n s h = omega arith

min_minus : (a b s : ℕ) → min (a - s) (b - s) ≡ min a b - s
min_minus a b s = omega arith

-- how many numbers two runs share, counted without a sum
pub shared_run : (a n b m from l r shared : ℕ) → from ≡ max a b → l ≡ n - (from - a) → r ≡ m - (from - b) → shared ≡ min l r
    → shared ≡ min (a + n) (b + m) - max a b
shared_run a n b m from l r shared ef el er es =
    es ∙ rw (el ∙ past a n from (omega arith), er ∙ past b m from (omega arith), min_minus (a + n) (b + m) from, ef)

-- rectangles made of their edges
module _ (a b : Rectangle) (l t : ℕ) where
  pub envelope_made : (r f : ℕ) → l ≡ min a.left b.left → t ≡ min a.top b.top → r ≡ max (a.left + a.width) (b.left + b.width) → f ≡ max (a.top + a.height) (b.top + b.height)
      → ◌≡◌ {A = Rectangle} (record { left = l; top = t; width = r - l; height = f - t }) (envelope a b)
  unfolding envelope
  envelope_made r f el et er ef = rw (el, et, er, ef)

  pub intersection_made : (w h : ℕ) → l ≡ max a.left b.left → t ≡ max a.top b.top → w ≡ min (a.left + a.width) (b.left + b.width) - max a.left b.left
      → h ≡ min (a.top + a.height) (b.top + b.height) - max a.top b.top → ◌≡◌ {A = Rectangle} (record { left = l; top = t; width = w; height = h }) (intersection a b)
  unfolding intersection
  intersection_made w h el et ew eh = rw (el, et, ew, eh)

-- a join, by the tests of emptiness
module _ (a b : Rectangle) (t : Bool) (et : t ≡ is_empty b) where
  pub join_second_empty : t ≡ true → a ≡ join a b
  unfolding join
  join_second_empty h = rw (← et, h)

  module _ (u : Bool) (eu : u ≡ is_empty a) (h : t ≡ false) where
    pub join_first_empty : u ≡ true → b ≡ join a b
    unfolding join
    join_first_empty k = rw (← et, h, ← eu, k)

    pub join_neither_empty : (r : Rectangle) → u ≡ false → r ≡ envelope a b → r ≡ join a b
    unfolding join
    join_neither_empty r k q = rw (← et, h, ← eu, k) q

-- what holds of two rectangles and of their envelope holds of their join
pub join_cases : (P : Rectangle → Type 0) (a b : Rectangle) → P a → P b → P (envelope a b) → P (join a b)
unfolding join
join_cases P a b pa pb pe = go (is_empty b) (is_empty a)
  where
    go : (t u : Bool) → P (cond t a (cond u b (envelope a b)))
    go true u = pa
    go false true = pb
    go false false = pe

-- what is made of two rectangles whose ends fit has ends that fit
module _ (a b : Rectangle) (fa : EndsFit a) (fb : EndsFit b) where
  pub ends_fit_envelope : EndsFit (envelope a b)
  unfolding envelope
  ends_fit_envelope = omega (arith, fa, fb)

  pub ends_fit_join : EndsFit (join a b)
  ends_fit_join = join_cases EndsFit a b fa fb ends_fit_envelope

-- ---- the join is the smallest, and its first and last rows are those of what it joins

-- a rectangle that another holds
abbrev pub Within : Rectangle → Rectangle → Type 0
Within a z = (c r : ℕ) → In a c r → In z c r

module _ (z : Rectangle) where
  -- a rectangle that holds both holds their join
  pub join-within : (a b : Rectangle) → Within a z → Within b z → Within (join a b) z
  unfolding join envelope
  join-within a b p q = go (is_empty b) refl (is_empty a) refl
    where
      go : (t : Bool) → is_empty b ≡ t → (u : Bool) → is_empty a ≡ u → Within (cond t a (cond u b (envelope a b))) z
      go true eb u ea = p
      go false eb true ea = q
      go false eb false ea = λ c r i.
          let ha = not_empty a ea in
          let hb = not_empty b eb in
          omega (arith, p a.left a.top (omega arith), p (a.left + a.width - 1) (a.top + a.height - 1) (omega arith), q b.left b.top (omega arith), q (b.left + b.width - 1) (b.top + b.height - 1) (omega arith))

  pub joins-within : {A : Type 0} (f : A → Rectangle) (a : Rectangle) (xs : List A) → Within a z → ((x : A) → Memᴰ x xs → Within (f x) z) → Within (joins a (map f xs)) z
  unfolding joins
  joins-within f a [] p q = p
  joins-within f a (x ∷ xs) p q = joins-within f (join a (f x)) xs (join-within a (f x) p (q x (Memᴰ.head refl))) (λ y m. q y (Memᴰ.tail m))

-- what lies in one rectangle shares nothing with another that the first shares nothing with
pub apart_within : (a z clip : Rectangle) → Within a z → ((c r : ℕ) → In z c r → In clip c r → ⊥) → is_empty (intersection a clip) ≡ true
unfolding intersection
apart_within a z clip h o = empty_if (intersection a clip) (λ e.
    let i : In (intersection a clip) (max a.left clip.left) (max a.top clip.top) = omega (arith, not_empty (intersection a clip) e) in
    let p = intersection_both _ _ a clip i in
    o _ _ (h _ _ p.0) p.1)

-- what holds of the first row and of the last
abbrev pub Ends : (ℕ → Type 0) → Rectangle → Type 0
Ends P a = is_empty a ≡ false → P a.top × P (a.top + a.height - 1)

ordered : (x y : ℕ) → ((min x y ≡ x) × (max x y ≡ y)) ⊎ ((min x y ≡ y) × (max x y ≡ x))
ordered x y = go (leb x y) refl
  where
    go : (t : Bool) → leb x y ≡ t → ((min x y ≡ x) × (max x y ≡ y)) ⊎ ((min x y ≡ y) × (max x y ≡ x))
    go true e = inl (omega (arith, leb-true x y e))
    go false e = inr (omega (arith, leb-false x y e))

module _ (P : ℕ → Type 0) where
  least-of : (x y : ℕ) → P x → P y → P (min x y)
  least-of x y p q = ⊎_elim (λ o. rw o.0 p) (λ o. rw o.0 q) (ordered x y)

  last_of : (x y : ℕ) → P (x - 1) → P (y - 1) → P (max x y - 1)
  last_of x y p q = ⊎_elim (λ o. rw o.1 q) (λ o. rw o.1 p) (ordered x y)

  pub join_ends : (a b : Rectangle) → Ends P a → Ends P b → Ends P (join a b)
  unfolding join envelope
  join_ends a b p q = go (is_empty b) refl (is_empty a) refl
    where
      go : (t : Bool) → is_empty b ≡ t → (u : Bool) → is_empty a ≡ u → Ends P (cond t a (cond u b (envelope a b)))
      go true eb u ea = p
      go false eb true ea = q
      go false eb false ea = λ e.
          let foot : min a.top b.top + (max (a.top + a.height) (b.top + b.height) - min a.top b.top) ≡ max (a.top + a.height) (b.top + b.height) = omega arith in
          (least-of a.top b.top (p ea).0 (q eb).0, rw foot (last_of (a.top + a.height) (b.top + b.height) (p ea).1 (q eb).1))
