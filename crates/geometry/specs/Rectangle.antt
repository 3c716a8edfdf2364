-- Rectangles: what one covers, and how two make one (docs/SHEET.md, Geometry). Assumes nothing.
-- To be believed: it says what a sheet means.
use Rattle.std.specs.Prelude.{ℕ, ◌+◌, ◌-◌, min, max, Bool, cond, ◌&&◌, ◌||◌, List, [], ◌∷◌, leb, ltb, eqb}
use Rattle.geometry.specs.declared.Rectangle.{Rectangle}

abbrev pub rectangle : ℕ → ℕ → ℕ → ℕ → Rectangle
rectangle l t w h = record { left = l; top = t; width = w; height = h }

-- "covers left ≤ column < left + width, likewise rows"
unfoldable pub covers : Rectangle → ℕ → ℕ → Bool
covers a c r = leb a.left c && ltb c (a.left + a.width) && leb a.top r && ltb r (a.top + a.height)

-- "it is empty if width or height is 0"
unfoldable pub is_empty : Rectangle → Bool
is_empty a = eqb a.width 0 || eqb a.height 0

-- the smallest rectangle that holds both
unfoldable pub envelope : Rectangle → Rectangle → Rectangle
envelope a b = record {
  left = min a.left b.left;
  top = min a.top b.top;
  width = max (a.left + a.width) (b.left + b.width) - min a.left b.left;
  height = max (a.top + a.height) (b.top + b.height) - min a.top b.top;
}

-- the smallest that holds those of the two that are not empty
unfoldable pub join : Rectangle → Rectangle → Rectangle
join a b = cond (is_empty b) a (cond (is_empty a) b (envelope a b))

-- the smallest that holds those of a list that are not empty; a where all are
unfoldable pub joins : Rectangle → List Rectangle → Rectangle
joins a [] = a
joins a (b ∷ bs) = joins (join a b) bs

-- what two rectangles share
unfoldable pub intersection : Rectangle → Rectangle → Rectangle
intersection a b = record {
  left = max a.left b.left;
  top = max a.top b.top;
  width = min (a.left + a.width) (b.left + b.width) - max a.left b.left;
  height = min (a.top + a.height) (b.top + b.height) - max a.top b.top;
}
