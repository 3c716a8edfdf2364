-- What the functions that make replies cite: a refused call's reply, and what a good one's requires. Assumes nothing.
-- Serves contracts: nothing here has to be believed.
use Rattle.std.specs.Prelude.{ℕ, ◌^◌, ◌<◌, pos, Option, None, Some, Result, Ok, Err}
use Rattle.refusals.specs.declared.Refusal.{Refusal}
use Rattle.refusals.specs.Numbers.{number}
use Rattle.geometry.specs.declared.Point.{Point}
use Rattle.geometry.specs.declared.Rectangle.{Rectangle}
use Rattle.geometry.specs.Layer.{signed}
use Rattle.calls.specs.declared.Number.{Number}
use Rattle.calls.specs.declared.Glyph.{Glyph}
use Rattle.calls.specs.declared.Position.{Position}
use Rattle.calls.specs.declared.Drawn.{Drawn}
use Rattle.calls.specs.declared.Box.{Box}
use Rattle.calls.specs.Calls.{box_reply}

-- "A refused one returns its number with zeros"

abbrev pub refused_number : ℕ → Number
refused_number code = record { code = code; value = 0 }

abbrev pub refused_glyph : ℕ → Glyph
refused_glyph code = record { code = code; index = 0; listed = 0 }

abbrev pub refused_position : ℕ → Position
refused_position code = record { code = code; x = pos 0; y = pos 0 }

abbrev pub refused_drawn : ℕ → Drawn
refused_drawn code = record { code = code; x = pos 0; y = pos 0; replaced = 0 }

abbrev pub refused_box : ℕ → Box
refused_box code = record { code = code; left = pos 0; top = pos 0; width = 0; height = 0 }

-- coordinates that fit a signed number of 32 bits

pub record PointFits (p : Point) : Type 0 where
  pub x : p.x < 2 ^ 31
  pub y : p.y < 2 ^ 31

pub record CornerFits (a : Rectangle) : Type 0 where
  pub left : a.left < 2 ^ 31
  pub top : a.top < 2 ^ 31

-- a reply by its code and a rectangle

abbrev pub box_of : ℕ → Rectangle → Box
box_of code a = record { code = code; left = signed a.left; top = signed a.top; width = a.width; height = a.height }

-- the number of a refusal, or 0 for none
abbrev pub code_of : Option Refusal → ℕ
code_of None = 0
code_of (Some r) = number r

-- the reply of an edit that may be refused
abbrev pub reply_of : Result Rectangle Refusal → Box
reply_of (Ok a) = box_reply 0 a
reply_of (Err r) = refused_box (number r)
