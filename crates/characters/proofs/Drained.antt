-- What an iterator over characters gave up to its end is what was left. Assumes nothing.
use mathlib.Core.Path.{◌≡◌, ap, ◌∙◌}
use mathlib.Core.List.{List, [], ◌∷◌}
use Prim.Native.Nat.{ℕ}
use Rattle.std.specs.Iterator.{Yields, Drains, YieldsFirst}
use Rattle.characters.specs.declared.Characters.{Characters}
use Rattle.characters.specs.Characters.{chars_left}

given : (xs : List ℕ) (s t : Characters) → Yields (YieldsFirst chars_left) s xs t → chars_left t ≡ [] → chars_left s ≡ xs
given [] s t e h = ap chars_left e ∙ h
given (x ∷ xs) s t (j, e, y) h = e ∙ ap (λ l. x ∷ l) (given xs j t y h)

pub drained : (xs : List ℕ) (s : Characters) → Drains (YieldsFirst chars_left) s xs → chars_left s ≡ xs
drained xs s (u, (t, y, e)) = given xs s t y e.0
