-- Refusals: tests in a row, of which the first that fails has its number returned. Assumes nothing.
-- To be believed: it says what a sheet means.
use Rattle.std.specs.Prelude.{ℕ, zero, suc, Bool, true, false, ◌&&◌, List, [], ◌∷◌}

-- a test that must hold, with its refusal, before the rest
abbrev pub need : Bool → ℕ → ℕ → ℕ
need true n rest = rest
need false n rest = n

-- the first refusal of two; 0 is none
abbrev pub or_else : ℕ → ℕ → ℕ
or_else zero rest = rest
or_else (suc n) rest = suc n

-- all of a list of tests
abbrev pub all : List Bool → Bool
all [] = true
all (t ∷ ts) = t && all ts

-- what a call that is not refused gives, else what a refused one gives
abbrev pub unless_refused : {A : Type 0} → ℕ → A → A → A
unless_refused zero good refused = good
unless_refused (suc n) good refused = refused
