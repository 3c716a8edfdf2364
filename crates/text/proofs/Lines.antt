-- The lines of a text, with the feeds put back between them, are the text; those of a well-formed text are well-formed, and their
-- characters are the text's characters between feeds. Assumes nothing.
use Prim.Native.Nat.{ℕ}
use native.Mathlib.Omega.{arith}
use mathlib.Core.Path.{◌≡◌, refl, sym, ap, ◌∙◌}
use mathlib.Core.Bool.{Bool, true, false, cond}
use mathlib.Core.List.{List, [], ◌∷◌, ◌++◌, map}
use lib.Dec.{eqb}
use borrow.Author.Tests.{eqb-true}
use Rattle.characters.specs.Utf8.{step_at, fold_by, fold_at, chars_from, chars, well_formed}
use Rattle.characters.specs.Lines.{before, lines}
use Rattle.characters.proofs.Parts.{well_formed-lines, chars_line_feed}

-- lines with a feed after each but the last
abbrev pub joined : List (List ℕ) → List ℕ
joined [] = []
joined (l ∷ []) = l
joined (l ∷ k ∷ ls) = l ++ (0x0A ∷ joined (k ∷ ls))

-- every one of some lines is well-formed
abbrev pub WellFormed : List (List ℕ) → Type 0
WellFormed [] = Unit {0}
WellFormed (l ∷ ls) = (well_formed l ≡ true) × WellFormed ls

not_nil : (s : List ℕ) → lines s ≡ [] → ⊥
unfolding lines
not_nil [] e = let z : ◌≡◌ {A = ℕ} 0 1 = cc in omega arith
not_nil (c ∷ cs) e = go (not_nil cs) (eqb c 0x0A) (lines cs) refl e
  where
    go : (lines cs ≡ [] → ⊥) → (t : Bool) (ls : List (List ℕ)) → lines cs ≡ ls → cond t ([] ∷ ls) (before c ls) ≡ [] → ⊥
    go h true ls q e = let z : ◌≡◌ {A = ℕ} 0 1 = cc in omega arith
    go h false [] q e = h q
    go h false (l ∷ ls) q e = let z : ◌≡◌ {A = ℕ} 0 1 = cc in omega arith

pub joined_lines : (s : List ℕ) → joined (lines s) ≡ s
unfolding lines
joined_lines [] = refl
joined_lines (c ∷ cs) = go (joined_lines cs) (lines cs) (not_nil cs) refl (eqb c 0x0A) refl
  where
    go : joined (lines cs) ≡ cs → (ls : List (List ℕ)) → (lines cs ≡ [] → ⊥) → lines cs ≡ ls → (t : Bool) → eqb c 0x0A ≡ t → joined (cond t ([] ∷ ls) (before c ls)) ≡ c ∷ cs
    go ih [] h q t e = absurd (h q)
    go ih (l ∷ ls) h q true e = let f = eqb-true c 0x0A e in cc
    go ih (l ∷ []) h q false e = cc
    go ih (l ∷ k ∷ ls) h q false e = cc

chars_nil : chars [] ≡ []
unfolding chars_from fold_at fold_by step_at
chars_nil = refl

-- a text of lines that is well-formed
parts : (ls : List (List ℕ)) → well_formed (joined ls) ≡ true → WellFormed ls × (chars (joined ls) ≡ joined (map chars ls))
parts [] w = (tt, chars_nil)
parts (l ∷ []) w = ((w, tt), refl)
parts (l ∷ k ∷ ls) w =
    let p = well_formed-lines l (joined (k ∷ ls)) w in
    let q = parts (k ∷ ls) p.1 in
    ((p.0, q.0), chars_line_feed l (joined (k ∷ ls)) w ∙ ap (λ (r : List ℕ). chars l ++ (0x0A ∷ r)) q.1)

module _ (s : List ℕ) (w : well_formed s ≡ true) where
  again : well_formed (joined (lines s)) ≡ true
  again = rw (joined_lines s) w

  pub lines-well_formed : WellFormed (lines s)
  lines-well_formed = (parts (lines s) again).0

  pub lines-chars : chars s ≡ joined (map chars (lines s))
  lines-chars = ap chars (sym (joined_lines s)) ∙ (parts (lines s) again).1
