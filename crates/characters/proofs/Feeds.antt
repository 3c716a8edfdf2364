-- The lines of a text, found one by one between two line feeds, a line without its return, and a text of one line. Assumes nothing.
use Prim.Native.Nat.{ℕ, zero, suc, ◌+◌, ◌-◌, ◌≤◌, ◌<◌}
use native.Mathlib.Omega.{arith}
use native.Mathlib.Decide.{dec_lt}
use native.Mathlib.Numerals.{add-one}
use mathlib.Core.Path.{◌≡◌, refl, sym, ap, ◌∙◌}
use mathlib.Core.Bool.{Bool, true, false, cond}
use mathlib.Core.List.{List, [], ◌∷◌, ◌++◌}
use lib.ListN.{length, take, drop, get_or, drop_of_length-le, length-take, length-drop}
use lib.Seq.{drop-cons, drop-drop, length-take-le}
use lib.Dec.{eqb, ltb}
use borrow.Author.Tests.{eq-eqb, ne_eqb, lt-ltb, le-ltb}
use Rattle.std.specs.Prelude.{Option, Some, None, unwrap_or}
use Rattle.std.specs.List.{position_or_len}
use Rattle.std.proofs.lemmas.List.Recursion.{is_position_or_len}
use Rattle.characters.specs.Lines.{before, lines, without_return, OneLine, line_length, line_from}

-- ---- `line_length`

-- a position found, or else the length, is the first position that passes, or the length
pub or_length : (n l v : ℕ) (r : Option ℕ) → n ≤ l → r ≡ cond (ltb n l) (Some n) None → v ≡ unwrap_or r l → v ≡ n
or_length n l v r h e f = elim (dec_lt n l) [
  | yes k ↦ f ∙ rw (e, lt-ltb n l k)
  | no k ↦ f ∙ rw (e, le-ltb n l (omega arith)) (omega arith)
]

-- the first line ends at the first line feed
pub first_feed : (t : List ℕ) → line_length t ≡ position_or_len (λ b. eqb b 0x0A) t
unfolding line_length
first_feed = is_position_or_len line_length (λ b. eqb b 0x0A) refl (λ x xs. let e : suc (line_length xs) ≡ 1 + line_length xs = omega arith in ap (λ (n : ℕ). cond (eqb x 0x0A) 0 n) e)

-- ---- a line, and the lines after it

pub length_to_feed : (t : List ℕ) → line_length t ≤ length t
unfolding line_length
length_to_feed [] = omega arith
length_to_feed (c ∷ cs) = go (length_to_feed cs) (eqb c 0x0A)
  where
    go : line_length cs ≤ length cs → (b : Bool) → cond b 0 (suc (line_length cs)) ≤ length (c ∷ cs)
    go ih true = omega arith
    go ih false = omega arith

-- the lines after a line: none without a feed
pub after : List ℕ → List (List ℕ)
after [] = []
after (c ∷ cs) = lines cs

split : (t : List ℕ) → lines t ≡ take (line_length t) t ∷ after (drop (line_length t) t)
unfolding lines line_length after
split [] = refl
split (c ∷ cs) = go (split cs) (eqb c 0x0A)
  where
    go : lines cs ≡ take (line_length cs) cs ∷ after (drop (line_length cs) cs) → (b : Bool)
        → cond b ([] ∷ lines cs) (before c (lines cs)) ≡ take (cond b 0 (suc (line_length cs))) (c ∷ cs) ∷ after (drop (cond b 0 (suc (line_length cs))) (c ∷ cs))
    go ih true = refl
    go ih false = rw ih

-- a text has a first line
pub lines_first : (t : List ℕ) → lines t ≡ line_from t 0 ∷ after (drop (line_length t) t)
unfolding line_from
lines_first t = split t

-- the line from `from` to `end`
pub line_part : (text : List ℕ) (from end : ℕ) → end ≡ from + line_length (drop from text) → take (end - from) (drop from text) ≡ line_from text from
unfolding line_from
line_part text from end e = let q : end - from ≡ line_length (drop from text) = omega arith in rw q

module _ (text : List ℕ) (from end : ℕ) (reach : from ≤ length text) (e : end ≡ from + line_length (drop from text)) where
  pub end_reach : end ≤ length text
  end_reach = omega (arith, length_to_feed (drop from text), length-drop from text)

  split_at : lines (drop from text) ≡ line_from text from ∷ after (drop end text)
  unfolding line_from
  split_at = rw (split (drop from text), drop-drop (line_length (drop from text)) from text, ← e)

  pub lines_last : length text ≤ end → lines (drop from text) ≡ line_from text from ∷ []
  unfolding after
  lines_last h = split_at ∙ ap (λ (l : List ℕ). line_from text from ∷ after l) (drop_of_length-le text h)

  pub lines_more : end < length text → lines (drop from text) ≡ line_from text from ∷ lines (drop (end + 1) text)
  unfolding after
  lines_more h = split_at ∙ ap (λ (l : List ℕ). line_from text from ∷ after l) (drop-cons text end 0 h) ∙ ap (λ (n : ℕ). line_from text from ∷ lines (drop n text)) (sym (add-one end))

  pub line_less : end < length text → length text - (end + 1) < length text - from
  line_less h = omega arith

-- a line is as long as it is from its start to its end
pub length-line_from : (text : List ℕ) (from : ℕ) → length (line_from text from) ≡ line_length (drop from text)
unfolding line_from
length-line_from text from = length-take-le (line_length (drop from text)) (drop from text) (length_to_feed (drop from text))

pub end_of_line : (text line : List ℕ) (from : ℕ) → line ≡ line_from text from → from + length line ≡ from + line_length (drop from text)
end_of_line text line from e = ap (λ (n : ℕ). from + n) (ap length e ∙ length-line_from text from)

-- ---- `without_return`

pub return_none : (l : List ℕ) → length l ≡ 0 → l ≡ without_return l
unfolding without_return
return_none [] h = refl
return_none (c ∷ cs) h = absurd (omega arith)

pub return_dropped : (l : List ℕ) → get_or l (length l - 1) 0 ≡ 0x0D → take (length l - 1) l ≡ without_return l
unfolding without_return
return_dropped l e = rw (eq-eqb (get_or l (length l - 1) 0) 0x0D e)

pub return_absent : (l : List ℕ) → (get_or l (length l - 1) 0 ≡ 0x0D → ⊥) → l ≡ without_return l
unfolding without_return
return_absent l e = rw (ne_eqb (get_or l (length l - 1) 0) 0x0D e)

pub length-without_return : (l : List ℕ) → length (without_return l) ≤ length l
unfolding without_return
length-without_return l = go (eqb (get_or l (length l - 1) 0) 0x0D)
  where
    go : (t : Bool) → length (cond t (take (length l - 1) l) l) ≤ length l
    go true = simp length-take (omega arith)
    go false = omega arith

-- ---- a text without feeds and returns

no_feed_lines : (t : List ℕ) → ((k : ℕ) → get_or t k 0 ≡ 0x0A → ⊥) → lines t ≡ t ∷ []
unfolding lines
no_feed_lines [] h = refl
no_feed_lines (c ∷ cs) h = rw (ne_eqb c 0x0A (h 0), no_feed_lines cs (λ k. h (suc k)))

module _ (t : List ℕ) (o : OneLine t) where
  pub one_line : lines t ≡ t ∷ []
  one_line = no_feed_lines t o.no_feed

  pub nothing_dropped : without_return t ≡ t
  nothing_dropped = sym (return_absent t (o.no_return (length t - 1)))

-- a byte that neither of two texts has, they have not together
absent_append : (b : ℕ) (t u : List ℕ) → ((k : ℕ) → get_or t k 0 ≡ b → ⊥) → ((k : ℕ) → get_or u k 0 ≡ b → ⊥) → (k : ℕ) → get_or (t ++ u) k 0 ≡ b → ⊥
absent_append b [] u p q k = q k
absent_append b (c ∷ cs) u p q zero = p 0
absent_append b (c ∷ cs) u p q (suc k) = absent_append b cs u (λ j. p (suc j)) q k

pub one_line_append : (t u : List ℕ) → OneLine t → OneLine u → OneLine (t ++ u)
one_line_append t u o p = record { no_feed = absent_append 0x0A t u o.no_feed p.no_feed; no_return = absent_append 0x0D t u o.no_return p.no_return }
