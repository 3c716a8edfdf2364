-- The words of a line: the blanks that lead it, the first word after them, and the words after that; and the lines that begin with a keyword. Assumes nothing.
use Prim.Native.Nat.{ℕ, suc, ◌+◌, ◌-◌, ◌≤◌, ◌<◌}
use native.Mathlib.Omega.{arith}
use mathlib.Core.Path.{◌≡◌, refl, sym, ap, ◌∙◌}
use mathlib.Core.Bool.{Bool, true, false, cond, not, ◌&&◌}
use mathlib.Core.Logic.{◌⊎◌, inl, inr}
use mathlib.Core.List.{List, [], ◌∷◌}
use lib.ListN.{length, take, drop, drop_of_length-le, length-drop}
use lib.Seq.{drop-drop, take_all}
use lib.Dec.{eqb, ltb}
use borrow.Author.Tests.{ltb-true, ltb-false, not-true, not-false}
use lib.Pointwise.{pointwise}
use Rattle.std.specs.List.{position_or_len}
use Rattle.std.proofs.lemmas.List.Recursion.{is_position_or_len}
use Rattle.std.specs.Option.{MatchOption, is_some, unwrap_or}
use Rattle.std.specs.Prelude.{Option, Some, None}
use Rattle.characters.specs.Lines.{before}
use Rattle.bdf_lines.specs.Words.{is_blank, begins_word, words, same, is_alone, is_named, is_pair, is_comment}
use Rattle.bdf_lines.specs.Rest.{blanks, letters, word_end, is_none, after_word}

-- ---- the words of a list

-- blanks before them do not matter
after-blanks : (s : List ℕ) → words s ≡ words (drop (blanks s) s)
unfolding words blanks
after-blanks [] = refl
after-blanks (b ∷ s) = go (after-blanks s) (is_blank b) refl
  where
    go : words s ≡ words (drop (blanks s) s) → (q : Bool) → is_blank b ≡ q → words (b ∷ s) ≡ words (drop (cond q (suc (blanks s)) 0) (b ∷ s))
    go ih true e = rw e ih
    go ih false e = refl

-- a word begins after the blanks, if anything does
begins_after : (s : List ℕ) → blanks s < length s → begins_word (drop (blanks s) s) ≡ true
unfolding blanks begins_word
begins_after [] h = absurd (omega arith)
begins_after (b ∷ s) h = go (begins_after s) (is_blank b) refl h
  where
    go : (blanks s < length s → begins_word (drop (blanks s) s) ≡ true) → (q : Bool) → is_blank b ≡ q → cond q (suc (blanks s)) 0 < length (b ∷ s)
        → begins_word (drop (cond q (suc (blanks s)) 0) (b ∷ s)) ≡ true
    go ih true e l = ih (omega arith)
    go ih false e l = rw e

no_letters : (s : List ℕ) → begins_word s ≡ false → letters s ≡ 0
unfolding begins_word letters
no_letters [] e = refl
no_letters (b ∷ s) e = go (is_blank b) e
  where
    go : (q : Bool) → not q ≡ false → cond q 0 (suc (letters s)) ≡ 0
    go true f = refl
    go false f = cc

-- a word, and the words after it
pub split : (s : List ℕ) → begins_word s ≡ true → words s ≡ take (letters s) s ∷ words (drop (letters s) s)
unfolding words letters begins_word
split [] e = cc
split (b ∷ s) e = go (is_blank b) e (begins_word s) refl (split s)
  where
    go : (q : Bool) → not q ≡ true → (r : Bool) → begins_word s ≡ r → (begins_word s ≡ true → words s ≡ take (letters s) s ∷ words (drop (letters s) s))
        → cond q (words s) (cond r (before b (words s)) ((b ∷ []) ∷ words s)) ≡ take (cond q 0 (suc (letters s))) (b ∷ s) ∷ words (drop (cond q 0 (suc (letters s))) (b ∷ s))
    go true f r g ih = cc
    go false f true g ih = rw (ih g)
    go false f false g ih = rw (no_letters s g)

within_word : (s : List ℕ) → letters s ≤ length s
unfolding letters
within_word [] = omega arith
within_word (b ∷ s) = go (within_word s) (is_blank b)
  where
    go : letters s ≤ length s → (q : Bool) → cond q 0 (suc (letters s)) ≤ length (b ∷ s)
    go ih true = omega arith
    go ih false = omega arith

first_end : (l : List ℕ) → word_end l 0 ≡ blanks l + letters (drop (blanks l) l)
unfolding word_end
first_end l = let z : 0 + blanks l ≡ blanks l = omega arith in ap (λ (k : ℕ). k + letters (drop k l)) z

-- ---- `first_word`: x and y are what `position` gave

-- what `position` gives
abbrev position_of : (ℕ → Bool) → List ℕ → Option ℕ
position_of p s = cond (ltb (position_or_len p s) (length s)) (Some (position_or_len p s)) None

blanks_are : (s : List ℕ) → blanks s ≡ position_or_len (λ b. not (is_blank b)) s
unfolding blanks
blanks_are s = is_position_or_len blanks (λ b. not (is_blank b)) refl (λ b t. go (is_blank b) t) s
  where
    go : (q : Bool) (t : List ℕ) → cond q (suc (blanks t)) 0 ≡ cond (not q) 0 (1 + blanks t)
    go true t = omega arith
    go false t = refl

letters_are : (s : List ℕ) → letters s ≡ position_or_len is_blank s
unfolding letters
letters_are s = is_position_or_len letters is_blank refl (λ b t. go (is_blank b) t) s
  where
    go : (q : Bool) (t : List ℕ) → cond q 0 (suc (letters t)) ≡ cond q 0 (1 + letters t)
    go true t = refl
    go false t = omega arith

module _ (l : List ℕ) {x : Option ℕ} (e : x ≡ position_of (λ b. not (is_blank b)) l) where
  by_blanks : x ≡ cond (ltb (blanks l) (length l)) (Some (blanks l)) None
  by_blanks = rw (blanks_are l) e

  pub word_none : x ≡ None → words l ≡ []
  unfolding words
  word_none q = go (ltb (blanks l) (length l)) refl (sym by_blanks ∙ q)
    where
      go : (t : Bool) → ltb (blanks l) (length l) ≡ t → cond t (Some (blanks l)) None ≡ None → words l ≡ []
      go true h p = cc
      go false h p = after-blanks l ∙ ap words (drop_of_length-le l (ltb-false _ _ h))

  module _ {start : ℕ} (q : x ≡ Some start) where
    start_is : (start ≡ blanks l) × (blanks l < length l)
    start_is = go (ltb (blanks l) (length l)) refl (sym by_blanks ∙ q)
      where
        go : (t : Bool) → ltb (blanks l) (length l) ≡ t → cond t (Some (blanks l)) None ≡ Some start → (start ≡ blanks l) × (blanks l < length l)
        go true h p = let s : start ≡ blanks l = cc in (s, ltb-true _ _ h)
        go false h p = cc

    pub start_within : start ≤ length l
    start_within = omega (arith, start_is.0, start_is.1)

    module _ (s : List ℕ) (d : s ≡ take (length l - start) (drop start l)) {y : Option ℕ} (f : y ≡ position_of is_blank s) {end : ℕ} (g : end ≡ unwrap_or y (length s)) where
      end_is : end ≡ letters s
      end_is =
          let by_letters : y ≡ cond (ltb (letters s) (length s)) (Some (letters s)) None = rw (letters_are s) f in
          go (ltb (letters s) (length s)) refl (rw by_letters at g)
        where
          go : (t : Bool) → ltb (letters s) (length s) ≡ t → end ≡ unwrap_or (cond t (Some (letters s)) None) (length s) → end ≡ letters s
          go true h p = p
          go false h p = omega (arith, ltb-false _ _ h, within_word s)

      pub end_within : end ≤ length s
      end_within = omega (arith, end_is, within_word s)

      after_start : s ≡ drop (blanks l) l
      after_start = rw start_is.0 at (d ∙ take_all (length l - start) (drop start l) (omega (arith, length-drop start l)))

      pub word_found : (w rest : List ℕ) → w ≡ take end s → rest ≡ drop end s → words l ≡ w ∷ words rest
      word_found w rest a b =
          let begins : begins_word s ≡ true = rw after_start (begins_after l start_is.1) in
          let from : words l ≡ words s = rw after_start (after-blanks l) in
          from ∙ rw (a, b, end_is) (split s begins)

      pub word_place : (w rest : List ℕ) → w ≡ take end s → rest ≡ drop end s
          → (w ≡ take (letters (drop (blanks l) l)) (drop (blanks l) l)) × (rest ≡ drop (word_end l 0) l)
      word_place w rest a b = (rw (a, end_is, after_start), rw (b, end_is, after_start, first_end l) (drop-drop (letters (drop (blanks l) l)) (blanks l) l))

-- ---- the same word

-- what `==` says of two words
pub same_word : (s t : List ℕ) → pointwise eqb s t ≡ same s t
unfolding same
same_word [] [] = refl
same_word [] (b ∷ t) = refl
same_word (a ∷ s) [] = refl
same_word (a ∷ s) (b ∷ t) = ap (λ (r : Bool). eqb a b && r) (same_word s t)

-- ---- `is_end`, `after_word`

module _ (l : List ℕ) (at : ℕ) where
  pub none_past : (length l < at) ⊎ (length l < length l) → true ≡ is_none (words (drop at l))
  unfolding words
  none_past h = rw (drop_of_length-le l (past h))
    where
      past : (length l < at) ⊎ (length l < length l) → length l ≤ at
      past (inl h) = omega arith
      past (inr h) = omega arith

  -- s is what `get` gave, x what `first_word` gave of it, and t what `is_none` gave of that
  module _ (s : List ℕ) (d : s ≡ take (length l - at) (drop at l)) where
    from_there : s ≡ drop at l
    from_there = d ∙ take_all (length l - at) (drop at l) (omega (arith, length-drop at l))

    pub end_if : {X : Type 0} (x : Option X) (w : X → List ℕ) (vs : X → List (List ℕ)) → MatchOption x (words s ≡ []) (λ y. words s ≡ w y ∷ vs y) → (t : Bool) → is_some x ≡ not t
        → t ≡ is_none (words (drop at l))
    end_if None w vs e t f = rw (← from_there, e, not-false t (sym f))
    end_if (Some y) w vs e t f = rw (← from_there, e, not-true t (sym f))

module _ (ws : List (List ℕ)) where
  pub word_absent : ws ≡ [] → true ≡ is_none ws
  word_absent e = rw e

  pub after_none : ws ≡ [] → (k : List ℕ) → after_word k ws ≡ None
  unfolding after_word
  after_none e k = rw e

  module _ (w : List ℕ) (vs : List (List ℕ)) (e : ws ≡ w ∷ vs) where
    pub word_present : false ≡ is_none ws
    word_present = rw e

    module _ (k : List ℕ) (t : Bool) (f : t ≡ pointwise eqb w k) where
      pub after_found : t ≡ true → after_word k ws ≡ Some vs
      unfolding after_word
      after_found o = rw (e, ← same_word w k, ← f, o)

      pub after_other : t ≡ false → after_word k ws ≡ None
      unfolding after_word
      after_other o = rw (e, ← same_word w k, ← f, o)

-- ---- lines that begin with a keyword

-- g is `other` of words without the keyword k first, and of the others it is `rest` of the words after it
pub record ReadsAfter {A : Type 0} (k : List ℕ) (other : A) (rest g : List (List ℕ) → A) : Type 0 where
  pub none : g [] ≡ other
  pub first : (w : List ℕ) (ws : List (List ℕ)) → g (w ∷ ws) ≡ cond (same w k) (rest ws) other

module _ {A : Type 0} {k : List ℕ} {other : A} {rest g : List (List ℕ) → A} (r : ReadsAfter k other rest g) where
  pub first_other : (ws : List (List ℕ)) → after_word k ws ≡ None → other ≡ g ws
  unfolding after_word
  first_other [] e = sym r.none
  first_other (w ∷ ws) e = go (same w k) e ∙ sym (r.first w ws)
    where
      go : (t : Bool) → cond t (Some ws) None ≡ None → other ≡ cond t (rest ws) other
      go true p = cc
      go false p = refl

  pub first_is : (ws : List (List ℕ)) {vs : List (List ℕ)} → after_word k ws ≡ Some vs → rest vs ≡ g ws
  unfolding after_word
  first_is [] e = cc
  first_is (w ∷ ws) {vs} e = go (same w k) e ∙ sym (r.first w ws)
    where
      go : (t : Bool) → cond t (Some ws) None ≡ Some vs → rest vs ≡ cond t (rest ws) other
      go true p = cc
      go false p = cc

-- x is what `after_word` gave, and t what `is_some_and` gave, with P of what the test says
pub passes : {k : List ℕ} {rest g : List (List ℕ) → Bool} → ReadsAfter k false rest g → (ws : List (List ℕ)) {X : Type 0} (x : Option X) {v : X → List (List ℕ)}
    → MatchOption x (after_word k ws ≡ None) (λ y. after_word k ws ≡ Some (v y)) → {t : Bool} {P : X → Type 0} → MatchOption x (t ≡ false) P → ((y : X) → P y → t ≡ rest (v y)) → t ≡ g ws
passes r ws None e f h = f ∙ first_other r ws e
passes r ws (Some y) e f h = h y f ∙ first_is r ws e

pub cond_same : {A : Type 0} (t : Bool) (y : A) → y ≡ cond t y y
cond_same true y = refl
cond_same false y = refl

pub cond_and : (t u : Bool) → (t && u) ≡ cond t u false
cond_and true u = refl
cond_and false u = refl

cond_bool : (t : Bool) → t ≡ cond t true false
cond_bool true = refl
cond_bool false = refl

pub alone : (k : List ℕ) → ReadsAfter k false is_none (is_alone k)
unfolding is_alone
alone k = record { none = refl; first = go }
  where
    go : (w : List ℕ) (ws : List (List ℕ)) → is_alone k (w ∷ ws) ≡ cond (same w k) (is_none ws) false
    go w [] = cond_bool (same w k)
    go w (v ∷ ws) = cond_same (same w k) false

pub named : (k : List ℕ) → ReadsAfter k false (λ ws. not (is_none ws)) (is_named k)
unfolding is_named
named k = record { none = refl; first = go }
  where
    go : (w : List ℕ) (ws : List (List ℕ)) → is_named k (w ∷ ws) ≡ cond (same w k) (not (is_none ws)) false
    go w [] = cond_same (same w k) false
    go w (v ∷ ws) = cond_bool (same w k)

pub pair : (k v : List ℕ) → ReadsAfter k false (is_alone v) (is_pair k v)
unfolding is_pair is_alone
pair k v = record { none = refl; first = go }
  where
    go : (w : List ℕ) (ws : List (List ℕ)) → is_pair k v (w ∷ ws) ≡ cond (same w k) (is_alone v ws) false
    go w [] = cond_same (same w k) false
    go w (u ∷ []) = cond_and (same w k) (same u v)
    go w (u ∷ t ∷ ws) = cond_same (same w k) false

-- ---- `is_comment`: x is what `first_word` gave, and t what `is_none_or` gave

pub comment_if : (k : List ℕ) (ws : List (List ℕ)) {X : Type 0} (x : Option X) (w : X → List ℕ) (vs : X → List (List ℕ)) → MatchOption x (ws ≡ []) (λ y. ws ≡ w y ∷ vs y)
    → {t : Bool} {P : X → Type 0} → MatchOption x (t ≡ true) P → ((y : X) → P y → t ≡ pointwise eqb (w y) k) → t ≡ is_comment k ws
unfolding is_comment
comment_if k ws None w vs e f h = rw e f
comment_if k ws (Some y) w vs e f h = rw e (h y f ∙ same_word (w y) k)
