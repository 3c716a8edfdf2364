-- Laws of the first word of a line: each line that has a keyword begins with it, and is no comment. Assumes nothing.
use Prim.Native.Nat.{ℕ}
use mathlib.Core.Path.{◌≡◌, refl, sym}
use mathlib.Core.Bool.{Bool, true, false, cond, true≢false, and-eq-true_iff}
use mathlib.Core.List.{List, [], ◌∷◌}
use lib.Dec.{eqb}
use borrow.Author.Tests.{eqb-true}
use Rattle.std.specs.Prelude.{Option, Some, None}
use Rattle.bdf_lines.specs.declared.values.Number.{Number}
use Rattle.bdf_lines.specs.Words.{four, same, is_alone, is_named, is_comment, are_numbers, has_numbers, four_numbers, four_of, encoding_of, is_hex_pair}
use Rattle.bdf_lines.specs.Keywords as word
use Rattle.bdf_lines.proofs.Stands.{not_some}

-- whether the first word of a line is the keyword
pub begins : List ℕ → List (List ℕ) → Bool
begins k [] = false
begins k (w ∷ ws) = same w k

same_is : (w k : List ℕ) → same w k ≡ true → w ≡ k
unfolding same
same_is [] [] e = refl
same_is [] (b ∷ k) e = absurd (true≢false (sym e))
same_is (a ∷ w) [] e = absurd (true≢false (sym e))
same_is (a ∷ w) (b ∷ k) e =
    let c = (and-eq-true_iff (eqb a b) (same w k)).0 e in
    rw (eqb-true a b c.0, same_is w k c.1)

-- a line that begins with another keyword is no comment
pub no_comment : (k : List ℕ) (ws : List (List ℕ)) → same k word.comment ≡ false → begins k ws ≡ true → is_comment word.comment ws ≡ false
unfolding begins is_comment
no_comment k [] o e = absurd (true≢false (sym e))
no_comment k (w ∷ ws) o e = rw (same_is w k e) o

module _ (k : List ℕ) where
  pub named_begins : (ws : List (List ℕ)) → is_named k ws ≡ true → begins k ws ≡ true
  unfolding is_named begins
  named_begins [] e = e
  named_begins (w ∷ []) e = absurd (true≢false (sym e))
  named_begins (w ∷ v ∷ ws) e = e

  pub alone_begins : (ws : List (List ℕ)) → is_alone k ws ≡ true → begins k ws ≡ true
  unfolding is_alone begins
  alone_begins [] e = e
  alone_begins (w ∷ []) e = e
  alone_begins (w ∷ v ∷ ws) e = absurd (true≢false (sym e))

  pub numbers_begin : (n : ℕ) (ws : List (List ℕ)) → has_numbers k n ws ≡ true → begins k ws ≡ true
  unfolding has_numbers begins
  numbers_begin n [] e = e
  numbers_begin n (w ∷ ws) e = ((and-eq-true_iff (same w k) (are_numbers n ws)).0 e).0

  pub four_begins : (a b c d : Number) (ws : List (List ℕ)) → four_of k ws ≡ Some (four a b c d) → begins k ws ≡ true
  unfolding four_of begins
  four_begins a b c d [] e = absurd (not_some _ e)
  four_begins a b c d (w ∷ ws) e = go (same w k) e
    where
      go : (t : Bool) → cond t (four_numbers ws) None ≡ Some (four a b c d) → t ≡ true
      go true q = refl
      go false q = absurd (not_some _ q)

  pub encoding_begins : (n : Number) (ws : List (List ℕ)) → encoding_of k ws ≡ Some n → begins k ws ≡ true
  unfolding encoding_of begins
  encoding_begins n ws e = go ws e
    where
      chosen : (t : Bool) (x : Option Number) → cond t x None ≡ Some n → t ≡ true
      chosen true x q = refl
      chosen false x q = absurd (not_some _ q)

      go : (ws : List (List ℕ)) → encoding_of k ws ≡ Some n → begins k ws ≡ true
      go [] q = absurd (not_some _ q)
      go (w ∷ []) q = absurd (not_some _ q)
      go (w ∷ v ∷ []) q = chosen (same w k) _ q
      go (w ∷ v ∷ u ∷ []) q = chosen (same w k) _ q
      go (w ∷ v ∷ u ∷ x ∷ ws) q = absurd (not_some _ q)

-- one word is no pair
pub alone_no_pair : (k h : List ℕ) (ws : List (List ℕ)) → is_alone k ws ≡ true → is_hex_pair h ws ≡ false
unfolding is_alone is_hex_pair
alone_no_pair k h [] e = refl
alone_no_pair k h (w ∷ []) e = refl
alone_no_pair k h (w ∷ v ∷ ws) e = absurd (true≢false (sym e))
