-- Laws of lines that have numbers, which the functions read word by word. Assumes nothing.
use Prim.Native.Nat.{ℕ, zero, suc, ◌+◌, ◌-◌, ◌≤◌, ◌<◌}
use native.Mathlib.Omega.{arith}
use mathlib.Core.Path.{◌≡◌, refl, ◌∙◌}
use mathlib.Core.Bool.{Bool, true, false, not, cond, ◌&&◌, ◌||◌, and-true, and-false}
use mathlib.Core.List.{List, [], ◌∷◌}
use lib.ListN.{length}
use lib.Dec.{eqb}
use borrow.Author.Tests.{eq-eqb, ne_eqb, not-true, not-false}
use Rattle.std.specs.Option.{is_some}
use Rattle.std.specs.Prelude.{Option, Some, None}
use Rattle.std.proofs.lemmas.Option.{some_pair_parts}
use Rattle.bdf_lines.specs.declared.values.Four.{Four}
use Rattle.bdf_lines.specs.declared.values.Number.{Number}
use Rattle.bdf_lines.specs.Words.{four, same, number_of, is_value, are_numbers, has_numbers, as_count, count_of, all_four, four_numbers, four_of, minus_one, encoding_of, are_hex, is_hex_pair}
use Rattle.bdf_lines.specs.Rest.{is_none, after_word, number_before, first_number, hex_of}
use Rattle.bdf_lines.proofs.Rest.{ReadsAfter, first_other, first_is, cond_same, cond_and}
use Rattle.bdf_lines.proofs.Numbers.{hex_of_wrong, hex_of_bits}

-- ---- `first_number`

module _ (ws : List (List ℕ)) where
  pub number_none : ws ≡ [] → first_number ws ≡ None
  unfolding first_number
  number_none e = rw e

  -- r is what `number_of` gave of the first word
  module _ (w : List ℕ) (vs : List (List ℕ)) (e : ws ≡ w ∷ vs) (r : Option Number) (f : r ≡ number_of w) where
    pub number_wrong : r ≡ None → first_number ws ≡ None
    unfolding first_number
    number_wrong q = rw (e, ← f, q)

    pub number_found : {n : Number} → r ≡ Some n → first_number ws ≡ Some (n, vs)
    unfolding first_number
    number_found q = rw (e, ← f, q)

-- ---- words that are numbers

-- what a number gives
abbrev on_read : {A : Type 0} → A → (Number → A) → Option Number → A
on_read other after (Some n) = after n
on_read other after None = other

-- what a number and the words after it give, if the first word is one
abbrev if_number : {A : Type 0} → A → (Number → List (List ℕ) → A) → List (List ℕ) → A
if_number other after [] = other
if_number other after (w ∷ ws) = on_read other (λ n. after n ws) (number_of w)

module _ {A : Type 0} (other : A) (after : Number → List (List ℕ) → A) where
  number-other : (ws : List (List ℕ)) → first_number ws ≡ None → other ≡ if_number other after ws
  unfolding first_number
  number-other [] e = refl
  number-other (w ∷ ws) e = go (number_of w) e
    where
      go : (r : Option Number) → number_before r ws ≡ None → other ≡ on_read other (λ n. after n ws) r
      go (Some n) p = cc
      go None p = refl

  number_is : (ws : List (List ℕ)) {n : Number} {vs : List (List ℕ)} → first_number ws ≡ Some (n, vs) → after n vs ≡ if_number other after ws
  unfolding first_number
  number_is [] e = cc
  number_is (w ∷ ws) {n} {vs} e = go (number_of w) e
    where
      go : (r : Option Number) → number_before r ws ≡ Some (n, vs) → after n vs ≡ on_read other (λ m. after m ws) r
      go (Some m) p =
          let e = some_pair_parts m n ws vs p in
          rw (e.0, e.1)
      go None p = cc

-- what comes to the same in each case
read_same : {A : Type 0} {other : A} {after : Number → A} (r : Option Number) → ((n : Number) → after n ≡ other) → on_read other after r ≡ other
read_same (Some n) h = h n
read_same None h = refl

-- ---- `has_numbers`

has_numbers_lem : (k : List ℕ) (n : ℕ) → ReadsAfter k false (are_numbers n) (has_numbers k n)
unfolding has_numbers
has_numbers_lem k n = record { none = refl; first = λ w ws. cond_and (same w k) (are_numbers n ws) }

are_numbers_lem : (left : ℕ) → 0 < left → (ws : List (List ℕ)) → if_number false (λ n. are_numbers (left - 1)) ws ≡ are_numbers left ws
unfolding are_numbers
are_numbers_lem zero h ws = absurd (omega arith)
are_numbers_lem (suc left) h [] = refl
are_numbers_lem (suc left) h (w ∷ ws) = let e : suc left - 1 ≡ left = omega arith in rw e (go (number_of w))
  where
    go : (r : Option Number) → on_read false (λ n. are_numbers left ws) r ≡ (is_value r && are_numbers left ws)
    go (Some n) = refl
    go None = refl

no_numbers : (left : ℕ) → left ≤ 0 → (ws : List (List ℕ)) → is_none ws ≡ are_numbers left ws
unfolding are_numbers
no_numbers zero h [] = refl
no_numbers zero h (w ∷ ws) = refl
no_numbers (suc left) h ws = absurd (omega arith)

module _ (k : List ℕ) (ws : List (List ℕ)) (n : ℕ) where
  pub numbers_other : after_word k ws ≡ None → false ≡ has_numbers k n ws
  numbers_other = first_other (has_numbers_lem k n) ws

  pub numbers-start : {vs : List (List ℕ)} → after_word k ws ≡ Some vs → are_numbers (n - 0) vs ≡ has_numbers k n ws
  numbers-start q = let z : n - 0 ≡ n = omega arith in rw z (first_is (has_numbers_lem k n) ws q)

  -- turn i at the words vs
  module _ (vs : List (List ℕ)) (i : ℕ) (inv : are_numbers (n - i) vs ≡ has_numbers k n ws) where
    module _ (h : i < n) where
      by_first : if_number false (λ m. are_numbers (n - (i + 1))) vs ≡ has_numbers k n ws
      by_first = let q : n - (i + 1) ≡ n - i - 1 = omega arith in rw q (are_numbers_lem (n - i) (omega arith) vs ∙ inv)

      pub numbers_wrong : first_number vs ≡ None → false ≡ has_numbers k n ws
      numbers_wrong q = number-other false (λ m. are_numbers (n - (i + 1))) vs q ∙ by_first

      pub numbers_again : {m : Number} {us : List (List ℕ)} → first_number vs ≡ Some (m, us) → are_numbers (n - (i + 1)) us ≡ has_numbers k n ws
      numbers_again q = number_is false (λ m. are_numbers (n - (i + 1))) vs q ∙ by_first

    pub numbers_end : n ≤ i → (t : Bool) → t ≡ is_none vs → t ≡ has_numbers k n ws
    numbers_end h t d = d ∙ no_numbers (n - i) (omega arith) vs ∙ inv

-- ---- `count_of`

-- a count and no more
abbrev count_after : Number → List (List ℕ) → Option ℕ
count_after n ws = cond (is_none ws) (as_count (Some n)) None

as_count_lem : (r : Option Number) → on_read None (λ n. as_count (Some n)) r ≡ as_count r
as_count_lem (Some n) = refl
as_count_lem None = refl

count_of_lem : (k : List ℕ) → ReadsAfter k None (if_number None count_after) (count_of k)
unfolding count_of
count_of_lem k = record { none = refl; first = go }
  where
    go : (w : List ℕ) (ws : List (List ℕ)) → count_of k (w ∷ ws) ≡ cond (same w k) (if_number None count_after ws) None
    go w [] = cond_same (same w k) _
    go w (v ∷ []) = rw (as_count_lem (number_of v))
    go w (v ∷ u ∷ ws) = rw (read_same {A = Option ℕ} {other = None} (number_of v) (λ n. refl)) (cond_same (same w k) _)

module _ (k : List ℕ) (ws : List (List ℕ)) where
  pub count_other : after_word k ws ≡ None → None ≡ count_of k ws
  count_other = first_other (count_of_lem k) ws

  module _ {vs : List (List ℕ)} (q : after_word k ws ≡ Some vs) where
    pub count_wrong : first_number vs ≡ None → None ≡ count_of k ws
    count_wrong p = number-other None count_after vs p ∙ first_is (count_of_lem k) ws q

    -- t is what `is_end` gave
    module _ {n : Number} {us : List (List ℕ)} (p : first_number vs ≡ Some (n, us)) (t : Bool) (d : t ≡ is_none us) where
      count_by : cond t (as_count (Some n)) None ≡ count_of k ws
      count_by = rw d (number_is None count_after vs p) ∙ first_is (count_of_lem k) ws q

      pub count_not : (n.negative || not t) ≡ true → None ≡ count_of k ws
      count_not o = go n.negative t o ∙ count_by
        where
          go : (m u : Bool) → (m || not u) ≡ true → None ≡ cond u (cond m None (Some n.size)) None
          go true true f = refl
          go true false f = refl
          go false true f = cc
          go false false f = refl

      pub count_is : (n.negative || not t) ≡ false → Some n.size ≡ count_of k ws
      count_is o = go n.negative t o ∙ count_by
        where
          go : (m u : Bool) → (m || not u) ≡ false → Some n.size ≡ cond u (cond m None (Some n.size)) None
          go true u f = cc
          go false true f = refl
          go false false f = cc

-- ---- `four_numbers`

-- what comes after d, after c, after b and after a
abbrev four_end : Number → Number → Number → Number → List (List ℕ) → Option Four
four_end a b c d ws = cond (is_none ws) (Some (four a b c d)) None

abbrev four_fourth : Number → Number → Number → List (List ℕ) → Option Four
four_fourth a b c = if_number None (four_end a b c)

abbrev four_third : Number → Number → List (List ℕ) → Option Four
four_third a b = if_number None (four_fourth a b)

abbrev four_second : Number → List (List ℕ) → Option Four
four_second a = if_number None (four_third a)

all-four : (p q r s : Option Number)
    → on_read None (λ a. on_read None (λ b. on_read None (λ c. on_read None (λ d. Some (four a b c d)) s) r) q) p ≡ all_four p q r s
all-four (Some a) (Some b) (Some c) (Some d) = refl
all-four (Some a) (Some b) (Some c) None = refl
all-four (Some a) (Some b) None s = refl
all-four (Some a) None r s = refl
all-four None q r s = refl

four-numbers : (ws : List (List ℕ)) → if_number None four_second ws ≡ four_numbers ws
unfolding four_numbers
four-numbers [] = refl
four-numbers (w ∷ []) = read_same (number_of w) (λ a. refl)
four-numbers (w ∷ v ∷ []) = read_same (number_of w) (λ a. read_same (number_of v) (λ b. refl))
four-numbers (w ∷ v ∷ u ∷ []) = read_same (number_of w) (λ a. read_same (number_of v) (λ b. read_same (number_of u) (λ c. refl)))
four-numbers (w ∷ v ∷ u ∷ x ∷ []) = all-four (number_of w) (number_of v) (number_of u) (number_of x)
four-numbers (w ∷ v ∷ u ∷ x ∷ y ∷ ws) =
    read_same (number_of w) (λ a. read_same (number_of v) (λ b. read_same (number_of u) (λ c. read_same (number_of x) (λ d. refl))))

module _ (ws : List (List ℕ)) where
  pub four_wrong_first : first_number ws ≡ None → None ≡ four_numbers ws
  four_wrong_first p = number-other None four_second ws p ∙ four-numbers ws

  module _ {a : Number} {ws₁ : List (List ℕ)} (q₁ : first_number ws ≡ Some (a, ws₁)) where
    from_second : four_second a ws₁ ≡ four_numbers ws
    from_second = number_is None four_second ws q₁ ∙ four-numbers ws

    pub four_wrong_second : first_number ws₁ ≡ None → None ≡ four_numbers ws
    four_wrong_second p = number-other None (four_third a) ws₁ p ∙ from_second

    module _ {b : Number} {ws₂ : List (List ℕ)} (q₂ : first_number ws₁ ≡ Some (b, ws₂)) where
      from-third : four_third a b ws₂ ≡ four_numbers ws
      from-third = number_is None (four_third a) ws₁ q₂ ∙ from_second

      pub four_wrong_third : first_number ws₂ ≡ None → None ≡ four_numbers ws
      four_wrong_third p = number-other None (four_fourth a b) ws₂ p ∙ from-third

      module _ {c : Number} {ws₃ : List (List ℕ)} (q₃ : first_number ws₂ ≡ Some (c, ws₃)) where
        from-fourth : four_fourth a b c ws₃ ≡ four_numbers ws
        from-fourth = number_is None (four_fourth a b) ws₂ q₃ ∙ from-third

        pub four_wrong_fourth : first_number ws₃ ≡ None → None ≡ four_numbers ws
        four_wrong_fourth p = number-other None (four_end a b c) ws₃ p ∙ from-fourth

        module _ {d : Number} {ws₄ : List (List ℕ)} (q₄ : first_number ws₃ ≡ Some (d, ws₄)) where
          -- t is what `is_end` gave
          module _ (t : Bool) (f : t ≡ is_none ws₄) where
            from_end : cond t (Some (four a b c d)) None ≡ four_numbers ws
            from_end = rw f (number_is None (four_end a b c) ws₃ q₄) ∙ from-fourth

            pub four_is : not t ≡ false → Some (four a b c d) ≡ four_numbers ws
            four_is o = rw (not-false t o) at from_end

            pub four_more : not t ≡ true → None ≡ four_numbers ws
            four_more o = rw (not-true t o) at from_end

-- ---- `four_of`

four_of_lem : (k : List ℕ) → ReadsAfter k None four_numbers (four_of k)
unfolding four_of
four_of_lem k = record { none = refl; first = λ w ws. refl }

module _ (k : List ℕ) (ws : List (List ℕ)) where
  pub four_other : after_word k ws ≡ None → None ≡ four_of k ws
  four_other = first_other (four_of_lem k) ws

  pub four-after : {vs : List (List ℕ)} → after_word k ws ≡ Some vs → (r : Option Four) → r ≡ four_numbers vs → r ≡ four_of k ws
  four-after q r p = p ∙ first_is (four_of_lem k) ws q

-- ---- `encoding_of`

-- what comes after a second number, and after the first
abbrev encoding_end : Number → Number → List (List ℕ) → Option Number
encoding_end n m ws = cond (is_none ws) (cond (n.negative && eqb n.size 1) (Some n) None) None

abbrev encoding_after : Number → List (List ℕ) → Option Number
encoding_after n ws = cond (is_none ws) (Some n) (if_number None (encoding_end n) ws)

one_number : (r : Option Number) → on_read None Some r ≡ r
one_number (Some n) = refl
one_number None = refl

two-numbers : (r s : Option Number) → on_read None (λ n. on_read None (λ m. cond (n.negative && eqb n.size 1) (Some n) None) s) r ≡ minus_one r s
two-numbers (Some n) (Some m) = rw (and-true (eqb n.size 1))
two-numbers (Some n) None = rw (and-false (eqb n.size 1), and-false n.negative)
two-numbers None s = refl

encoding_of_lem : (k : List ℕ) → ReadsAfter k None (if_number None encoding_after) (encoding_of k)
unfolding encoding_of
encoding_of_lem k = record { none = refl; first = go }
  where
    go : (w : List ℕ) (ws : List (List ℕ)) → encoding_of k (w ∷ ws) ≡ cond (same w k) (if_number None encoding_after ws) None
    go w [] = cond_same (same w k) _
    go w (v ∷ []) = rw (one_number (number_of v))
    go w (v ∷ u ∷ []) = rw (two-numbers (number_of v) (number_of u))
    go w (v ∷ u ∷ x ∷ ws) = rw (read_same {A = Option Number} {other = None} (number_of v) (λ n. read_same (number_of u) (λ m. refl))) (cond_same (same w k) _)

module _ (k : List ℕ) (ws : List (List ℕ)) where
  pub encoding_other : after_word k ws ≡ None → None ≡ encoding_of k ws
  encoding_other = first_other (encoding_of_lem k) ws

  module _ {vs : List (List ℕ)} (q : after_word k ws ≡ Some vs) where
    pub encoding_wrong : first_number vs ≡ None → None ≡ encoding_of k ws
    encoding_wrong p = number-other None encoding_after vs p ∙ first_is (encoding_of_lem k) ws q

    -- t is what `is_end` gave
    module _ {n : Number} {us : List (List ℕ)} (p : first_number vs ≡ Some (n, us)) (t : Bool) (d : t ≡ is_none us) where
      after_first : cond t (Some n) (if_number None (encoding_end n) us) ≡ encoding_of k ws
      after_first = rw d (number_is None encoding_after vs p) ∙ first_is (encoding_of_lem k) ws q

      pub encoding_one : t ≡ true → Some n ≡ encoding_of k ws
      encoding_one o = rw o at after_first

      module _ (o : t ≡ false) where
        after-second : if_number None (encoding_end n) us ≡ encoding_of k ws
        after-second = rw o at after_first

        pub encoding_wrong_second : first_number us ≡ None → None ≡ encoding_of k ws
        encoding_wrong_second b = number-other None (encoding_end n) us b ∙ after-second

        module _ {m : Number} {ts : List (List ℕ)} (b : first_number us ≡ Some (m, ts)) (u : Bool) (h : u ≡ is_none ts) where
          by_sign : cond u (cond (n.negative && eqb n.size 1) (Some n) None) None ≡ encoding_of k ws
          by_sign = rw h (number_is None (encoding_end n) us b) ∙ after-second

          pub encoding-two : (u && n.negative && eqb n.size 1) ≡ true → Some n ≡ encoding_of k ws
          encoding-two c = go u n.negative (eqb n.size 1) c ∙ by_sign
            where
              go : (u v w : Bool) → (u && v && w) ≡ true → Some n ≡ cond u (cond (v && w) (Some n) None) None
              go true true true e = refl
              go true true false e = cc
              go true false w e = cc
              go false v w e = cc

          pub encoding-not : (u && n.negative && eqb n.size 1) ≡ false → None ≡ encoding_of k ws
          encoding-not c = go u n.negative (eqb n.size 1) c ∙ by_sign
            where
              go : (u v w : Bool) → (u && v && w) ≡ false → None ≡ cond u (cond (v && w) (Some n) None) None
              go true true true e = cc
              go true true false e = refl
              go true false w e = refl
              go false v w e = refl

-- ---- `is_attributes`

-- four hexadecimal digits and no more
hex_alone : List (List ℕ) → Bool
hex_alone [] = false
hex_alone (v ∷ ws) = cond (is_none ws) (eqb (length v) 4 && are_hex v) false

hex_pair : (k : List ℕ) → ReadsAfter k false hex_alone (is_hex_pair k)
unfolding is_hex_pair hex_alone
hex_pair k = record { none = refl; first = go }
  where
    go : (w : List ℕ) (ws : List (List ℕ)) → is_hex_pair k (w ∷ ws) ≡ cond (same w k) (hex_alone ws) false
    go w [] = cond_same (same w k) _
    go w (v ∷ []) = cond_and (same w k) (eqb (length v) 4 && are_hex v)
    go w (v ∷ u ∷ ws) = cond_same (same w k) _

module _ (k : List ℕ) (ws : List (List ℕ)) where
  pub attributes_other : after_word k ws ≡ None → false ≡ is_hex_pair k ws
  attributes_other = first_other (hex_pair k) ws

  module _ {vs : List (List ℕ)} (q : after_word k ws ≡ Some vs) where
    pub attributes_end : vs ≡ [] → false ≡ is_hex_pair k ws
    unfolding hex_alone
    attributes_end e = rw e at (first_is (hex_pair k) ws q)

    module _ (w : List ℕ) (us : List (List ℕ)) (e : vs ≡ w ∷ us) where
      by_word : cond (is_none us) (eqb (length w) 4 && are_hex w) false ≡ is_hex_pair k ws
      unfolding hex_alone
      by_word = rw e at (first_is (hex_pair k) ws q)

      pub attributes-length : (length w ≡ 4 → ⊥) → false ≡ is_hex_pair k ws
      attributes-length n = cond_same (is_none us) false ∙ rw (ne_eqb (length w) 4 n) at by_word

      -- t is what `is_end` gave, and y what `hexadecimal` gave
      pub attributes_if : length w ≡ 4 → (t : Bool) → t ≡ is_none us → (y : Option ℕ) → y ≡ hex_of w → (r : Bool) → r ≡ is_some y → (t && r) ≡ is_hex_pair k ws
      attributes_if h t d y c r p = rw (d, p) (go y refl ∙ rw (eq-eqb (length w) 4 h) at by_word)
        where
          go : (z : Option ℕ) → y ≡ z → (is_none us && is_some y) ≡ cond (is_none us) (are_hex w) false
          go None f = rw (f, hex_of_wrong w c f) (cond_and (is_none us) false)
          go (Some v) f = rw (f, hex_of_bits w c f) (cond_and (is_none us) true)
