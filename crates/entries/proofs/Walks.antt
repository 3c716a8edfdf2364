-- Laws of entries: what an entry at the head of a list tells, and the walk over a list entry by entry. Assumes nothing.
use Prim.Native.Nat.{ℕ, zero, suc, ◌+◌, ◌-◌, ◌*◌, ◌≤◌, ◌<◌}
use native.Mathlib.Omega.{arith}
use mathlib.Core.Path.{◌≡◌, refl, sym, ap, ◌∙◌}
use mathlib.Core.Bool.{Bool, true, false, cond, true≢false, and-eq-true_iff}
use mathlib.Core.List.{List, [], ◌∷◌}
use lib.Dec.{leb, eqb}
use lib.ListN.{length, get_or, take, drop, length-drop}
use lib.Seq.{drop-drop, get_or-drop}
use Rattle.std.proofs.lemmas.List.{get_or-take}
use Rattle.std.proofs.Common.{lit<}
use borrow.Author.Tests.{le-leb, lt-leb, leb-true, ne_eqb, eqb-true}
use Rattle.sheet.specs.Fields.{le16_at, le32_at, part}
use Rattle.sheet.specs.Edits.{new_text, new_place, new_style}
use Rattle.entries.specs.Entries.{kind_of, item_of, data_length, data_of, behind, signed_of, edit_of, is_known, is_entry, fold_by, fold, is_filled, edits_of}
use Rattle.entries.specs.Given.{edit_by}

-- ---- an entry at the head

module _ (l : List ℕ) where
  cut : length l < 4 + data_length l → false ≡ is_entry l
  unfolding is_entry
  cut h = rw (lt-leb (4 + data_length l) (length l) h)

  pub cut_head : length l < 4 → false ≡ is_entry l
  cut_head h = cut (omega arith)

  pub whole : (n : ℕ) (r : Bool) → n ≡ data_length l → 4 ≤ length l → n ≤ length l - 4 → r ≡ is_known (get_or l 0 0) n → r ≡ is_entry l
  unfolding is_entry
  whole n r e g h q = rw (le-leb (4 + data_length l) (length l) (omega arith), ← e) q

  module _ (q : is_entry l ≡ true) where
    pub entry_tests : (leb (4 + data_length l) (length l) ≡ true) × (is_known (kind_of l) (data_length l) ≡ true)
    unfolding is_entry
    entry_tests = (and-eq-true_iff _ _).0 q

    pub entry_in : 4 + data_length l ≤ length l
    entry_in = leb-true _ _ entry_tests.0

-- ---- an entry read from the head on: four bytes, then the data

module _ (l head left : List ℕ) (h : head ≡ take 4 l) (b : left ≡ drop 4 l) (f : length left + 4 ≡ length l) where
  pub head_byte : (k : ℕ) → k < 4 → get_or head k 0 ≡ get_or l k 0
  head_byte k q = rw h (get_or-take 4 l k 0 q)

  module _ (n : ℕ) (e : n ≡ get_or head 2 0 + get_or head 3 0 * 256) where
    size : n ≡ data_length l
    unfolding le16_at
    size = omega (arith, head_byte 2 (lit< tt), head_byte 3 (lit< tt))

    pub cut_data : length left < n → false ≡ is_entry l
    cut_data g = cut l (omega (arith, size))

    pub rest_is : (r : List ℕ) → r ≡ drop n left → r ≡ behind l
    unfolding behind
    rest_is r q = q ∙ rw (b, size) (drop-drop (data_length l) 4 l)

    module _ (t : List ℕ) (p : t ≡ take n left) (m : length t ≡ n) where
      pub whole_known : (r : Bool) → n ≤ length left → r ≡ is_known (get_or head 0 0) (length t) → r ≡ is_entry l
      whole_known r g q = whole l n r size (omega arith) (omega arith) (q ∙ rw (m, head_byte 0 (lit< tt)))

      data_is : t ≡ data_of l
      unfolding data_of part
      data_is = p ∙ rw (b, size)

      byte : (k : ℕ) → k < n → get_or t k 0 ≡ get_or l (4 + k) 0
      byte k q = rw (p, get_or-take n left k 0 q, b) (get_or-drop 4 l k 0)

      place-x : n ≡ 8 → le32_at t 0 ≡ le32_at l 4
      unfolding le32_at
      place-x q = omega (arith, byte 0 (omega arith), byte 1 (omega arith), byte 2 (omega arith), byte 3 (omega arith))

      place-y : n ≡ 8 → le32_at t 4 ≡ le32_at l 8
      unfolding le32_at
      place-y q = omega (arith, byte 4 (omega arith), byte 5 (omega arith), byte 6 (omega arith), byte 7 (omega arith))

      pub edit_is : true ≡ is_known (get_or head 0 0) (length t) → edit_by (get_or head 0 0) (get_or head 1 0) t ≡ edit_of l
      unfolding is_known edit_by edit_of
      edit_is q = rw (head_byte 0 (lit< tt), head_byte 1 (lit< tt), ← data_is) (go (eqb (kind_of l) 0) (eqb (kind_of l) 1) (q ∙ rw (head_byte 0 (lit< tt), m)))
        where
          go : (u v : Bool) → true ≡ cond u true (cond v (eqb n 8) (eqb (kind_of l) 2))
              → cond u (new_text (item_of l) t) (cond v (new_place (item_of l) (signed_of (le32_at t 0)) (signed_of (le32_at t 4))) (new_style (item_of l) t))
              ≡ cond u (new_text (item_of l) t) (cond v (new_place (item_of l) (signed_of (le32_at l 4)) (signed_of (le32_at l 8))) (new_style (item_of l) t))
          go true v h = refl
          go false true h = rw (place-x (eqb-true n 8 (sym h)), place-y (eqb-true n 8 (sym h)))
          go false false h = refl

-- ---- the walk

module _ {A : Type 0} (f : List ℕ → A → A) (bad end : A) where
  shorter : (l : List ℕ) → is_entry l ≡ true → length (behind l) < length l
  unfolding behind
  shorter l q = simp length-drop (omega (arith, entry_in l q))

  -- steps enough are steps enough
  enough : (k k' : ℕ) (l : List ℕ) → length l < k → length l < k' → fold_by f bad end k l ≡ fold_by f bad end k' l
  unfolding fold_by
  enough zero k' l h h' = absurd (omega arith)
  enough (suc k) zero l h h' = absurd (omega arith)
  enough (suc k) (suc k') [] h h' = refl
  enough (suc k) (suc k') (x ∷ l) h h' = go (is_entry (x ∷ l)) refl (enough k k' (behind (x ∷ l)))
    where
      go : (t : Bool) → is_entry (x ∷ l) ≡ t
          → (length (behind (x ∷ l)) < k → length (behind (x ∷ l)) < k' → fold_by f bad end k (behind (x ∷ l)) ≡ fold_by f bad end k' (behind (x ∷ l)))
          → cond t (f (x ∷ l) (fold_by f bad end k (behind (x ∷ l)))) bad ≡ cond t (f (x ∷ l) (fold_by f bad end k' (behind (x ∷ l)))) bad
      go true e ih = ap (f (x ∷ l)) (ih (omega (arith, shorter (x ∷ l) e)) (omega (arith, shorter (x ∷ l) e)))
      go false e ih = refl

  pub fold_end : fold f bad end [] ≡ end
  unfolding fold fold_by
  fold_end = refl

  pub fold_entry : (l : List ℕ) → is_entry l ≡ true → fold f bad end l ≡ f l (fold f bad end (behind l))
  unfolding fold fold_by
  fold_entry [] q = absurd (omega (arith, entry_in [] q))
  fold_entry (x ∷ l) q = rw q (ap (f (x ∷ l)) (enough (suc (length l)) (suc (length (behind (x ∷ l)))) (behind (x ∷ l)) (omega (arith, shorter (x ∷ l) q)) (omega arith)))

  pub fold_bad : (l : List ℕ) → 0 < length l → is_entry l ≡ false → fold f bad end l ≡ bad
  unfolding fold fold_by
  fold_bad [] h q = absurd (omega arith)
  fold_bad (x ∷ l) h q = rw q

-- ---- what is left of a list

pub filled_none : is_filled [] ≡ true
unfolding is_filled
filled_none = fold_end _ _ _

pub behind_shorter : (l r : List ℕ) → true ≡ is_entry l → r ≡ behind l → length r < length l
unfolding behind
behind_shorter l r q e = rw e (simp length-drop (omega (arith, entry_in l (sym q))))

-- where no entry stands, the list is filled exactly if nothing is left
pub filled_end : (l left : List ℕ) (t : Bool) → is_filled left ≡ is_filled l → false ≡ is_entry left → t ≡ eqb (length left) 0 → t ≡ is_filled l
unfolding is_filled
filled_end l [] t i q e = e ∙ sym filled_none ∙ i
filled_end l (x ∷ r) t i q e = e ∙ ne_eqb _ _ (λ z. omega arith) ∙ sym (fold_bad _ _ _ (x ∷ r) (omega arith) (sym q)) ∙ i

-- an entry stands where a filled list goes on
pub filled_entry : (l : List ℕ) → 0 < length l → is_filled l ≡ true → is_entry l ≡ true
unfolding is_filled
filled_entry l h q = go (is_entry l) refl
  where
    go : (t : Bool) → is_entry l ≡ t → t ≡ true
    go true e = refl
    go false e = absurd (true≢false (sym q ∙ fold_bad _ _ _ l h e))

-- and the rest of it is filled, by the edits behind the first
module _ (l : List ℕ) (q : is_entry l ≡ true) where
  pub filled-behind : is_filled (behind l) ≡ is_filled l
  unfolding is_filled
  filled-behind = sym (fold_entry _ _ _ l q)

  pub edits_behind : edits_of l ≡ edit_of l ∷ edits_of (behind l)
  unfolding edits_of
  edits_behind = fold_entry _ _ _ l q

-- no edit is spelled where no entry stands, as at the end
pub edits_stopped : (l : List ℕ) → false ≡ is_entry l → edits_of l ≡ []
unfolding edits_of
edits_stopped [] q = fold_end _ _ _
edits_stopped (x ∷ l) q = fold_bad _ _ _ (x ∷ l) (omega arith) (sym q)

pub edits_end : edits_of [] ≡ []
edits_end = edits_stopped [] (cut_head [] (omega arith))
