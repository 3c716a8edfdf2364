-- Entries fill a list exactly when it is their bytes, and then they are the edits that it spells. Assumes nothing.
use Prim.Native.Nat.{ℕ, zero, suc, ◌+◌, ◌*◌, ◌/◌, ◌%◌, ◌≤◌, ◌<◌}
use native.Mathlib.Omega.{arith}
use native.Mathlib.Numerals.{add-one}
use mathlib.Core.Path.{◌≡◌, refl, sym, ap, ◌∙◌}
use mathlib.Core.Bool.{Bool, true, false, cond}
use mathlib.Core.List.{List, [], ◌∷◌, ◌++◌, append_assoc}
use lib.Dec.{eqb}
use lib.IntN.{ℤ}
use lib.ListN.{length, get_or, take, drop, length-append, length-drop, take-append-drop}
use lib.Seq.{drop-cons, drop-drop, take-add, take-append_seam, drop_at, length-take-le, get_or-drop}
use mir.Syntax.{w32}
use mir.Val.{to_z, of_z, Fits, SFits}
use mir.Facts.{to_z-of_z, of_z-to_z, sfits_to_z, Fits-of_z}
use borrow.Author.Tests.{eqb-true}
use Rattle.sheet.specs.Fields.{le16, le16_at, le32_at, part}
use Rattle.sheet.specs.Edits.{Edit, new_text, new_place, new_style, item_number}
use Rattle.sheet.proofs.Bytes.{le16_at_small}
use Rattle.entries.specs.Entries.{kind_of, item_of, data_length, data_of, behind, signed_of, edit_of, is_known, is_entry, is_filled, edits_of}
use Rattle.entries.specs.Spelled.{le32, kind_number, data_bytes, entry_bytes, list_bytes, Bytes, PlaceFits, Storable, AllStorable}
use Rattle.entries.proofs.Walks.{whole, entry_tests, entry_in, filled_none, filled_entry, filled-behind, edits_behind, edits_end}
use Rattle.entries.proofs.TwosComplement.{signed_is}

-- ---- signed numbers and their bits

signed_to_z : (n : ℕ) → Fits w32 n → signed_of n ≡ to_z w32 n
signed_to_z n f = sym (signed_is n n (to_z w32 n) refl f.fits refl) ∙ ap (to_z w32) (of_z-to_z {w = w32} {n = n} f)

signed_of_z : (z : ℤ) → SFits w32 z → signed_of (of_z w32 z) ≡ z
signed_of_z z f = signed_to_z (of_z w32 z) (Fits-of_z {w = w32} {z = z} f) ∙ to_z-of_z {w = w32} {z = z} f

of_z_signed : (n : ℕ) → Fits w32 n → of_z w32 (signed_of n) ≡ n
of_z_signed n f = ap (of_z w32) (signed_to_z n f) ∙ of_z-to_z {w = w32} {n = n} f

-- ---- the entry of kind k for item i with data t, before the bytes r

module _ (k i : ℕ) (t r : List ℕ) (short : length t < 65_536) where
  abbrev entry : List ℕ
  entry = k ∷ i ∷ le16 (length t) ++ t ++ r

  entry-size : data_length entry ≡ length t
  unfolding le16_at le16
  entry-size = omega arith

  entry-data : t ≡ data_of entry
  unfolding data_of part le16
  entry-data = rw entry-size (sym (take-append_seam t r))

  entry-behind : behind entry ≡ r
  unfolding behind le16
  entry-behind = drop_at (k ∷ i ∷ le16 (length t) ++ t) r (4 + data_length entry) (omega (arith, entry-size))

  entry-is : true ≡ is_known k (length t) → is_entry entry ≡ true
  unfolding le16
  entry-is q = sym (whole entry (length t) true (sym entry-size) (simp length-append (omega arith)) (simp length-append (omega arith)) q)

-- ---- the entry of an edit

module _ (i : ℕ) (x y : ℤ) (r : List ℕ) where
  abbrev place : List ℕ
  place = entry_bytes (new_place i x y) ++ r

  place-x : SFits w32 x → le32_at place 4 ≡ of_z w32 x
  unfolding entry_bytes data_bytes le32_at le32 le16
  place-x f = omega (arith, Fits-of_z {w = w32} {z = x} f)

  place-y : SFits w32 y → le32_at place 8 ≡ of_z w32 y
  unfolding entry_bytes data_bytes le32_at le32 le16
  place-y f = omega (arith, Fits-of_z {w = w32} {z = y} f)

known : (e : Edit) → true ≡ is_known (kind_number e) (length (data_bytes e))
unfolding kind_number data_bytes is_known le32 le16
known (new_text i t) = refl
known (new_place i x y) = refl
known (new_style i t) = refl

edit_is : (e : Edit) (r : List ℕ) → Storable e → edit_of (entry_bytes e ++ r) ≡ e
unfolding entry_bytes kind_number data_bytes PlaceFits edit_of
edit_is (new_text i t) r s = ap (new_text i) (sym (entry-data 0 i t r s.data_short))
edit_is (new_place i x y) r s = rw (place-x i x y r s.place-fits.0, place-y i x y r s.place-fits.1, signed_of_z x s.place-fits.0, signed_of_z y s.place-fits.1)
edit_is (new_style i t) r s = ap (new_style i) (sym (entry-data 2 i t r s.data_short))

module _ (e : Edit) (r : List ℕ) (s : Storable e) where
  spelled-entry : is_entry (entry_bytes e ++ r) ≡ true
  unfolding entry_bytes
  spelled-entry = entry-is (kind_number e) (item_number e) (data_bytes e) r s.data_short (known e)

  spelled-behind : behind (entry_bytes e ++ r) ≡ r
  unfolding entry_bytes
  spelled-behind = entry-behind (kind_number e) (item_number e) (data_bytes e) r s.data_short

pub spelled : (es : List Edit) → AllStorable es → (is_filled (list_bytes es) ≡ true) × (edits_of (list_bytes es) ≡ es)
unfolding AllStorable list_bytes
spelled [] s = (filled_none, edits_end)
spelled (e ∷ es) s =
    let r = list_bytes es in
    let q = spelled-entry e r s.0 in
    let b = spelled-behind e r s.0 in (
      sym (filled-behind (entry_bytes e ++ r) q) ∙ ap is_filled b ∙ (spelled es s.1).0,
      edits_behind (entry_bytes e ++ r) q ∙ rw (b, edit_is e r s.0, (spelled es s.1).1),
    )

-- ---- the list is one of bytes

bytes_append : (l r : List ℕ) → Bytes l → Bytes r → Bytes (l ++ r)
bytes_append [] r b c k = c k
bytes_append (x ∷ l) r b c zero = b zero
bytes_append (x ∷ l) r b c (suc k) = bytes_append l r (λ j. b (suc j)) c k

kind_byte : (e : Edit) → kind_number e < 256
unfolding kind_number
kind_byte (new_text i t) = omega arith
kind_byte (new_place i x y) = omega arith
kind_byte (new_style i t) = omega arith

entry_bytes_lem : (e : Edit) → Storable e → Bytes (entry_bytes e)
unfolding entry_bytes le16
entry_bytes_lem e s zero = kind_byte e
entry_bytes_lem e s (suc zero) = s.item_byte
entry_bytes_lem e s (suc (suc zero)) = omega arith
entry_bytes_lem e s (suc (suc (suc zero))) = omega arith
entry_bytes_lem e s (suc (suc (suc (suc k)))) = s.data_bytes_lem k

pub spelled_bytes : (es : List Edit) → AllStorable es → Bytes (list_bytes es)
unfolding AllStorable list_bytes
spelled_bytes [] s = λ k. omega arith
spelled_bytes (e ∷ es) s = bytes_append (entry_bytes e) (list_bytes es) (entry_bytes_lem e s.0) (spelled_bytes es s.1)

-- ---- what is read, written again

part_join : (l : List ℕ) (o n m : ℕ) → part l o n ++ part l (o + n) m ≡ part l o (n + m)
unfolding part
part_join l o n m = sym (take-add n m (drop o l) ∙ ap (λ (r : List ℕ). take n (drop o l) ++ take m r) (drop-drop n o l))

part_rest : (l : List ℕ) (o n : ℕ) → part l o n ++ drop (o + n) l ≡ drop o l
unfolding part
part_rest l o n = rw (← drop-drop n o l) (take-append-drop n (drop o l))

bytes_take : (n : ℕ) (l : List ℕ) → Bytes l → Bytes (take n l)
bytes_take zero l b k = omega arith
bytes_take (suc n) [] b k = omega arith
bytes_take (suc n) (x ∷ l) b zero = b zero
bytes_take (suc n) (x ∷ l) b (suc k) = bytes_take n l (λ j. b (suc j)) k

low_byte : (n a m : ℕ) → n ≡ a + 256 * m → a < 256 → n % 256 ≡ a
low_byte n a m e h = omega arith

module _ (l : List ℕ) (b : Bytes l) where
  bytes_drop : (n : ℕ) → Bytes (drop n l)
  bytes_drop n k = rw (get_or-drop n l k 0) (b (n + k))

  le16-part : (o n : ℕ) → o + 2 ≤ length l → n % 65_536 ≡ le16_at l o → le16 n ≡ part l o 2
  unfolding le16 le16_at part
  le16-part o n h e =
      let p : n % 256 ≡ get_or l o 0 = omega (arith, b o, b (o + 1)) in
      let d : n / 256 ≡ get_or l (o + 1) 0 + 256 * (n / 65_536) = omega (arith, b o) in
      rw (p, low_byte (n / 256) (get_or l (o + 1) 0) (n / 65_536) d (b (o + 1)), add-one, drop-cons l o 0 (omega arith), drop-cons l (suc o) 0 (omega arith))

  le32-halves : (o : ℕ) → le32_at l o ≡ le16_at l o + 65_536 * le16_at l (o + 2)
  unfolding le16_at le32_at
  le32-halves o = let e : o + 2 + 1 ≡ o + 3 = omega arith in rw e (omega arith)

  le32-fits : (o : ℕ) → Fits w32 (le32_at l o)
  le32-fits o = omega (arith, le32-halves o, le16_at_small l o b, le16_at_small l (o + 2) b)

  le32-part : (o : ℕ) → o + 4 ≤ length l → le32 (le32_at l o) ≡ part l o 4
  unfolding le32
  le32-part o h =
      let p = le16-part o (le32_at l o) (omega arith) (omega (arith, le32-halves o, le16_at_small l o b)) in
      let q = le16-part (o + 2) (le32_at l o / 65_536) (omega arith) (omega (arith, le32-halves o, le16_at_small l o b, le16_at_small l (o + 2) b)) in
      rw (p, q) (part_join l o 2 2)

  signed-fits : (o : ℕ) → SFits w32 (signed_of (le32_at l o))
  signed-fits o = rw (signed_to_z (le32_at l o) (le32-fits o)) (sfits_to_z {w = w32} {n = le32_at l o} (le32-fits o))

  signed_part : (o : ℕ) → o + 4 ≤ length l → le32 (of_z w32 (signed_of (le32_at l o))) ≡ part l o 4
  signed_part o h = rw (of_z_signed (le32_at l o) (le32-fits o)) (le32-part o h)

-- ---- the edit that an entry spells

record Spells (l : List ℕ) (e : Edit) : Type 0 where
  kind-is : kind_number e ≡ kind_of l
  item-is : item_number e ≡ item_of l
  bytes-are : data_bytes e ≡ data_of l
  fits-place : PlaceFits e

module _ (l : List ℕ) (b : Bytes l) (q : is_entry l ≡ true) where
  place-data : data_length l ≡ 8 → le32 (of_z w32 (signed_of (le32_at l 4))) ++ le32 (of_z w32 (signed_of (le32_at l 8))) ≡ data_of l
  unfolding data_of
  place-data e = rw (signed_part l b 4 (omega (arith, entry_in l q)), signed_part l b 8 (omega (arith, entry_in l q)), e) (part_join l 4 4 4)

  spells : Spells l (edit_of l)
  unfolding edit_of is_known kind_number data_bytes PlaceFits
  spells = go (eqb (kind_of l) 0) (eqb (kind_of l) 1) refl refl (entry_tests l q).1
    where
      go : (t u : Bool) → eqb (kind_of l) 0 ≡ t → eqb (kind_of l) 1 ≡ u → cond t true (cond u (eqb (data_length l) 8) (eqb (kind_of l) 2)) ≡ true
          → Spells l (cond t (new_text (item_of l) (data_of l)) (cond u (new_place (item_of l) (signed_of (le32_at l 4)) (signed_of (le32_at l 8))) (new_style (item_of l) (data_of l))))
      go true u k₀ k₁ h = record { kind-is = sym (eqb-true (kind_of l) 0 k₀); item-is = refl; bytes-are = refl; fits-place = tt }
      go false true k₀ k₁ h = record { kind-is = sym (eqb-true (kind_of l) 1 k₁); item-is = refl; bytes-are = place-data (eqb-true (data_length l) 8 h); fits-place = (signed-fits l b 4, signed-fits l b 8) }
      go false false k₀ k₁ h = record { kind-is = sym (eqb-true (kind_of l) 2 h); item-is = refl; bytes-are = refl; fits-place = tt }

  data-size : length (data_of l) ≡ data_length l
  unfolding data_of part
  data-size = length-take-le (data_length l) (drop 4 l) (simp length-drop (omega (arith, entry_in l q)))

  entry-back : entry_bytes (edit_of l) ++ behind l ≡ l
  unfolding entry_bytes data_of behind
  entry-back =
      let size = le16-part l b 2 (data_length l) (omega (arith, entry_in l q)) (omega (arith, le16_at_small l 2 b)) in
      rw (spells.kind-is, spells.item-is, spells.bytes-are, data-size, size, append_assoc (part l 2 2) (data_of l) (behind l), part_rest l 4 (data_length l), part_rest l 2 2)
      (sym (drop-cons l 0 0 (omega (arith, entry_in l q)) ∙ ap (λ (r : List ℕ). kind_of l ∷ r) (drop-cons l 1 0 (omega (arith, entry_in l q)))))

  storable : Storable (edit_of l)
  unfolding data_of part
  storable = record {
    item_byte = rw spells.item-is (b 1);
    data_short = rw (spells.bytes-are, data-size) (le16_at_small l 2 b);
    data_bytes_lem = rw spells.bytes-are (bytes_take (data_length l) (drop 4 l) (bytes_drop l b 4));
    place-fits = spells.fits-place;
  }

-- ---- entry after entry; n steps are enough

spelled_by : (n : ℕ) (l : List ℕ) → length l < n → Bytes l → is_filled l ≡ true → (list_bytes (edits_of l) ≡ l) × AllStorable (edits_of l)
unfolding AllStorable list_bytes behind
spelled_by zero l h b f = absurd (omega arith)
spelled_by (suc n) [] h b f = rw edits_end (refl, tt)
spelled_by (suc n) (x ∷ l) h b f =
    let q = filled_entry (x ∷ l) (omega arith) f in
    let shorter : length (behind (x ∷ l)) < n = simp length-drop (omega (arith, entry_in (x ∷ l) q)) in
    let ih = spelled_by n (behind (x ∷ l)) shorter (bytes_drop (x ∷ l) b (4 + data_length (x ∷ l))) (filled-behind (x ∷ l) q ∙ f) in
    rw (edits_behind (x ∷ l) q) (rw ih.0 (entry-back (x ∷ l) b q), (storable (x ∷ l) b q, ih.1))

pub spelled_only : (l : List ℕ) → Bytes l → is_filled l ≡ true → (list_bytes (edits_of l) ≡ l) × AllStorable (edits_of l)
spelled_only l b f = spelled_by (suc (length l)) l (omega arith) b f
