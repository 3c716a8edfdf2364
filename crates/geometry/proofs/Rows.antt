-- Laws of a row painted from its first pixel on, pixel by pixel or part by part. Assumes nothing.
use Prim.Native.Nat.{ℕ, zero, suc, ◌+◌, ◌-◌, ◌≤◌, ◌<◌}
use native.Mathlib.Nat.{add-zero, add-suc, suc-add, zero-add, sub-zero, suc-sub-suc, le_of_suc-le-suc, not-suc-le-zero}
use native.Mathlib.Numerals.{add-one}
use native.Mathlib.Omega.{arith}
use mathlib.Core.Path.{◌≡◌, refl, ap, ◌∙◌}
use mathlib.Core.List.{List, [], ◌∷◌, ◌++◌}
use lib.ListN.{length, get_or, set, take, drop, replicate, length-set, length-drop}
use lib.Seq.{length-take-le, take-nil, drop-nil, ext_get_or}
use borrow.Rule.Slice.PartMut.{put_mid}
use Rattle.geometry.specs.Layer.{map_indexed}
use Rattle.geometry.proofs.Layers.{map_indexed-same, length-map_indexed, map_indexed_at}

-- `map_indexed` on the first n elements only
abbrev pub map_first : (ℕ → ℕ → ℕ) → ℕ → ℕ → List ℕ → List ℕ
map_first f k zero xs = xs
map_first f k (suc n) [] = []
map_first f k (suc n) (x ∷ xs) = f k x ∷ map_first f (suc k) n xs

length_map_first : (f : ℕ → ℕ → ℕ) (k n : ℕ) (xs : List ℕ) → length (map_first f k n xs) ≡ length xs
length_map_first f k zero xs = refl
length_map_first f k (suc n) [] = refl
length_map_first f k (suc n) (x ∷ xs) = ap suc (length_map_first f (suc k) n xs)

-- the others are as they were
map_first_rest : (f : ℕ → ℕ → ℕ) (k n : ℕ) (xs : List ℕ) → drop n (map_first f k n xs) ≡ drop n xs
map_first_rest f k zero xs = refl
map_first_rest f k (suc n) [] = refl
map_first_rest f k (suc n) (x ∷ xs) = map_first_rest f (suc k) n xs

map_first_next : (f : ℕ → ℕ → ℕ) (k n : ℕ) (xs : List ℕ) → get_or (map_first f k n xs) n 0 ≡ get_or xs n 0
map_first_next f k zero xs = refl
map_first_next f k (suc n) [] = refl
map_first_next f k (suc n) (x ∷ xs) = map_first_next f (suc k) n xs

map_first_set : (f : ℕ → ℕ → ℕ) (k n : ℕ) (xs : List ℕ) → n < length xs → set (map_first f k n xs) n (f (k + n) (get_or xs n 0)) ≡ map_first f k (suc n) xs
map_first_set f k zero [] h = absurd (not-suc-le-zero h)
map_first_set f k zero (x ∷ xs) h = ap (λ (m : ℕ). f m x ∷ xs) (add-zero k)
map_first_set f k (suc n) [] h = refl
map_first_set f k (suc n) (x ∷ xs) h = rw (add-suc k n, ← suc-add k n) (ap (λ (l : List ℕ). f k x ∷ l) (map_first_set f (suc k) n xs (le_of_suc-le-suc h)))

map_first_whole : (f : ℕ → ℕ → ℕ) (k : ℕ) (xs : List ℕ) → map_first f k (length xs) xs ≡ map_indexed f k xs
unfolding map_indexed
map_first_whole f k [] = refl
map_first_whole f k (x ∷ xs) = ap (λ (l : List ℕ). f k x ∷ l) (map_first_whole f (suc k) xs)

-- the state of a loop over a row xs: its first n pixels are painted by f, which counts columns from k
pub record FirstPainted (f : ℕ → ℕ → ℕ) (k n : ℕ) (xs row : List ℕ) : Type 0 where
  pub painted : row ≡ map_first f k n xs
  pub reach : n ≤ length xs
  pub size : length row ≡ length xs

pub row_start : (f : ℕ → ℕ → ℕ) (k : ℕ) (xs : List ℕ) → FirstPainted f k 0 xs xs
row_start f k xs = record { painted = refl; reach = omega arith; size = refl }

pub row_step : (f : ℕ → ℕ → ℕ) (n grey : ℕ) (xs row : List ℕ) → FirstPainted f 0 n xs row → n < length row → grey ≡ f n (get_or row n 0) → FirstPainted f 0 (n + 1) xs (set row n grey)
row_step f n grey xs row p h g = record {
  painted = rw (g, p.painted, map_first_next f 0 n xs, add-one n) (rw (zero-add n) at (map_first_set f 0 n xs (omega arith)));
  reach = omega arith;
  size = length-set row n grey ∙ p.size;
}

pub row_end : (f : ℕ → ℕ → ℕ) (k n : ℕ) (xs row : List ℕ) → FirstPainted f k n xs row → length row ≤ n → row ≡ map_indexed f k xs
row_end f k n xs row p h = let e : n ≡ length xs = omega arith in p.painted ∙ rw e (map_first_whole f k xs)

pub replicate-map_indexed : (grey k : ℕ) (xs : List ℕ) → map_indexed (λ i x. grey) k xs ≡ replicate (length xs) grey
unfolding map_indexed
replicate-map_indexed grey k [] = refl
replicate-map_indexed grey k (x ∷ xs) = ap (λ (l : List ℕ). grey ∷ l) (replicate-map_indexed grey (suc k) xs)

map_first_part : (f : ℕ → ℕ → ℕ) (k m : ℕ) (xs : List ℕ) → map_indexed f k (take m xs) ++ drop m xs ≡ map_first f k m xs
unfolding map_indexed
map_first_part f k zero xs = refl
map_first_part f k (suc m) [] = refl
map_first_part f k (suc m) (x ∷ xs) = ap (λ (l : List ℕ). f k x ∷ l) (map_first_part f (suc k) m xs)

map_first_put : (f : ℕ → ℕ → ℕ) (k n e : ℕ) (xs : List ℕ) → n ≤ e → put_mid n (e - n) (map_first f k n xs) (map_indexed f (k + n) (take (e - n) (drop n xs))) ≡ map_first f k e xs
unfolding map_indexed
map_first_put f k zero e xs h = rw (add-zero k, sub-zero e) (map_first_part f k e xs)
map_first_put f k (suc n) zero xs h = absurd (not-suc-le-zero h)
map_first_put f k (suc n) (suc e) [] h = rw (suc-sub-suc, take-nil, drop-nil)
map_first_put f k (suc n) (suc e) (x ∷ xs) h = rw (suc-sub-suc, add-suc k n, ← suc-add k n) (ap (λ (l : List ℕ). f k x ∷ l) (map_first_put f (suc k) n e xs (le_of_suc-le-suc h)))

-- the part from n to e, painted by g and put back
pub row_part : (f g : ℕ → ℕ → ℕ) (k n e : ℕ) (xs row part : List ℕ) → FirstPainted f k n xs row → n ≤ e → e ≤ length row → part ≡ map_indexed g 0 (take (e - n) (drop n row))
    → ((i x : ℕ) → i < e - n → g i x ≡ f (k + n + i) x) → FirstPainted f k e xs (put_mid n (e - n) row part)
row_part f g k n e xs row part p h room ep agree =
    let d : drop n row ≡ drop n xs = ap (drop n) p.painted ∙ map_first_rest f k n xs in
    let c : length (take (e - n) (drop n xs)) ≡ e - n = length-take-le (e - n) (drop n xs) (rw length-drop (omega arith)) in
    let s : part ≡ map_indexed f (k + n) (take (e - n) (drop n xs)) = ep ∙ ap (λ (l : List ℕ). map_indexed g 0 (take (e - n) l)) d ∙ map_indexed-same g f 0 (k + n) (take (e - n) (drop n xs)) (λ i x u. rw (zero-add i) (agree i x (omega arith))) in
    let q : put_mid n (e - n) row part ≡ map_first f k e xs = rw (s, p.painted) (map_first_put f k n e xs h) in
    record { painted = q; reach = omega arith; size = ap length q ∙ length_map_first f k e xs }

-- bytes copied over as many
pub copied : (bytes part : List ℕ) → length part ≡ length bytes → map_indexed (λ k x. get_or bytes k 0) 0 part ≡ bytes
copied bytes part e = ext_get_or 0 _ bytes (length-map_indexed _ 0 part ∙ e) (λ k h. map_indexed_at _ 0 part k (omega (arith, length-map_indexed (λ k x. get_or bytes k 0) 0 part)) ∙ rw (zero-add k))
