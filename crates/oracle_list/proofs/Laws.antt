-- Laws of stored numbers and of changes. Assumes nothing.
use Rattle.std.proofs.Common.{◌≡◌, ℕ, ◌+◌, ◌*◌, List, ◌++◌, length, get_or, take, drop, sym, ap, ◌∙◌, arith, lit<, take-append-drop, drop-drop}
use Rattle.std.proofs.lemmas.List.{get_or-take}
use Rattle.oracle_list.specs.Changes.{length_at, change_bytes, changed}

pub u16_is : (l b : List ℕ) (n : ℕ) → b ≡ take 2 l → n ≡ get_or b 0 0 + get_or b 1 0 * 256 → n ≡ length_at l 0
unfolding length_at
u16_is l b n e q =
    let p = get_or-take 2 l 0 0 (lit< tt) in
    let r = get_or-take 2 l 1 0 (lit< tt) in
    q ∙ rw e (omega arith)

pub change_is : (l r b : List ℕ) → r ≡ drop 2 l → b ≡ take (length_at r 0) (drop 2 r) → b ≡ change_bytes l
unfolding length_at change_bytes
change_is l r b e q = q ∙ rw (e, drop-drop 2 2 l)

-- a list is its first bytes, some bytes after them, and the rest
three_parts : (l : List ℕ) (at n : ℕ) → l ≡ take at l ++ (take n (drop at l) ++ drop (at + n) l)
three_parts l at n = sym (take-append-drop at l) ∙ ap (λ (x : List ℕ). take at l ++ x) (sym (take-append-drop n (drop at l)) ∙ ap (λ (x : List ℕ). take n (drop at l) ++ x) (drop-drop n at l))

pub changed_is : (a b bytes : List ℕ) (at n : ℕ) → n ≡ at → take n a ≡ take n b → take (length bytes) (drop n a) ≡ bytes → drop (n + length bytes) a ≡ drop (n + length bytes) b
    → a ≡ changed b at bytes
unfolding changed
changed_is a b bytes at n e x y z = three_parts a n (length bytes) ∙ rw (x, y, z, e)
