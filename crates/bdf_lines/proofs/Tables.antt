-- The table of the values of hexadecimal digits, by a test that antt computes, one entry after the other. Assumes nothing.
use Prim.Native.Nat.{ℕ, zero, suc, ◌+◌, ◌<◌}
use native.Mathlib.Nat.{add-zero, zero-add}
use native.Mathlib.Omega.{arith}
use mathlib.Core.Path.{◌≡◌, sym, ap, ◌∙◌}
use mathlib.Core.Bool.{Bool, true, ◌&&◌, and-eq-true_iff}
use mathlib.Core.List.{List, [], ◌∷◌}
use lib.ListN.{length, get_or}
use lib.Dec.{eqb}
use borrow.Author.Tests.{eqb-true}
use Rattle.bdf_lines.specs.Table.{digit_value, IsTable}

-- whether a list has the values of the bytes from b on
unfoldable pub are_values : ℕ → List ℕ → Bool
are_values b [] = true
are_values b (d ∷ t) = eqb d (digit_value b) && are_values (suc b) t

value_at : (t : List ℕ) (b i : ℕ) → are_values b t ≡ true → i < length t → get_or t i 0 ≡ digit_value (b + i)
unfolding are_values
value_at [] b i e h = absurd (omega arith)
value_at (d ∷ t) b zero e h = eqb-true d (digit_value b) ((and-eq-true_iff (eqb d (digit_value b)) (are_values (suc b) t)).0 e).0 ∙ ap digit_value (sym (add-zero b))
value_at (d ∷ t) b (suc i) e h =
    let n : suc b + i ≡ b + suc i = omega arith in
    value_at t (suc b) i ((and-eq-true_iff (eqb d (digit_value b)) (are_values (suc b) t)).0 e).1 (omega arith) ∙ ap digit_value n

pub is_table : (t : List ℕ) → length t ≡ 256 → are_values 0 t ≡ true → IsTable t
is_table t l e =
    record {
      full = l;
      entry = λ b h. value_at t 0 b e (omega arith) ∙ ap digit_value (zero-add b);
    }
