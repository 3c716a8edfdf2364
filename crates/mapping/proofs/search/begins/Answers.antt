-- The bytes are the definition's. Assumes nothing.
use Rattle.std.proofs.Common.{rules, ◌≡◌, ℕ, List, Bool, ◌+◌, arith, get_or}
use Rattle.mapping.specs.declared.search.Needle.{Needle}
use Rattle.mapping.specs.Search.{may_begin, may_begin_at}
use Rattle.mapping.proofs.search.begins.Goals as goal

bytes_are : (s : List ℕ) (p : Needle) (b c d : ℕ) (r : Bool) → b ≡ get_or s p.near 0 → c ≡ get_or s p.mid 0 → d ≡ get_or s p.end 0
    → r ≡ may_begin p (get_or s 0 0) b c d → r ≡ may_begin_at s p 0
bytes_are s p b c d r e f g h = let z : (n : ℕ) → 0 + n ≡ n = λ n. omega arith in rw (z p.near, z p.mid, z p.end, ← e, ← f, ← g) h

pub returns : goal.returns
returns c = bytes_are c.args.rest.now c.args.needle _ _ _ _ (search rules) (search rules) (search rules) c.may_begin.ensures
