-- `next` of the iterator gives the first line left, if there is one. Assumes nothing.
use Prim.Native.Nat.{ℕ, ◌+◌}
use native.Mathlib.Omega.{arith}
use lib.ListN.{length}
use mathlib.Core.Path.{refl, ap}
use Rattle.text.specs.Remaining.{lines_left}
use Rattle.text.proofs.Remaining.{none_left, lower_fits, next_limits, given_limits, line_first}
use Rattle.text.proofs.placed.TextLinesIterator.next.Goals as goal

pub returns-then-unwrap_or-self-clause-steps : goal.returns-then-unwrap_or-self-clause-steps
returns-then-unwrap_or-self-clause-steps c = let z = none_left c.args.self.now _ c.unwrap_or.ensures c.if-unwrap_or-self.true in (z, z)

pub overflow_add-self-3 : goal.overflow_add-self-3
overflow_add-self-3 c = lower_fits c.args.self.now _ c.unwrap_or.ensures c.if-unwrap_or-self.false _ c.line_of-text.ensures.result_value

pub invariant_of-self : goal.invariant_of-self
invariant_of-self c = record { lower_by = search; limits = next_limits c.args.self.now _ c.unwrap_or.ensures c.if-unwrap_or-self.false _ c.line_of-text.ensures.result_value }

pub invariant_of-result : goal.invariant_of-result
invariant_of-result c = record { limits = given_limits c.args.self.now _ c.unwrap_or.ensures c.if-unwrap_or-self.false _ c.line_of-text.ensures.result_value }

pub returns-clause-steps : goal.returns-clause-steps
unfolding lines_left
returns-clause-steps c = record { first = line_first c.args.self.now _ c.unwrap_or.ensures c.if-unwrap_or-self.false _ c.line_of-text.ensures.result_value; same_layout = refl; same_y = refl; next_y = ap (λ (h : ℕ). c.args.self.now.y + h) c.args.self.now.lower_by }

pub returns-clause-goes : goal.returns-clause-goes
unfolding lines_left
returns-clause-goes c =
    let l = ap length (line_first c.args.self.now _ c.unwrap_or.ensures c.if-unwrap_or-self.false _ c.line_of-text.ensures.result_value) in
    record { on = λ f. (tt, tt, omega arith); keeps = tt; rests = λ f. tt }
