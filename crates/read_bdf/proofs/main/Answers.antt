-- An array is as long as it was made: told by a law, since the checker would count the arrays' elements.
use mathlib.Core.Path.{sym}
use Rattle.std.proofs.Common.{◌≡◌, ℕ, length}
use lib.ListN.{replicate, length-replicate}
use Rattle.read_bdf.proofs.main.Goals as goal

as_made : (n : ℕ) → n ≡ length {A = ℕ} (replicate n 0)
as_made n = sym (length-replicate n 0)

pub slice_bounds-run-end : goal.slice_bounds-run-end
slice_bounds-run-end c = as_made 4_194_305

pub slice_bounds-run-end-2 : goal.slice_bounds-run-end-2
slice_bounds-run-end-2 c = as_made 1_048_576
