-- The ten stores fill the part; the baseline is the definition's, which the cell keeps below 256. Assumes nothing.
use lib.ListN.{length-set}
use native.Mathlib.Omega.{arith}
use Rattle.bdf.proofs.Stores.{baseline_small, metrics-stored}
use Rattle.bdf.proofs.glyphs.put_metrics.Goals as goal

pub overflow_cast-output-3 : goal.overflow_cast-output-3
overflow_cast-output-3 c = search baseline_small

pub bounds-output-4 : goal.bounds-output-4
bounds-output-4 c = simp length-set (omega arith)

pub bounds-output-5 : goal.bounds-output-5
bounds-output-5 c = simp length-set (omega arith)

pub bounds-output-6 : goal.bounds-output-6
bounds-output-6 c = simp length-set (omega arith)

pub bounds-output-7 : goal.bounds-output-7
bounds-output-7 c = simp length-set (omega arith)

pub bounds-output-8 : goal.bounds-output-8
bounds-output-8 c = simp length-set (omega arith)

pub bounds-output-9 : goal.bounds-output-9
bounds-output-9 c = simp length-set (omega arith)

pub returns : goal.returns
returns c = search metrics-stored
