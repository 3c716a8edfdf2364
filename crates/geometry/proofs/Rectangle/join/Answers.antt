-- `Rectangle::join` meets its contract: the definition makes the same two tests. Assumes nothing.
use Rattle.geometry.proofs.Rectangles.{join_second_empty, join_first_empty, join_neither_empty}
use Rattle.geometry.proofs.Rectangle.join.Goals as goal

pub returns-then-is_empty : goal.returns-then-is_empty
returns-then-is_empty c = search join_second_empty

pub returns-then-is_empty-2 : goal.returns-then-is_empty-2
returns-then-is_empty-2 c = search join_first_empty

pub returns : goal.returns
returns c = search join_neither_empty
