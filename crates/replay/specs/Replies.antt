-- The numbers of a reply. Assumes nothing.
-- Serves contracts: nothing here has to be believed.
use Rattle.std.specs.Prelude.{ℕ, List, [], ◌∷◌}
use Rattle.std.specs.Int.{w32}
use Rattle.std.proofs.Common.{of_z}
use Rattle.calls.specs.declared.Batch.{Batch}
use Rattle.calls.specs.declared.Box.{Box}
use Rattle.replay.specs.declared.reply.Reply.{Reply}

-- a reply's five numbers as a list stores them: in two's complement where signed
abbrev pub numbers : Box → List ℕ
numbers r = r.code ∷ of_z w32 r.left ∷ of_z w32 r.top ∷ r.width ∷ r.height ∷ []

-- of a batch those of its code and rectangle, and with them how many edits were made
abbrev pub area_numbers : Batch → List ℕ
area_numbers r = r.code ∷ of_z w32 r.left ∷ of_z w32 r.top ∷ r.width ∷ r.height ∷ []

abbrev pub batch_numbers : Batch → List ℕ
batch_numbers r = r.made ∷ area_numbers r

-- of a reply in one form as many
abbrev pub reply_numbers : Reply → List ℕ
reply_numbers r = r.made ∷ r.code ∷ of_z w32 r.left ∷ of_z w32 r.top ∷ r.width ∷ r.height ∷ []
