-- Each kind is one edit.
use mathlib.Core.Path.{sym}
use Rattle.replay.proofs.Laws.{edit_text, edit_place, edit_style}
use Rattle.replay.proofs.edit.Edit.of.Goals as goal

pub returns-in-0 : goal.returns-in-0
returns-in-0 c = sym (search edit_text)

pub returns-in-1 : goal.returns-in-1
returns-in-1 c = sym (search edit_place)

pub returns-in_default : goal.returns-in_default
returns-in_default c = sym (search edit_style)
