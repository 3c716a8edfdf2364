-- `digit_values` meets its contract: antt computes each entry. Assumes nothing.
use mathlib.Core.Path.{refl}
use Rattle.bdf_lines.specs.Words.{is_digit, is_hex, hex_value}
use Rattle.bdf_lines.specs.Table.{digit_value}
use Rattle.bdf_lines.proofs.Tables.{are_values, is_table}
use Rattle.bdf_lines.proofs.values.digit_values.Goals as goal

pub returns : goal.returns
unfolding are_values digit_value is_hex is_digit hex_value
returns c = is_table _ refl refl
