-- `first_word` meets its contract: the word begins at the first byte that is no blank, and ends at the next blank. Assumes nothing.
use Rattle.std.proofs.Common.{rules, tests, not, refl}
use Rattle.std.proofs.lemmas.Iterator.{YieldsList-from_slice}
use Rattle.std.proofs.lemmas.Iterator.Search.{position_from_yields_List}
use Rattle.bdf_lines.specs.Words.{is_blank}
use Rattle.bdf_lines.proofs.Rest.{word_none, word_found, word_place}
use Rattle.bdf_lines.proofs.words.first_word.Goals as goal

pub returns-in_err-start-clause-word : goal.returns-in_err-start-clause-word
returns-in_err-start-clause-word c =
    let x = position_from_yields_List (λ b. not (is_blank b)) _ _ c.position.result c.position.ensures.ran (YieldsList-from_slice c.args.line.now cc) (λ x b q k. search (rules, tests)) in
    rw c.from_residual.ensures (word_none c.args.line.now x c.in_err-start.was)

pub returns-clause-word : goal.returns-clause-word
returns-clause-word c =
    let x = position_from_yields_List (λ b. not (is_blank b)) _ _ c.position.result c.position.ensures.ran (YieldsList-from_slice c.args.line.now cc) (λ x b q k. search (rules, tests)) in
    let y = position_from_yields_List is_blank _ _ c.position-2.result c.position-2.ensures.ran (YieldsList-from_slice _ cc) (λ x b q k. search (rules, tests)) in
    word_found c.args.line.now x c.in_ok-start.was _ refl y c.unwrap_or-end.ensures _ _ c.split_at.ensures.front c.split_at.ensures.back

pub returns-clause-place : goal.returns-clause-place
returns-clause-place c =
    let x = position_from_yields_List (λ b. not (is_blank b)) _ _ c.position.result c.position.ensures.ran (YieldsList-from_slice c.args.line.now cc) (λ x b q k. search (rules, tests)) in
    let y = position_from_yields_List is_blank _ _ c.position-2.result c.position-2.ensures.ran (YieldsList-from_slice _ cc) (λ x b q k. search (rules, tests)) in
    word_place c.args.line.now x c.in_ok-start.was _ refl y c.unwrap_or-end.ensures _ _ c.split_at.ensures.front c.split_at.ensures.back
