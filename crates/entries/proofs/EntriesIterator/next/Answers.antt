-- An entry stands at the head where its four bytes and its data do, and its kind is known. Assumes nothing.
use mathlib.Core.Path.{refl, ◌∙◌}
use Rattle.entries.proofs.Walks.{cut_head, cut_data, whole_known, edit_is, rest_is}
use Rattle.entries.proofs.EntriesIterator.next.Goals as goal

pub returns-clause-steps : goal.returns-clause-steps
returns-clause-steps c =
    let (h, b, f) = c.in_ok-kind.ensures.cases in
    let (g, p, r, m, k) = c.in_ok-data.ensures.cases in
    let e = c.from.ensures ∙ c.from_le_bytes-size.ensures in
    let q = c.in_ok-edit.ensures.known in
    record { whole = whole_known _ _ _ h b f _ e _ p m _ g q; step = (rw c.from-2.ensures (c.in_ok-edit.ensures.value _) ∙ edit_is _ _ _ h b f _ e _ p m q, rest_is _ _ _ h b f _ e _ r) }

pub returns-in_err-kind-clause-steps : goal.returns-in_err-kind-clause-steps
returns-in_err-kind-clause-steps c = rw c.from_residual.ensures (record { whole = cut_head _ c.in_err-kind.ensures.cases; step = refl })

pub returns-in_err-data-clause-steps : goal.returns-in_err-data-clause-steps
returns-in_err-data-clause-steps c =
    let (h, b, f) = c.in_ok-kind.ensures.cases in
    rw c.from_residual-in_err-data.ensures (record { whole = cut_data _ _ _ h b f _ (c.from.ensures ∙ c.from_le_bytes-size.ensures) c.in_err-data.ensures.cases; step = refl })

pub returns-in_err-edit-clause-steps : goal.returns-in_err-edit-clause-steps
returns-in_err-edit-clause-steps c =
    let (h, b, f) = c.in_ok-kind.ensures.cases in
    let (g, p, r, m, k) = c.in_ok-data.ensures.cases in
    rw c.from_residual-in_err-edit.ensures (record { whole = whole_known _ _ _ h b f _ (c.from.ensures ∙ c.from_le_bytes-size.ensures) _ p m _ g c.in_err-edit.ensures.known; step = refl })
