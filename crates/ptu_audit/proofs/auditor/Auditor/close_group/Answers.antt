use Rattle.ptu_audit.proofs.auditor.Auditor.close_group.Goals as goal

pub returns-clause-closed : goal.returns-clause-closed
returns-clause-closed c = λ r s.
    let h = c.in_ok-judge_group.ensures r s in
    record { found = h.found; kept = h.kept; capacity = h.capacity; last = h.last; ended = h.ended }
