use Rattle.ptu_audit.proofs.Exact.{none_from, sound_from}
use Rattle.ptu_audit.proofs.laws.findings.Goals as goal

pub returns-clause-sound : goal.returns-clause-sound
returns-clause-sound c =
    let laws = c.faultless_so_far.ensures in
    sound_from (record { none = laws.none; one_more = laws.one_more; change = laws.change; first = laws.first })

pub returns-clause-none : goal.returns-clause-none
returns-clause-none c =
    let laws = c.faultless_so_far.ensures in
    none_from (record { none = laws.none; one_more = laws.one_more; change = laws.change; first = laws.first })
