use Rattle.ptu_slave.proofs.Signals.{heard}
use Rattle.ptu_slave.proofs.events.take_signaling.Goals as goal

pub returns-clause-steps : goal.returns-clause-steps
returns-clause-steps c = λ openings judges L number tlvs are h.
    heard openings c.args.core.now c.begin-at.new.self c.hear.new.self judges L c.args.t c.begin-at.result c.args.master number tlvs c.args.signals.now c.begin-at.ensures.at
    c.begin-at.ensures.rest c.hear.ensures.rest are c.hear.ensures.asks h
