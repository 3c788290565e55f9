use Rattle.ptu_slave.proofs.Happening.{announced}
use Rattle.ptu_slave.proofs.events.take_announce.Goals as goal

pub returns : goal.returns
returns c = announced c.args.core.now c.begin-at.new.self c.announce.new.self c.args.t c.begin-at.result c.begin-at.ensures.at c.begin-at.ensures.rest c.announce.ensures.rest
    c.args.master c.args.class c.announce.ensures.selects
