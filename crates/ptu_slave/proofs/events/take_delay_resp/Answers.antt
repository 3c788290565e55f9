use Rattle.ptu_slave.proofs.Happening.{responded}
use Rattle.ptu_slave.proofs.events.take_delay_resp.Goals as goal

pub returns : goal.returns
returns c = responded c.args.core.now c.begin-at.new.self c.resp.new.self c.args.t c.begin-at.result c.begin-at.ensures.at c.begin-at.ensures.rest c.resp.ensures.rest
    c.args.master c.args.seq (c.resp.ensures.selects c.args.seq)
