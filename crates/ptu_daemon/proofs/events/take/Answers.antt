use Rattle.ptu_daemon.proofs.events.take.Goals as goal
use Rattle.ptu_daemon.proofs.Taking.{take_does}

pub returns-clause-does : goal.returns-clause-does
returns-clause-does g c =
    let e = c.in_ok-taken.ensures in
    rw c.give_back.ensures (take_does g.P.Port c.args.at c.args.from c.args.bytes.now c.in_ok-taken.taken c.tally_of-tally.result.sent c.tally_of-tally.result.failed c.args.gm.now c.take.new.self
    c.tally_of-tally.ensures.sent c.tally_of-tally.ensures.failed e.answer e.ignored e.delay e.reply e.ports e.waiting e.config e.comes e.stands)
