use Rattle.ptu_lanes.proofs.Beginning.{obeyed_one}
use Rattle.ptu_lanes.proofs.service.Service.obey.Goals as goal

pub returns : goal.returns
returns g c =
    obeyed_one g.P.Port g.C.Clock c.args.self.now.base.now.config.now c.args.order c.args.lane c.execute.new.lane _ c.in_ok-reply.reply c.in_ok-reply.ensures c.reply.ensures.rest c.in_ok-reply-2.ensures.answered
