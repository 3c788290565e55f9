use Rattle.ptu_lanes.proofs.OneRound.{heard_is}
use Rattle.ptu_lanes.proofs.service.Service.take_and_hear.Goals as goal

pub returns : goal.returns
returns g c =
    heard_is g.P.Port g.C.Clock g.L.Rates.most c.args.settings.now c.args.self.now.base.now.config.now c.args.lane c.in_ok-lane.lane c.hear-asked.new.lane c.answer_any.new.lane
    c.hear-asked.result c.in_ok-order.order c.in_ok-lane.ensures.took c.in_ok-lane.ensures.control c.hear-asked.ensures.heard c.hear-asked.ensures.rest
    c.in_ok-order.ensures.left c.answer_any.ensures.rest
