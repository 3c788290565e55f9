use Rattle.ptu_lanes.proofs.Hearing.{leaves_status}
use Rattle.ptu_lanes.proofs.service.Service.answer_or_leave.Goals as goal

pub returns-in_ok-reply-in-Status-clause-left : goal.returns-in_ok-reply-in-Status-clause-left
returns-in_ok-reply-in-Status-clause-left g c =
    let is = c.status-status.ensures in
    leaves_status g.P.Port c.args.command c.args.lane.now.done c.args.lane.now.class c.args.lane.now.in_force c.status-status.result _ _ c.in-Status.is
    (record { round_is = is.round; class_is = is.class; capacity_is = is.capacity }) c.in_ok-reply-in-Status.ensures.answered
