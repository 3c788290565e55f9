use Rattle.std.proofs.Common.{◌∙◌, Some, ap}
use Rattle.ptu_lanes.proofs.Hearing.{leaves_cause}
use Rattle.ptu_lanes.proofs.service.Service.answer_any.Goals as goal

pub returns-in_ok-reply-in-Some-Err-clause-left : goal.returns-in_ok-reply-in-Some-Err-clause-left
returns-in_ok-reply-in-Some-Err-clause-left g c =
    leaves_cause g.P.Port c.args.asked _ c.args.lane.now.done c.args.lane.now.class c.args.lane.now.in_force _ _ (c.in-Some-Err.is ∙ ap Some c.in-Some-Err.field-0-is) c.in_ok-reply-in-Some-Err.ensures.answered
