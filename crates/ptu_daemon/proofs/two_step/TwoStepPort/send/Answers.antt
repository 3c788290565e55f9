use Rattle.std.proofs.Common.{sym}
use Rattle.ptu_daemon.proofs.{Handing.{kept_none, pair_told, tells_in_two}, Pairs.{told-send}}
use Rattle.ptu_daemon.proofs.two_step.TwoStepPort.send.Goals as goal

pub returns-clause-handed : goal.returns-clause-handed
returns-clause-handed g c =
    rw (← c.self.view_is, c.is_err.ensures.value, c.is_half.ensures)
    (told-send c.self.inside.is_flagged c.hand_by-sent.result (g.P.Port.sent c.self.inside.port) (g.P.Port.sent c.hand_by-sent.new.port)
    (record { ip = c.args.ip; channel = c.args.channel; bytes = c.args.bytes.now }) c.find_step-step.result (sym c.find_step-step.ensures)
    (pair_told g.P.Port _ _ _ c.hand_by-sent.result c.hand_by-sent.ensures))

pub returns-clause-kept : goal.returns-clause-kept
returns-clause-kept g c =
    rw (← c.self.view_is, c.is_err.ensures.value)
    (kept_none c.self.inside.is_flagged c.is_half.result c.hand_by-sent.result (g.P.Port.sent c.self.inside.port) (g.P.Port.sent c.hand_by-sent.new.port))

pub returns-clause-goes_on : goal.returns-clause-goes_on
returns-clause-goes_on g c =
    rw (← c.self.view_is, c.is_err.ensures.value, c.is_half.ensures)
    (tells_in_two g.P.Port c.self.inside.is_flagged c.self.inside.port c.hand_by-sent.new.port
    (record { ip = c.args.ip; channel = c.args.channel; bytes = c.args.bytes.now }) c.find_step-step.result c.hand_by-sent.result
    (sym c.find_step-step.ensures) c.hand_by-sent.ensures)
