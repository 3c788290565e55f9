use Rattle.std.proofs.Common.{◌≡◌, [], subst, sym}
use Rattle.ptu_lanes.specs.{Crew.{LanesServed, turns_by}, Served.{TablesSent}}
use Rattle.ptu_lanes.proofs.Controlled.{serves_by_lanes}
use Rattle.ptu_lanes.proofs.serving.serve_under.Goals as goal

pub returns : goal.returns
returns g c =
    let lanes = c.in-Served.lanes in
    let done : LanesServed g.P.Port g.C.Clock c.args.settings.now c.args.base.now.config.now c.args.opened c.args.control lanes × (c.in-Served.seats.items ≡ []) =
    rw c.in-Served.is at c.in_ok-done.ensures in
    let closing = c.in_ok-back.ensures in
    serves_by_lanes g.P.Port g.C.Clock c.args.settings.now c.args.base.now.config.now c.args.opened c.in_ok-back.back c.args.control c.in_ok-back.control c.in_ok-back.totals lanes
    g.L.Rates.opened c.requires.ports done.0 closing.ports closing.clocks closing.tables closing.totals closing.held closing.together
    (subst (λ told. TablesSent g.P.Port told c.args.base.now.config.now g.L.Rates.opened c.in_ok-back.back lanes.control.tally.sent c.in_ok-back.totals.sent (turns_by lanes.sending)) c.requires.told
    (subst (λ config. TablesSent g.P.Port g.L.Rates.told config g.L.Rates.opened c.in_ok-back.back lanes.control.tally.sent c.in_ok-back.totals.sent (turns_by lanes.sending)) (sym c.requires.config) closing.sent))
