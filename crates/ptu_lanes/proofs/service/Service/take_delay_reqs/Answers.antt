use Rattle.ptu_lanes.proofs.Stretching.{delays_one, delays_waited}
use Rattle.ptu_lanes.proofs.service.Service.take_delay_reqs.Goals as goal

pub returns : goal.returns
returns g c =
    let did = c.in_ok-delays.ensures in
    let waited = c.wait.ensures in
    delays_waited g.P.Port g.C.Clock 1 _ _ _ _ _ _ _ waited.sent waited.waiting waited.quiet
    (delays_one g.P.Port g.C.Clock _ _ _ _ _ _ _ did.round did.took did.unsent did.failed did.once c.saturating_add.ensures)
