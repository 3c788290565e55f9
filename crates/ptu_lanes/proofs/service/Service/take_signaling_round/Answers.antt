use Rattle.std.proofs.Common.{◌≡◌, ◌∙◌, arith, ap, is_some, sym}
use Rattle.ptu_lanes.specs.Orders.{LaneAt}
use Rattle.ptu_lanes.proofs.{OneRound.{order_may, round_is}, Outcomes.{ok_of}}
use Rattle.ptu_lanes.proofs.service.Service.take_signaling_round.Goals as goal

pub take_and_hear-heard-requires-clause-done : goal.take_and_hear-heard-requires-clause-done
take_and_hear-heard-requires-clause-done g c κs within =
    let begun = c.in_ok-lane.ensures.done in
    omega (arith, begun, c.requires.left.1)

pub overflow_add-lane : goal.overflow_add-lane
overflow_add-lane g c =
    let begun = c.in_ok-lane.ensures.done in
    let heard = ok_of c.take_and_hear-heard.result _ _ c.in_ok-lane-2.ensures c.take_and_hear-heard.ensures in
    let at : c.in_ok-lane-2.lane.done ≡ c.in_ok-lane.lane.done = ap (λ (a : LaneAt). a.before) heard.took.beside.at in
    let obeyed = c.in_ok-lane-3.ensures.done in
    omega (arith, begun, at, obeyed, c.requires.left.1)

pub returns : goal.returns
returns g c =
    round_is g.P.Port g.C.Clock g.L.Rates.most c.args.settings.now c.args.self.now.base.now.config.now c.args.lane c.in_ok-lane.lane c.in_ok-lane-2.lane c.in_ok-lane-3.lane c.in_ok-lane-2.order
    c.in_ok-lane.ensures (ok_of c.take_and_hear-heard.result _ _ c.in_ok-lane-2.ensures c.take_and_hear-heard.ensures) c.in_ok-lane-3.ensures

pub obey_any-requires-clause-told : goal.obey_any-requires-clause-told
obey_any-requires-clause-told g c = λ κs lives.
    let heard = ok_of c.take_and_hear-heard.result _ _ c.in_ok-lane-2.ensures c.take_and_hear-heard.ensures in
    let told = c.requires.told ∙ sym (ap is_some c.in_ok-lane.ensures.control) in
    order_may g.P.Port c.args.settings.now g.L.Rates.told g.L.Rates.most heard.spoken _ _ _ c.in_ok-lane-2.order heard.left heard.spoke told c.requires.most
