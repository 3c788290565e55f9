use Rattle.std.proofs.Common.{◌≡◌, ◌∙◌, Some, arith, sym}
use Rattle.ptu_lanes.specs.Changing.{new_with}
use Rattle.ptu_lanes.proofs.{Beginning.{begun_changed, begun_none, new_within, on_ok_is, ordered_within}, Outcomes.{ok_of}}
use Rattle.ptu_lanes.proofs.service.Service.begin_signaling.Goals as goal

pub returns-in_default : goal.returns-in_default
returns-in_default g c =
    begun_none g.P.Port g.C.Clock c.args.self.now.base.now.config.now c.args.settings.now c.args.lane (omega arith) (sym c.capacity_with.ensures ∙ c.in_default.is)

pub returns : goal.returns
returns g c =
    let changed = c.change_capacity-changed in
    let some : new_with c.args.settings.now c.args.lane.done ≡ Some c.in-Some.capacity = sym c.capacity_with.ensures ∙ c.in-Some.is in
    begun_changed g.P.Port g.C.Clock c.args.self.now.base.now.config.now c.args.settings.now c.args.lane changed.new.lane c.in-Some.capacity _ some
    (ok_of changed.result _ _ c.in_ok-met.ensures changed.ensures.sends) (ok_of changed.result _ _ c.in_ok-met.ensures changed.ensures.moment)
    changed.ensures.seat (on_ok_is changed.result _ c.in_ok-met.ensures changed.ensures.in_force ∙ c.of.ensures) changed.ensures.rest

pub change_capacity-changed-requires-clause-most : goal.change_capacity-changed-requires-clause-most
change_capacity-changed-requires-clause-most g c = λ κs lives.
    let some : new_with c.args.settings.now c.args.lane.done ≡ Some c.in-Some.capacity = sym c.capacity_with.ensures ∙ c.in-Some.is in
    let within = ordered_within g.L.Rates.told c.args.settings.now c.in-Some.capacity (new_within c.args.settings.now c.args.lane.done c.in-Some.capacity some c.requires.left) (omega arith) in
    omega (arith, c.of.ensures, c.requires.most, within)
