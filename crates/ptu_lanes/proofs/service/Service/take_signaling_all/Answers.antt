use Rattle.std.proofs.Common.{◌≡◌, ◌∙◌, arith, ap, sym}
use Rattle.ptu_shared.specs.Seats.{SeatCounts}
use Rattle.ptu_config.specs.Rounds.{all_rounds}
use Rattle.ptu_lanes.specs.Orders.{peak_ordered}
use Rattle.ptu_lanes.proofs.AllRounds.{goes_on_more, goes_on_none, rounds_before, served_stopped, served_whole, still_spoken}
use Rattle.ptu_lanes.proofs.service.Service.take_signaling_all.Goals as goal

pub loop-i-init : goal.loop-i-init
loop-i-init g c = goes_on_none g.P.Port g.C.Clock g.L.Rates.most c.args.settings.now c.args.self.now.base.now.config.now c.args.lane c.requires.fresh

pub loop-i-preserved : goal.loop-i-preserved
loop-i-preserved g c =
    goes_on_more g.P.Port g.C.Clock g.L.Rates.most c.args.settings.now c.args.self.now.base.now.config.now c.loop-i._i c.args.lane c.loop-i.lane c.in_ok-lane.lane c.loop-i.invariant
    c.in_ok-lane.ensures c.if-lane.false

pub take_signaling_round-requires-clause-told : goal.take_signaling_round-requires-clause-told
take_signaling_round-requires-clause-told g c = λ κs lives.
    c.requires.told ∙ sym (still_spoken g.P.Port _ _ c.args.lane.control c.loop-i.lane.control c.loop-i.invariant.so_far.spoke)

pub take_signaling_round-requires-clause-left : goal.take_signaling_round-requires-clause-left
take_signaling_round-requires-clause-left g c = λ κs lives.
    let n = rounds_before g.P.Port g.C.Clock g.L.Rates.most c.args.settings.now c.args.self.now.base.now.config.now c.loop-i._i c.args.lane c.loop-i.lane c.loop-i.invariant.so_far in
    let all = c.all_rounds-i-end.ensures in
    (omega (arith, n, c.loop-i-test.true, all.value), omega (arith, n, c.loop-i-test.true, all.range c.requires.range))

pub take_signaling_round-requires-clause-counts : goal.take_signaling_round-requires-clause-counts
take_signaling_round-requires-clause-counts g c = λ κs lives.
    let granted = ap (λ (s : SeatCounts). s.granted) c.requires.seat in
    let refused = ap (λ (s : SeatCounts). s.refused) c.requires.seat in
    let few = c.all_rounds-i-end.ensures.range c.requires.range in
    let s = c.loop-i.invariant.so_far.most in
    (omega (arith, granted, refused, few, s, c.loop-i-test.true), omega (arith, granted, refused, few, s, c.loop-i-test.true))

pub returns-then-lane : goal.returns-then-lane
returns-then-lane g c =
    served_stopped g.P.Port g.C.Clock g.L.Rates.most c.args.settings.now c.args.self.now.base.now.config.now c.loop-i._i c.args.lane c.loop-i.lane c.in_ok-lane.lane c.loop-i.invariant
    c.in_ok-lane.ensures c.if-lane.true (omega (arith, c.loop-i-test.true, c.all_rounds-i-end.ensures.value)) c.requires.fresh c.requires.seat c.requires.tally
    (c.requires.most ∙ ap (λ t. peak_ordered t c.args.settings.now) c.requires.told)

pub returns : goal.returns
returns g c =
    let all : c.loop-i._i ≡ all_rounds c.args.settings.now = omega (arith, c.loop-i-test.false, c.loop-i.auto._i-end, c.all_rounds-i-end.ensures.value) in
    served_whole g.P.Port g.C.Clock g.L.Rates.most c.args.settings.now c.args.self.now.base.now.config.now c.loop-i._i c.args.lane c.loop-i.lane all c.loop-i.invariant
    c.requires.fresh c.requires.seat c.requires.tally (c.requires.most ∙ ap (λ t. peak_ordered t c.args.settings.now) c.requires.told)
