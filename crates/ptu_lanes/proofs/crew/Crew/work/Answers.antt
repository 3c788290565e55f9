use Rattle.std.proofs.Common.{◌≡◌, ◌∙◌, refl, ap, arith, subst}
use Rattle.ptu_shared.specs.Turning.{all_turns, own_turns}
use Rattle.ptu_lanes.specs.declared.lanes.{ControlLane.{ControlLane}, EventLane.{EventLane}, SendingLanes.{SendingLanes}}
use Rattle.ptu_lanes.specs.{Crew.{ServedAs}, Stretches.{EventLaneDid, HaveTurned, TookDelayReqs}}
use Rattle.ptu_lanes.proofs.Outcomes.{came_left, came_served}
use Rattle.ptu_lanes.proofs.crew.Crew.work.Goals as goal

pub returns-then-is_some : goal.returns-then-is_some
returns-then-is_some g c =
    let event = came_left _ _ c.called.result c.in_ok-event.event (c.start_event-event.ensures c.called.result c.called.ensures) c.in_ok-event.ensures in
    let begun = c.sending_lanes-sending in
    let sending = c.in_ok-sending.ensures begun.result c.start_all_sending-sending.ensures in
    let port : c.in_ok-event.event.port ≡ c.args.opened.p5 = ap (λ (l : EventLane _ _). l.port) (event ∙ c.new.ensures) in
    let clock : c.in_ok-event.event.clock ≡ c.args.opened.c1 = ap (λ (l : EventLane _ _). l.clock) (event ∙ c.new.ensures) in
    let first : c.into_parts-c2.result.1.0 ≡ c.args.opened.c2 = c.into_parts-c2.ensures.clocks.0 ∙ ap (λ (s : SendingLanes _ _). s.first.clock) sending ∙ begun.ensures.clocks.0 in
    let second : c.into_parts-c2.result.1.1 ≡ c.args.opened.c3 = c.into_parts-c2.ensures.clocks.1 ∙ ap (λ (s : SendingLanes _ _). s.second.clock) sending ∙ begun.ensures.clocks.1 in
    let third : c.into_parts-c2.result.1.2 ≡ c.args.opened.c4 = c.into_parts-c2.ensures.clocks.2 ∙ ap (λ (s : SendingLanes _ _). s.third.clock) sending ∙ begun.ensures.clocks.2 in
    let fourth : c.into_parts-c2.result.1.3 ≡ c.args.opened.c5 = c.into_parts-c2.ensures.clocks.3 ∙ ap (λ (s : SendingLanes _ _). s.fourth.clock) sending ∙ begun.ensures.clocks.3 in
    (rw (port, clock, first, second, third, fourth) refl, refl)

pub returns : goal.returns
returns g c =
    let came = came_served _ _ c.call_control.result c.in_ok-control.control c.call_control.ensures c.in_ok-control.ensures in
    let control = subst (λ (l : ControlLane _ _ _ _). ServedAs g.P.Port g.C.Clock c.args.settings.now c.args.self.now.base.now.config.now l c.in_ok-control.control) c.new-control.ensures came in
    let begun = c.sending_lanes-sending in
    let lanes = c.sender_count.result in
    let few = c.sender_count.ensures in
    let done = c.in_ok-event-2.event.done in
    let did : EventLaneDid g.P.Port g.C.Clock done c.new.result c.in_ok-event-2.event =
    came_served _ _ c.called-2.result c.in_ok-event-2.event (c.start_event-event.ensures c.called-2.result c.called-2.ensures) c.in_ok-event-2.ensures in
    let event : TookDelayReqs g.P.Port g.C.Clock done c.args.opened.p5 c.in_ok-event-2.event.port c.args.opened.c1 c.in_ok-event-2.event.clock
    0 c.in_ok-event-2.event.failed = subst (λ (l : EventLane _ _). EventLaneDid g.P.Port g.C.Clock done l c.in_ok-event-2.event) c.new.ensures did in
    let turned : HaveTurned g.C.Clock begun.result c.in_ok-sending-2.sending = c.in_ok-sending-2.ensures begun.result c.start_all_sending-sending.ensures in
    let own = c.share_out-turners.ensures in
    let all = c.open-ledgers.ensures.turner in
    let first : begun.result.first.turner ≡ own_turns lanes 0 all_turns = begun.ensures.turners.0 ∙ own.first ∙ ap (own_turns lanes 0) all in
    let second : begun.result.second.turner ≡ own_turns lanes 1 all_turns = begun.ensures.turners.1 ∙ own.second ∙ ap (own_turns lanes 1) all in
    let third : begun.result.third.turner ≡ own_turns lanes 2 all_turns = begun.ensures.turners.2 ∙ own.third ∙ ap (own_turns lanes 2) all in
    let fourth : begun.result.fourth.turner ≡ own_turns lanes 3 all_turns = begun.ensures.turners.3 ∙ own.fourth ∙ ap (own_turns lanes 3) all in
    let clocks = begun.ensures.clocks in (
      record {
        lanes_are = (omega (arith, few.value, c.requires.senders), omega (arith, few.value, few.most));
        control = control;
        event = event;
        first = rw (clocks.0, first, few.value) at turned.first;
        second = rw (clocks.1, second, few.value) at turned.second;
        third = rw (clocks.2, third, few.value) at turned.third;
        fourth = rw (clocks.3, fourth, few.value) at turned.fourth;
      },
      c.in_ok-seat.ensures.others,
    )
