use Rattle.ptu_slave_messages.specs.Sending.{stop_plan, tick_plan}
use Rattle.ptu_slave.proofs.Sendings.{hands_stop, hands_tick, one_more_asked, one_more_ended}
use Rattle.ptu_slave.proofs.ticks.send_one.Goals as goal

pub returns-in-Tick-clause-sends : goal.returns-in-Tick-clause-sends
returns-in-Tick-clause-sends g c = rw c.in-Tick.is (λ first before all. (
  tick_plan c.args.master c.ask-plan.result,
  one_more_asked c.args.master c.args.at first c.args.core.now c.ask-plan.new.self before (tick_plan c.args.master c.ask-plan.result) all c.ask-plan.ensures.stated c.ask-plan.ensures.asks c.ask-plan.ensures.rest,
  hands_tick g.P.Port c.args.port.now c.send_tick.new.port c.args.core.now c.ask-plan.new.self c.args.master c.address.result c.config.result.now c.send_tick.result.sent c.send_tick.result.failed
      c.config.ensures c.address.ensures c.ask-plan.ensures.rest c.ask-plan.result c.send_tick.ensures.sends,
))

pub returns-in-Stop-clause-sends : goal.returns-in-Stop-clause-sends
returns-in-Stop-clause-sends g c = rw c.in-Stop.is (λ first before all. (
  stop_plan c.args.master c.end-plan.result,
  one_more_ended c.args.master c.args.at first c.args.core.now c.end-plan.new.self before (stop_plan c.args.master c.end-plan.result) all c.end-plan.ensures.stated c.end-plan.ensures.asks c.end-plan.ensures.rest,
  hands_stop g.P.Port c.args.port.now c.send_stop.new.port c.args.core.now c.end-plan.new.self c.args.master c.address-in-Stop.result c.config-in-Stop.result.now c.send_stop.result.sent c.send_stop.result.failed
      c.config-in-Stop.ensures c.address-in-Stop.ensures c.end-plan.ensures.rest c.end-plan.result c.send_stop.ensures.sends,
))
