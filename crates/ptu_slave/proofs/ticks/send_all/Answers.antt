use Rattle.std.proofs.Common.{[], ap, arith, length}
use Rattle.ptu_outside.proofs.HandsOver.{hands_none}
use Rattle.ptu_slave.proofs.Sendings.{none_sent, one_more_sent, sent_masters}
use Rattle.ptu_slave.proofs.ticks.send_all.Goals as goal

pub loop-master-init : goal.loop-master-init
loop-master-init g c = rw c.none-sends.ensures (record {
  sends = ([], none_sent c.args.occasion c.args.at c.args.core.now, hands_none g.P.Port c.args.port.now);
  few = omega arith;
})

pub send_one-requires : goal.send_one-requires
send_one-requires g c =
    let all = c.loop-master.invariant.sends in
    omega (arith, ap length (sent_masters c.args.occasion c.loop-master.master c.args.at c.args.core.now c.loop-master.core all.0 all.1), ap length c.masters-master-end.ensures.masters, c.loop-master-test.true)

pub loop-master-preserved : goal.loop-master-preserved
loop-master-preserved g c =
    let all = c.loop-master.invariant.sends in
    rw c.and-sends.ensures (record {
      sends = one_more_sent g.P.Port c.args.port.now c.loop-master.port c.send_one.new.port c.args.occasion c.loop-master.master c.args.at c.args.core.now c.loop-master.core c.send_one.new.core
          all.0 c.loop-master.sends.sent c.loop-master.sends.failed c.send_one.result.sent c.send_one.result.failed all.1 all.2 (c.send_one.ensures.sends c.args.core.now all.0 all.1);
      few = omega (arith, c.loop-master.invariant.few, c.send_one.ensures.few);
    })
