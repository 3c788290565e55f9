use Rattle.std.proofs.Common.{◌*◌, ◌+◌, ◌≤◌, List, map}
use Rattle.ptu_outside.specs.HandsOver.{HandsOver}
use Rattle.ptu_record.specs.Tick.{Sending}
use Rattle.ptu_slave_messages.specs.Sending.{sending_departure}
use Rattle.ptu_profile.specs.Target.{all_ones}
use Rattle.ptu_slave.specs.Parts.{AllSent}
use Rattle.ptu_slave.proofs.ticks.send_all.Given as goal

abbrev pub invariant-loop-master : goal.invariant-loop-master
invariant-loop-master g l = record {
  sends : (sendings : List Sending) × AllSent l.fn.occasion l.master l.fn.at l.initial.core l.core sendings
      × HandsOver g.P.Port l.initial.port l.port
      (map (sending_departure l.initial.core.config l.initial.core.masters all_ones) sendings) l.sends.sent l.sends.failed;
  few : l.sends.sent + l.sends.failed ≤ 2 * l.master;
}
