use Rattle.std.proofs.Common.{[], ◌∙◌, refl, sym}
use Rattle.ptu_outside.proofs.HandsOver.{hands_none}
use Rattle.ptu_slave.proofs.Sendings.{ticks_going, ticks_stopped}
use Rattle.ptu_slave.proofs.ticks.tick_all.Goals as goal

pub returns-then-is_stopped : goal.returns-then-is_stopped
returns-then-is_stopped g c = record {
  sends = rw c.none.ensures
      ([], ticks_stopped c.args.at c.args.core.now (sym c.is_stopped.ensures ∙ c.if-is_stopped.true), hands_none g.P.Port c.args.port.now);
}

pub returns : goal.returns
returns g c = record {
  sends = (
    c.send_all.ensures.sends.0,
    ticks_going _ c.args.at c.args.core.now c.send_all.new.core c.send_all.ensures.sends.0 refl (sym c.is_stopped.ensures ∙ c.if-is_stopped.false) c.send_all.ensures.sends.1,
    c.send_all.ensures.sends.2,
  );
}
