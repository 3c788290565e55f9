use Rattle.std.proofs.Common.{◌∙◌, ◌+◌, ap, subst, refl}
use Rattle.ptu_daemon.specs.Obeying.{Obeys}
use Rattle.ptu_daemon.proofs.daemon.Daemon.round_obeying.Goals as goal

pub returns-clause-did : goal.returns-clause-did
returns-clause-did g c = record {
  turned = c.round.new.self;
  round = c.in_ok-round.round;
  did = c.in_ok-round.ensures.did;
  small = c.in_ok-round.ensures.small;
  told = c.obey.new.self;
  obeyed = c.in_ok-obeyed.obeyed;
  obeys = subst (λ t. Obeys g.P.Port g.C.Clock c.args.key c.args.before t c.round.new.self c.obey.new.self c.args.control.now c.obey.new.control c.in_ok-obeyed.obeyed)
      c.plus-so_far.ensures c.in_ok-obeyed.ensures;
  waits = c.wait_unless.ensures;
  sent = ap (λ t. t.sent) c.plus.ensures ∙ ap (λ t. t.sent + c.in_ok-obeyed.obeyed.tally.sent) c.plus-so_far.ensures;
  failed = ap (λ t. t.failed) c.plus.ensures ∙ ap (λ t. t.failed + c.in_ok-obeyed.obeyed.tally.failed) c.plus-so_far.ensures;
  stops = refl;
}
