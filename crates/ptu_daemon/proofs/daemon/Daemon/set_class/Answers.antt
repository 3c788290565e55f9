use Rattle.std.proofs.Common.{refl}
use Rattle.ptu_daemon.proofs.{Orders.{class_does}, Running.{ran_event}}
use Rattle.ptu_daemon.proofs.daemon.Daemon.set_class.Goals as goal

pub returns : goal.returns
returns g c =
    ran_event g.P.Port g.C.Clock c.args.self.now _ c.now-at.result _ 0 0 c.now-at.ensures.first c.now-at.ensures.rest refl
    (class_does g.P.Port g.C.Clock c.args.class c.args.self.now.gm _ c.set_class.ensures.changed c.set_class.ensures.stands)
