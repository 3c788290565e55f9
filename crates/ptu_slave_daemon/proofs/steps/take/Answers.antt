use Rattle.std.proofs.Common.{[], ◌∷◌, ap, refl}
use Rattle.ptu_slave.specs.Seen.{Seen}
use Rattle.ptu_outside.specs.Replies.{reply_failed, reply_sent}
use Rattle.ptu_slave_messages.specs.Heard.{reply_in}
use Rattle.ptu_slave_daemon.specs.Happenings.{Arrives}
use Rattle.ptu_slave_daemon.proofs.{Events.{ran_taken}, Ports.{port_handed}, Times.{timed_one}}
use Rattle.ptu_slave_daemon.proofs.steps.take.Goals as goal

pub returns-clause-ran : goal.returns-clause-ran
returns-clause-ran g c = λ node L h. (
  reply_sent (reply_in c.in_ok-heard.heard),
  reply_failed (reply_in c.in_ok-heard.heard),
  c.count_reply.ensures.counted,
  (
    Arrives (record { ip = c.args.from; bytes = c.args.octets.now }) c.now-at.result ∷ [],
    ran_taken g.P.Port.counts_once node L _ _ c.now-at.result h c.take.ensures.same (record { ip = c.args.from; bytes = c.args.octets.now }) _ _
        (timed_one _ _ c.now-at.result (λ at. Arrives (record { ip = c.args.from; bytes = c.args.octets.now }) at) (g.met.C.Clock.never_empty c.args.clock.now) c.now-at.ensures.first c.now-at.ensures.rest)
        (λ reason is. (ap (λ (s : Seen _ _). s.kept) (c.take.ensures.ignored reason is), ap (λ (s : Seen _ _). s.judges) (c.take.ensures.ignored reason is)))
        (λ m message is. c.in_ok-heard.ensures.steps m message is refl node.openings L h.stands)
        (port_handed g.P.Port _ _ _ _ _ c.in_ok-heard.ensures.sends),
  ),
)
