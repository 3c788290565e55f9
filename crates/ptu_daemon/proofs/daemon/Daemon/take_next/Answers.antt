use Rattle.std.proofs.Common.{subst, Ok, Some}
use Rattle.ptu_daemon.specs.Ran.{Received}
use Rattle.ptu_daemon.proofs.daemon.Daemon.take_next.Goals as goal
use Rattle.ptu_daemon.proofs.Channels.{received_taken}

pub returns-in_ok-take-in-Ok-Some : goal.returns-in_ok-take-in-Ok-Some
returns-in_ok-take-in-Ok-Some g c =
    let tally = c.in_ok-take-in-Ok-Some.field-0 in
    let received : Received g.P.Port g.C.Clock c.args.channel c.args.self.now c.receive.new.self c.receive.new.buf (Ok (Some (c.in-Ok-Some.from, c.in-Ok-Some.length))) =
    subst (λ got. Received g.P.Port g.C.Clock c.args.channel c.args.self.now c.receive.new.self c.receive.new.buf (Ok got)) c.in-Ok-Some.field-0-is c.in-Ok-Some.ensures in (
      _,
      received_taken g.P.Port g.C.Clock c.args.channel c.args.self.now c.receive.new.self c.take.new.self _ tally.sent tally.failed
          received.1 c.in_ok-take-in-Ok-Some.ensures.ran,
      c.in_ok-take-in-Ok-Some.ensures.small,
    )
