use Rattle.std.proofs.Common.{◌≡◌, ◌∙◌, ap, arith, length, subst}
use Rattle.std.proofs.lemmas.Bool.{false≢true}
use Rattle.std.specs.Prelude.{IfSome}
use Rattle.ptu_shared.specs.Turning.{Turns, turns_in}
use Rattle.ptu_lanes.proofs.serving.close.Goals as goal

pub returns-clause-tables : goal.returns-clause-tables
returns-clause-tables g c =
    let f = c.in-Ok.ensures in
    record {
      waits = f.opened;
      of0 = c.in-Ok.tallies.p0.failed;
      of1 = c.in-Ok.tallies.p1.failed;
      of2 = c.in-Ok.tallies.p2.failed;
      of3 = c.in-Ok.tallies.p3.failed;
      all = c.failed_by.ensures;
      failed0 = f.failures.0;
      failed1 = f.failures.1;
      failed2 = f.failures.2;
      failed3 = f.failures.3;
    }

pub returns-clause-sent : goal.returns-clause-sent
returns-clause-sent g c =
    let sends = c.in-Ok.ensures.lawful in
    let turner = c.into_parts-turner.ensures.turner in (
      record { p0 = sends.0.0; p1 = sends.1.0; p2 = sends.2.0; p3 = sends.3.0 },
      omega (arith, c.sent_by.ensures, sends.0.1, sends.1.1, sends.2.1, sends.3.1),
      subst (λ (t : Turns). IfSome t.t0 (λ n. turns_in sends.0.0.parts ≡ n)) turner sends.0.2,
      subst (λ (t : Turns). IfSome t.t1 (λ n. turns_in sends.1.0.parts ≡ n)) turner sends.1.2,
      subst (λ (t : Turns). IfSome t.t2 (λ n. turns_in sends.2.0.parts ≡ n)) turner sends.2.2,
      subst (λ (t : Turns). IfSome t.t3 (λ n. turns_in sends.3.0.parts ≡ n)) turner sends.3.2,
    )

pub unreachable-requires : goal.unreachable-requires
unreachable-requires g c =
    let none : c.args.seats.len ≡ 0 = c.args.seats.ok.0 ∙ ap length c.requires.seats in
    false≢true (c.in_default.ensures.all (omega (arith, none, c.in_ok-push.ensures.len, c.requires.ledger.1)))
