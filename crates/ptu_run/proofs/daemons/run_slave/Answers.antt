use Rattle.std.proofs.Common.{rules, ◌≡◌, length, refl}
use Rattle.ptu_config.specs.{Entries.{slave_entries}, Refusals.{slave_refusal}}
use Rattle.ptu_run.proofs.DaemonRuns.{no_audit_of_daemon, no_audit_of_refused, if_on_err, daemon_ended, refused_ended, unread_ended, opened_as, opened_on_ok, ran, ran_refused}
use Rattle.ptu_run.proofs.daemons.run_slave.Goals as goal

pub returns-in-Ok-clause-ended : goal.returns-in-Ok-clause-ended
returns-in-Ok-clause-ended g c =
    rw c.daemon_status.ensures (daemon_ended _ _ _ _ _ _ c.slave.result c.in-Ok.ensures.counts c.slave.ensures.sink_counts c.slave.ensures.host_counts)

pub returns-in-Ok-clause-no_audit : goal.returns-in-Ok-clause-no_audit
returns-in-Ok-clause-no_audit g c = rw c.daemon_status.ensures (no_audit_of_daemon c.slave.result)

pub returns-in-Err-Refused-clause-no_audit : goal.returns-in-Err-Refused-clause-no_audit
returns-in-Err-Refused-clause-no_audit g c = no_audit_of_refused c.write_refusal.result c.write_refusal.ensures.statuses

pub returns-in-Ok-clause-bounded : goal.returns-in-Ok-clause-bounded
returns-in-Ok-clause-bounded g c = record { taken = c.slave_setup.ensures.taken; ends = c.slave_setup.ensures.ends }

pub returns-in-Ok-clause-followed : goal.returns-in-Ok-clause-followed
returns-in-Ok-clause-followed g c =
    let flags : c.len.result ≡ length c.args.stock.flags.items = search rules in
    let gaps : c.len-2.result ≡ length c.args.stock.gaps.items = search rules in
    rw (c.daemon_status.ensures, ← flags, ← gaps)
    (ran slave_entries (slave_refusal c.len.result c.len-2.result) (g.S.Source.left c.args.source.now) (g.S.Source.left c.slave_setup.new.source)
    g.K.Sink.written g.K.Sink.handed c.args.sink.now c.slave.new.sink c.args.host.now c.slave.new.host _ _ _ c.slave_setup.ensures.taken c.in-Ok.settings
    (record { read = c.in-Ok.ensures.set_up; input = c.in-Ok.ensures.answers }) c.slave.result
    (opened_on_ok _ c.slave.result _ _ c.slave.ensures.at c.slave.ensures.served)
    (λ e. (opened_as c.slave.result _ _ _ c.slave.ensures.at e, (if_on_err c.slave.result _ e c.slave.ensures.part, c.slave.ensures.stopped e)))
    c.slave.ensures.nothing
    (λ e. (opened_as c.slave.result _ _ _ c.slave.ensures.at e, if_on_err c.slave.result _ e c.slave.ensures.part)))

pub returns-in-Err-Refused-clause-ended : goal.returns-in-Err-Refused-clause-ended
returns-in-Err-Refused-clause-ended g c =
    refused_ended _ _ _ _ _ c.write_refusal.result c.write_refusal.ensures.statuses (rw c.in-Err-Refused.field-0-is at c.in-Err-Refused.ensures.counts) c.write_refusal.ensures.fault c.write_refusal.ensures.still

pub returns-in-Err-Read-clause-ended : goal.returns-in-Err-Read-clause-ended
returns-in-Err-Read-clause-ended g c = unread_ended _ _ _ _ (rw c.in-Err-Read.field-0-is at c.in-Err-Read.ensures.counts)

pub returns-in-Err-Refused-clause-followed : goal.returns-in-Err-Refused-clause-followed
returns-in-Err-Refused-clause-followed g c =
    let flags : c.len.result ≡ length c.args.stock.flags.items = search rules in
    let gaps : c.len-2.result ≡ length c.args.stock.gaps.items = search rules in
    let e = rw c.in-Err-Refused.field-0-is at c.in-Err-Refused.ensures in
    rw (← flags, ← gaps)
    (ran_refused slave_entries (slave_refusal c.len.result c.len-2.result) (g.S.Source.left c.args.source.now) (g.S.Source.left c.slave_setup.new.source)
    g.K.Sink.written g.K.Sink.handed c.args.sink.now c.write_refusal.new.sink c.args.host.now c.args.host.now _ _ _ c.slave_setup.ensures.taken c.in-Err-Refused.line
    (record { read = e.set_up; input = e.answers }) c.write_refusal.result c.write_refusal.ensures.statuses c.write_refusal.ensures.whole
    c.write_refusal.ensures.part c.write_refusal.ensures.nothing refl)
