use Rattle.std.proofs.{Common.{refl}, lemmas.Result.{IfErr-at_err}}
use Rattle.ptu_config.specs.{Entries.{gm_entries}, Refusals.{gm_refusal}}
use Rattle.ptu_run.proofs.DaemonRuns.{daemon_ended, no_audit_of_daemon, no_audit_of_refused, refused_ended, unread_ended, opens_counted, writes_counted, served_as, served_on_ok, ran}
use Rattle.ptu_run.proofs.daemons.run_serve.Goals as goal

pub returns-in-Ok-clause-ended : goal.returns-in-Ok-clause-ended
returns-in-Ok-clause-ended g c =
    rw c.daemon_status.ensures (daemon_ended _ _ _ _ _ _ c.serve_by.result c.in-Ok.ensures.counts (writes_counted g.K.Sink _ _ _ _ _ _ _ _ _ c.serve_by.result c.serve_by.ensures.answer) (opens_counted g.K.Sink _ _ _ _ _ _ _ _ _ c.serve_by.result c.serve_by.ensures.answer))

pub returns-in-Ok-clause-no_audit : goal.returns-in-Ok-clause-no_audit
returns-in-Ok-clause-no_audit g c = rw c.daemon_status.ensures (no_audit_of_daemon c.serve_by.result)

pub returns-in-Err-Refused-clause-no_audit : goal.returns-in-Err-Refused-clause-no_audit
returns-in-Err-Refused-clause-no_audit g c = no_audit_of_refused c.write_refusal.result c.write_refusal.ensures.statuses

pub returns-in-Ok-clause-bounded : goal.returns-in-Ok-clause-bounded
returns-in-Ok-clause-bounded g c = record { taken = c.gm_setup.ensures.taken; ends = c.gm_setup.ensures.ends }

pub returns-in-Ok-clause-served : goal.returns-in-Ok-clause-served
returns-in-Ok-clause-served g c =
    rw c.daemon_status.ensures
    (ran gm_entries gm_refusal (g.S.Source.left c.args.source.now) (g.S.Source.left c.gm_setup.new.source)
    g.K.Sink.written g.K.Sink.handed c.args.sink.now c.serve_by.new.sink c.args.host.now c.serve_by.new.host _ _ _ c.gm_setup.ensures.taken c.in-Ok.settings
    (record { read = c.in-Ok.ensures.set_up; input = c.in-Ok.ensures.answers }) c.serve_by.result
    (served_on_ok _ c.serve_by.result _ _ _ c.in-Ok.settings c.serve_by.ensures.answer.at c.serve_by.ensures.answer.spoken_at c.serve_by.ensures.answer.served)
    (λ e. (served_as c.serve_by.result _ _ _ _ c.in-Ok.settings c.serve_by.ensures.answer.at c.serve_by.ensures.answer.spoken_at e, IfErr-at_err _ e c.serve_by.ensures.answer.part refl))
    (λ e. IfErr-at_err _ e c.serve_by.ensures.answer.nothing (λ never. cc))
    (λ e. (served_as c.serve_by.result _ _ _ _ c.in-Ok.settings c.serve_by.ensures.answer.at c.serve_by.ensures.answer.spoken_at e, IfErr-at_err _ e c.serve_by.ensures.answer.nothing (λ never. cc))))

pub returns-in-Err-Refused-clause-ended : goal.returns-in-Err-Refused-clause-ended
returns-in-Err-Refused-clause-ended g c =
    refused_ended _ _ _ _ _ c.write_refusal.result c.write_refusal.ensures.statuses (rw c.in-Err-Refused.field-0-is at c.in-Err-Refused.ensures.counts) c.write_refusal.ensures.fault c.write_refusal.ensures.still

pub returns-in-Err-Read-clause-ended : goal.returns-in-Err-Read-clause-ended
returns-in-Err-Read-clause-ended g c = unread_ended _ _ _ _ (rw c.in-Err-Read.field-0-is at c.in-Err-Read.ensures.counts)
