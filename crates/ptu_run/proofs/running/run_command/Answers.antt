use Rattle.std.proofs.Common.{rules, arith, ◌≡◌, ◌∙◌, refl, sym, subst}
use Rattle.ptu_run.specs.declared.command.Command.TheVariants.{Audit}
use Rattle.ptu_run.specs.Run.{HasAudited, status_found}
use Rattle.ptu_run.proofs.Answered.{ended_by, has_ended, joined_run, no_audit, poured_run, read_failed, reads_less, replayed, shown, unless_failed}
use Rattle.ptu_run.proofs.{Audited.{is_found}, Loaded.{has_loaded, loaded, reads_nothing}}
use Rattle.ptu_run.proofs.running.run_command.Goals as goal

pub returns-in-Replay-clause-ended : goal.returns-in-Replay-clause-ended
returns-in-Replay-clause-ended g c = rw c.status_of.ensures (has_ended _ _ _ _ _ c.replay.result c.replay.ensures.ran.source_counts c.replay.ensures.ran.sink_counts)

pub returns-in-Replay-clause-output : goal.returns-in-Replay-clause-output
returns-in-Replay-clause-output g c = λ lab input told.
    rw (c.status_of.ensures, c.in-Replay.is)
    (unless_failed g.K.Sink.written g.K.Sink.handed c.args.sink.now c.replay.new.sink _ _ input _ c.replay.result _ _ _ _ c.replay.ensures.ran.source_counts c.replay.ensures.ran.sink_counts
    (λ is. replayed g.K.Sink.written g.K.Sink.handed c.args.sink.now c.replay.new.sink _ input _ c.replay.result is (c.replay.ensures.whole input told) c.replay.ensures.ran.end))

pub returns-in-Show-clause-ended : goal.returns-in-Show-clause-ended
returns-in-Show-clause-ended g c = rw c.status_of-in-Show.ensures (has_ended _ _ _ _ _ c.show.result c.show.ensures.ran.source_counts c.show.ensures.ran.sink_counts)

pub returns-in-Show-clause-output : goal.returns-in-Show-clause-output
returns-in-Show-clause-output g c = λ lab input told.
    rw (c.status_of-in-Show.ensures, c.in-Show.is)
    (unless_failed g.K.Sink.written g.K.Sink.handed c.args.sink.now c.show.new.sink _ _ input _ c.show.result _ _ _ _ c.show.ensures.ran.source_counts c.show.ensures.ran.sink_counts
    (λ is. shown g.K.Sink.written g.K.Sink.handed c.args.sink.now c.show.new.sink _ input _ c.show.result is (c.show.ensures.whole input told) c.show.ensures.ran.end))

pub returns-in-Join-clause-ended : goal.returns-in-Join-clause-ended
returns-in-Join-clause-ended g c = rw c.status_of-in-Join.ensures (has_ended _ _ _ _ _ c.join.result c.join.ensures.ran.source_counts c.join.ensures.ran.sink_counts)

pub returns-in-Join-clause-output : goal.returns-in-Join-clause-output
returns-in-Join-clause-output g c = λ lab input told.
    rw (c.status_of-in-Join.ensures, c.in-Join.is)
    (unless_failed g.K.Sink.written g.K.Sink.handed c.args.sink.now c.join.new.sink _ _ input _ c.join.result _ _ _ _ c.join.ensures.ran.source_counts c.join.ensures.ran.sink_counts
    (λ is. joined_run g.K.Sink.written g.K.Sink.handed c.args.sink.now c.join.new.sink _ input _ c.join.result is (c.join.ensures.whole input told) c.join.ensures.ran.end))

pub returns-in-Pools-clause-ended : goal.returns-in-Pools-clause-ended
returns-in-Pools-clause-ended g c = rw c.status_of-in-Pools.ensures (has_ended _ _ _ _ _ c.pools.result c.pools.ensures.ran.source_counts c.pools.ensures.ran.sink_counts)

pub returns-in-Pools-clause-output : goal.returns-in-Pools-clause-output
returns-in-Pools-clause-output g c = λ lab input told.
    rw (c.status_of-in-Pools.ensures, c.in-Pools.is)
    (unless_failed g.K.Sink.written g.K.Sink.handed c.args.sink.now c.pools.new.sink _ _ input _ c.pools.result _ _ _ _ c.pools.ensures.ran.source_counts c.pools.ensures.ran.sink_counts
    (λ is. poured_run g.K.Sink.written g.K.Sink.handed c.args.sink.now c.pools.new.sink _ input _ c.pools.result is (c.pools.ensures.whole input told) c.pools.ensures.ran.end))

pub returns-in-Load-clause-ended : goal.returns-in-Load-clause-ended
returns-in-Load-clause-ended g c = rw c.status_of-in-Load.ensures (has_ended _ _ _ _ _ c.load.result (reads_nothing _ c.load.result c.load.ensures.cause) c.load.ensures.counts)

pub returns-in-Load-clause-output : goal.returns-in-Load-clause-output
returns-in-Load-clause-output g c = λ lab input told.
    rw (c.status_of-in-Load.ensures, c.in-Load.is)
    (unless_failed g.K.Sink.written g.K.Sink.handed c.args.sink.now c.load.new.sink _ _ input _ c.load.result _ _ _ _ (reads_nothing _ c.load.result c.load.ensures.cause) c.load.ensures.counts
    (λ is. loaded g.K.Sink.written g.K.Sink.handed c.args.sink.now c.load.new.sink c.in-Load.number _ input _ c.load.result is c.load.ensures.cause c.load.ensures.whole))

pub returns-in-Audit-clause-ended : goal.returns-in-Audit-clause-ended
returns-in-Audit-clause-ended g c =
    rw c.audit_status.ensures (ended_by status_found is_found _ _ _ _ _ c.audit.result c.audit.ensures.ran.source_counts c.audit.ensures.ran.sink_counts)

pub returns-in-Audit-clause-audited : goal.returns-in-Audit-clause-audited
returns-in-Audit-clause-audited g c = λ capacity is.
    let named : c.in-Audit.capacity ≡ capacity = (let both : Audit c.in-Audit.capacity ≡ Audit capacity = sym c.in-Audit.is ∙ is in cc) in
    let same : c.get.result ≡ capacity = c.get.ensures.value ∙ named in
    subst (λ n. HasAudited g.K.Sink.written g.K.Sink.handed c.args.sink.now c.audit.new.sink c.args.host.now c.args.host.now (g.S.Source.left c.args.source.now) (g.S.Source.left c.audit.new.source) n c.audit_status.result)
    same
    (record {
      answer = c.audit.result;
      status_is = c.audit_status.ensures;
      exact = c.audit.ensures.exact;
      promises = c.audit.ensures.promises;
      line = c.audit.ensures.written;
      read_whole = c.audit.ensures.ran.end;
      front = c.audit.ensures.ran.front;
      all_read = λ e. c.audit.ensures.ran.all_read (read_failed status_found is_found c.audit.result (sym c.audit_status.ensures ∙ e));
      unused = refl;
    })

pub returns-in-Load-clause-bounded : goal.returns-in-Load-clause-bounded
returns-in-Load-clause-bounded g c = record { taken = search rules; ends = search rules }

pub returns-in-Serve-clause-bounded : goal.returns-in-Serve-clause-bounded
returns-in-Serve-clause-bounded g c = reads_less g.S.Source _ _ 65537 67108865 (omega arith) c.run_serve.ensures.bounded

pub returns-in-Slave-clause-bounded : goal.returns-in-Slave-clause-bounded
returns-in-Slave-clause-bounded g c = reads_less g.S.Source _ _ 65537 67108865 (omega arith) c.run_slave.ensures.bounded

pub returns-in-Replay-clause-broken : goal.returns-in-Replay-clause-broken
returns-in-Replay-clause-broken g c = λ e. absurd (no_audit c.replay.result (sym c.status_of.ensures ∙ e))

pub returns-in-Show-clause-broken : goal.returns-in-Show-clause-broken
returns-in-Show-clause-broken g c = λ e. absurd (no_audit c.show.result (sym c.status_of-in-Show.ensures ∙ e))

pub returns-in-Join-clause-broken : goal.returns-in-Join-clause-broken
returns-in-Join-clause-broken g c = λ e. absurd (no_audit c.join.result (sym c.status_of-in-Join.ensures ∙ e))

pub returns-in-Pools-clause-broken : goal.returns-in-Pools-clause-broken
returns-in-Pools-clause-broken g c = λ e. absurd (no_audit c.pools.result (sym c.status_of-in-Pools.ensures ∙ e))

pub returns-in-Load-clause-broken : goal.returns-in-Load-clause-broken
returns-in-Load-clause-broken g c = λ e. absurd (no_audit c.load.result (sym c.status_of-in-Load.ensures ∙ e))

pub returns-in-Serve-clause-broken : goal.returns-in-Serve-clause-broken
returns-in-Serve-clause-broken g c = λ e. absurd (c.run_serve.ensures.no_audit e)

pub returns-in-Slave-clause-broken : goal.returns-in-Slave-clause-broken
returns-in-Slave-clause-broken g c = λ e. absurd (c.run_slave.ensures.no_audit e)

pub returns-in-Audit-clause-broken : goal.returns-in-Audit-clause-broken
returns-in-Audit-clause-broken g c = λ e. (c.in-Audit.capacity, c.in-Audit.is)
