use Rattle.std.proofs.Common.{◌≡◌, ◌≤◌, ◌<◌, arith, sym, subst}
use Rattle.ptu_shard.specs.Fields.{rows_of}
use Rattle.ptu_shard.proofs.{Dues.{all_before, idle_before}, Heap.{all_later}}
use Rattle.ptu_shard.proofs.shard.Shard.next_due.Goals as goal

pub returns-in-None-clause-idle : goal.returns-in-None-clause-idle
returns-in-None-clause-idle g c =
    rw (← c.self.view_is)
    (idle_before c.self.inside.moment c.args.until (rows_of c.self.inside.rows.entries) c.self.inside.edges.entries c.self.invariant.due
    (λ x before. all_before x c.args.until c.self.inside.edges.entries before c.in-None.ensures.later))

pub returns-in-Some-clause-idle : goal.returns-in-Some-clause-idle
returns-in-Some-clause-idle g c =
    rw (← c.self.view_is)
    (idle_before c.self.inside.moment c.moment_of.result (rows_of c.self.inside.rows.entries) c.self.inside.edges.entries c.self.invariant.due
    (λ x before. all_later x c.in-Some.entry c.self.inside.edges.entries (omega (arith, before, c.moment_of.ensures)) c.in-Some.ensures.least))
