use Rattle.std.proofs.Common.{ap, sym, ◌∙◌}
use Rattle.ptu_units.specs.declared.kind.Kind.{Kind}
use Rattle.ptu_record.specs.Grants.{run_start}
use Rattle.ptu_requester.proofs.negotiations.Negotiations.run_start.Goals as goal

pub returns-in-Announce : goal.returns-in-Announce
returns-in-Announce c = λ L h. h.announce.run_start ∙ ap (λ (k : Kind). run_start k L) (sym c.in-Announce.is)

pub returns-in-Sync : goal.returns-in-Sync
returns-in-Sync c = λ L h. h.sync.run_start ∙ ap (λ (k : Kind). run_start k L) (sym c.in-Sync.is)

pub returns-in-DelayResp : goal.returns-in-DelayResp
returns-in-DelayResp c = λ L h. h.delay.run_start ∙ ap (λ (k : Kind). run_start k L) (sym c.in-DelayResp.is)
