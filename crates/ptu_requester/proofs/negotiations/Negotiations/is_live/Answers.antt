use Rattle.std.proofs.Common.{ap, sym, ◌∙◌}
use Rattle.ptu_units.specs.declared.kind.Kind.{Kind}
use Rattle.ptu_record.specs.Grants.{is_live}
use Rattle.ptu_requester.proofs.negotiations.Negotiations.is_live.Goals as goal

pub returns-in-Announce : goal.returns-in-Announce
returns-in-Announce c = λ L h. c.is_live.ensures _ L h.announce ∙ ap (λ (k : Kind). is_live k L c.args.t) (sym c.in-Announce.is)

pub returns-in-Sync : goal.returns-in-Sync
returns-in-Sync c = λ L h. c.is_live-in-Sync.ensures _ L h.sync ∙ ap (λ (k : Kind). is_live k L c.args.t) (sym c.in-Sync.is)

pub returns-in-DelayResp : goal.returns-in-DelayResp
returns-in-DelayResp c = λ L h. c.is_live-in-DelayResp.ensures _ L h.delay ∙ ap (λ (k : Kind). is_live k L c.args.t) (sym c.in-DelayResp.is)
