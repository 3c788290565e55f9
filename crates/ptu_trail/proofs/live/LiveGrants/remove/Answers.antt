use Rattle.std.proofs.Common.{◌∙◌, filter, sym, ap, subst}
use Rattle.ptu_history.specs.Live.{without}
use Rattle.ptu_trail.specs.{Live.{AreOf, IsLatestLeaseOf, is_other_entry}, declared.live.End.{End}}
use Rattle.ptu_trail.proofs.Living.{of-none, of-without}
use Rattle.ptu_trail.proofs.live.LiveGrants.remove.Goals as goal

pub returns-in-Some : goal.returns-in-Some
returns-in-Some c = λ grants same own.
    let client = c.args.client.now in
    let end : End = record { until = c.in-Some.lease.until; client = client; kind = c.args.kind } in
    subst (AreOf (without client c.args.kind grants)) (sym (c.take.ensures.entries ∙ ap (filter (is_other_entry end)) c.self.view_is))
    (of-without client c.args.kind c.in-Some.lease grants c.args.self.now same (subst (λ o. IsLatestLeaseOf client c.args.kind o grants) c.in-Some.is own))

pub returns-in_default : goal.returns-in_default
returns-in_default c = λ grants same own.
    let client = c.args.client.now in
    of-none client c.args.kind grants c.args.self.now same (subst (λ o. IsLatestLeaseOf client c.args.kind o grants) c.in_default.is own)
