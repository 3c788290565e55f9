use Rattle.std.proofs.Common.{◌∙◌, ◌++◌, ◌∷◌, [], ap, sym, subst, nat_cmp}
use Rattle.std.specs.BTreeMap.{get}
use Rattle.ptu_audit.specs.Standing.{IsTrailKept}
use Rattle.ptu_units.specs.Counts.{counted}
use Rattle.ptu_audit.specs.Trails.{grant_acts_in, is_grant_deed, is_message, message_acts_in, trail_of}
use Rattle.ptu_audit.proofs.Ledgers.{counted_more, grants-push, kept_more, messages-push}
use Rattle.ptu_audit.proofs.ledger.Ledger.take.Goals as goal
use Rattle.ptu_trail.proofs.Accounts.{if_none_map}

pub returns-clause-kept : goal.returns-clause-kept
returns-clause-kept c = if_none_map c.in_ok-fault.fault (λ none goes before kept.
    let act = c.args.act.now in
    let n = c.args.self.now.capacity in
    let added = c.add.ensures in
    let count = c.count.ensures in
    let own = goes (trail_of act.grandmaster before) (kept.trails act.grandmaster) in
    record {
      trails = λ q.
          subst (λ m. IsTrailKept m (get nat_cmp c.count.new.self.trails q) (trail_of q (before ++ act ∷ []))) (sym (count.capacity ∙ added.same.0))
          (subst (λ m. IsTrailKept n (get nat_cmp m q) (trail_of q (before ++ act ∷ []))) (sym count.trails)
          (kept_more n before act (get nat_cmp c.args.self.now.trails) (get nat_cmp c.add.new.self.trails) added.others kept.trails own q));
      granted = count.granted ∙ counted_more (grant_acts_in before) _ (is_grant_deed act.deed) (added.same.1 ∙ kept.granted) ∙ sym (ap counted (grants-push before act));
      sent = count.sent ∙ counted_more (message_acts_in before) _ (is_message act.deed) (added.same.2 ∙ kept.sent) ∙ sym (ap counted (messages-push before act));
    }) c.in_ok-fault.ensures.stands
