use Rattle.std.proofs.Common.{length, ◌<◌}
use Rattle.ptu_requester.proofs.Masters.{kept_read}
use Rattle.ptu_requester.proofs.requester.Requester.live.Goals as goal

pub returns : goal.returns
returns c = rw (← c.self.view_is) (λ L stands. c.is_live.ensures _ (kept_read _ L c.args.master c.index.result.now stands within c.index.ensures))
  where
    within : c.args.master < length c.self.inside.masters.items
    within = rw (← c.self.view_is) at c.requires
