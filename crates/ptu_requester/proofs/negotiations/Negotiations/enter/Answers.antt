use Rattle.std.proofs.Common.{refl}
use Rattle.ptu_units.specs.declared.kind.Kind.TheVariants.{Announce, Sync, DelayResp}
use Rattle.ptu_requester.proofs.Entered.{kept_other_kind}
use Rattle.ptu_requester.proofs.negotiations.Negotiations.enter.Goals as goal

pub returns-in-Announce : goal.returns-in-Announce
returns-in-Announce c = λ L m h. rw c.in-Announce.is record {
  announce = c.enter.ensures Announce L m h.announce;
  sync = kept_other_kind Sync Announce L c.args.change c.args.t m c.args.self.now.sync refl h.sync;
  delay = kept_other_kind DelayResp Announce L c.args.change c.args.t m c.args.self.now.delay refl h.delay;
}

pub returns-in-Sync : goal.returns-in-Sync
returns-in-Sync c = λ L m h. rw c.in-Sync.is record {
  announce = kept_other_kind Announce Sync L c.args.change c.args.t m c.args.self.now.announce refl h.announce;
  sync = c.enter-in-Sync.ensures Sync L m h.sync;
  delay = kept_other_kind DelayResp Sync L c.args.change c.args.t m c.args.self.now.delay refl h.delay;
}

pub returns-in-DelayResp : goal.returns-in-DelayResp
returns-in-DelayResp c = λ L m h. rw c.in-DelayResp.is record {
  announce = kept_other_kind Announce DelayResp L c.args.change c.args.t m c.args.self.now.announce refl h.announce;
  sync = kept_other_kind Sync DelayResp L c.args.change c.args.t m c.args.self.now.sync refl h.sync;
  delay = c.enter-in-DelayResp.ensures DelayResp L m h.delay;
}
