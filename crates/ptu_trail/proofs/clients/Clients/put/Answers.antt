use Rattle.std.proofs.Common.{nat_cmp}
use Rattle.std.specs.BTreeMap.{get}
use Rattle.ptu_trail.proofs.Accounts.{put_account}
use Rattle.ptu_trail.proofs.clients.Clients.put.Goals as goal

pub returns : goal.returns
returns c = λ history r known none decided own. record {
  each = put_account history r c.args.client c.args.known (get nat_cmp c.args.self.now.accounts) (get nat_cmp c.insert.new.self) c.in_ok-insert.ensures.updates.0 known.each none decided own;
}
