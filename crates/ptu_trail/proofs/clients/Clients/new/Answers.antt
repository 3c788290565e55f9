use Rattle.std.proofs.Common.{[], nat_cmp, sym, subst}
use Rattle.std.specs.{BTreeMap.{is_at}, Map.{lookup}}
use Rattle.ptu_trail.specs.Clients.{IsAccount}
use Rattle.ptu_trail.proofs.Accounts.{no_account}
use Rattle.ptu_trail.proofs.clients.Clients.new.Goals as goal

pub returns : goal.returns
returns c = record { each = λ q. subst (λ entries. IsAccount [] q (lookup (is_at (nat_cmp q)) entries)) (sym c.new.ensures.empty) (no_account q) }
