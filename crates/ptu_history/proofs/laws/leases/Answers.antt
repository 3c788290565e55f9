use Rattle.ptu_history.proofs.Strangers.{same_lease-other_client, same_lease-other_kind, same_lease-own}
use Rattle.ptu_history.proofs.laws.leases.Goals as goal

pub returns : goal.returns
returns _ = search (same_lease-other_client, same_lease-other_kind, same_lease-own)
