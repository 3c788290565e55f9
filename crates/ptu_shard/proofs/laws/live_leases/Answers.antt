use Rattle.ptu_shard.proofs.Turns.{live_kept}
use Rattle.ptu_shard.proofs.laws.live_leases.Goals as goal

pub returns : goal.returns
returns _ = λ book j rows moment history x c k s reached own. live_kept book j moment history rows s x reached c k own
