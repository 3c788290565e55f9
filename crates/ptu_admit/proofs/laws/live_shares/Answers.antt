use Rattle.ptu_admit.proofs.Grants.{live_share}
use Rattle.ptu_admit.proofs.laws.live_shares.Goals as goal

pub returns : goal.returns
returns _ = λ book j rows moment history x s distinct reached. live_share book j rows moment history x s reached distinct
