use Rattle.std.proofs.Common.{◌≤◌, arith, refl}
use Rattle.ptu_history.specs.{History.{Short}, Moments.{table_part}}
use Rattle.ptu_shard.proofs.Standing.{stands_elsewhere}
use Rattle.ptu_admit.proofs.Lending.{stands_later}
use Rattle.ptu_admit.proofs.granting.decide_swept.Goals as goal
use Rattle.ptu_history.proofs.Moments.{table_part-le}

pub returns-else-others-rate-clause-stands : goal.returns-else-others-rate-clause-stands
returns-else-others-rate-clause-stands g c = λ b j history s own le.
    let n = c.args.at in
    let reached : table_part j (Short n c.args.client.now) ≤ c.args.shard.now.moment =
    let at_most : table_part j (Short n c.args.client.now) ≤ n = table_part-le j (Short n c.args.client.now) in omega (arith, c.requires.reached) in
    stands_elsewhere n j c.args.shard.now.moment history c.args.shard.now.rows
    (stands_later b n j c.args.shard.now.rows c.args.shard.now.moment history le s)
    (Short n c.args.client.now) (λ d i e. refl) reached
