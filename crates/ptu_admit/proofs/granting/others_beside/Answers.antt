use Rattle.std.proofs.Common.{◌∙◌, ap, arith, sym}
use Rattle.std.specs.Option.{option_map_or}
use Rattle.ptu_units.specs.Log.{rate_of}
use Rattle.ptu_shard.specs.declared.lease.Lease.{Lease}
use Rattle.ptu_admit.proofs.Sums.{share_of-without-le}
use Rattle.ptu_admit.proofs.granting.others_beside.Goals as goal

pub overflow_sub-result : goal.overflow_sub-result
overflow_sub-result g c =
    let kept = ap (λ o. option_map_or (λ (lease : Lease). rate_of lease.log) o 0) (sym c.lease.ensures ∙ c.in-Some.is) in
    omega (
      arith,
      kept,
      c.total.ensures.value,
      c.rate.ensures.rate,
      c.held-share.ensures.share,
      share_of-without-le c.args.client.now c.args.kind c.args.shard.now.rows,
    )
