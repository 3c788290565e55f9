use Rattle.std.proofs.Common.{refl}
use Rattle.ptu_units.proofs.Tables.{rate_at, rate_range}
use Rattle.ptu_units.proofs.log.rate.Goals as goal

pub returns : goal.returns
returns c =
    let is = rate_at c.args.log c.place.ensures.range in
    rw (c.place.ensures.place, is) (record { rate = refl; range = rate_range c.args.log c.place.ensures.range })
