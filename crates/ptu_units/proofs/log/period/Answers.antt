use Rattle.std.proofs.Common.{refl}
use Rattle.ptu_units.proofs.Tables.{period_at, period_range, rate-mul-period}
use Rattle.ptu_units.proofs.log.period.Goals as goal

pub returns : goal.returns
returns c =
    let is = period_at c.args.log c.place.ensures.range in
    rw (c.place.ensures.place, is) (record {
      period = refl;
      range = period_range c.args.log c.place.ensures.range;
      payment = rate-mul-period c.args.log c.place.ensures.range;
    })
