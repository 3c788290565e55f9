use Rattle.std.proofs.Common.{arith}
use Rattle.ptu_lanes.proofs.Beginning.{opened_within}
use Rattle.ptu_lanes.proofs.crew.Crew.open.Goals as goal

pub new-made-requires-clause-most : goal.new-made-requires-clause-most
new-made-requires-clause-most g c κs within =
    omega (arith, c.requires.most, opened_within g.L.Rates.told c.args.settings.now c.requires.range.capacity.1)
