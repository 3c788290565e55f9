use Rattle.std.proofs.Common.{refl}
use Rattle.ptu_grandmaster.proofs.After.{empty}
use Rattle.ptu_grandmaster.proofs.gm.Gm.new.Goals as goal

pub returns-clause-stands : goal.returns-clause-stands
returns-clause-stands g c =
    empty c.args.capacity _ c.new.ensures.rows c.new-2.ensures.rows c.new-3.ensures.rows c.new-4.ensures.rows c.new.ensures.stands c.new-2.ensures.stands c.new-3.ensures.stands
    c.new-4.ensures.stands c.new-5.ensures.stands (record { granted = refl; refused = refl; sequence = refl })
