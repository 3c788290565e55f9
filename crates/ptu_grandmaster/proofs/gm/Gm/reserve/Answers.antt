use Rattle.std.proofs.Common.{[], ◌∷◌}
use Rattle.ptu_admit.specs.Lent.{lent_as}
use Rattle.ptu_grandmaster.proofs.Unchanged.{reserved}
use Rattle.ptu_grandmaster.proofs.gm.Gm.reserve.Goals as goal

pub returns-in-0-clause-stands : goal.returns-in-0-clause-stands
returns-in-0-clause-stands g c = rw (← c.self.view_is) (λ opening history s. record {
  decided = reserved opening [] 0 c.self.inside.s0 c.reserve.new.self (lent_as 1 c.self.inside.s1 ∷ lent_as 2 c.self.inside.s2 ∷ lent_as 3 c.self.inside.s3 ∷ []) c.self.inside.book history c.reserve.ensures.rows c.reserve.ensures.stands s.decided;
  granted = s.granted;
  refused = s.refused;
  sequence = s.sequence;
})

pub returns-in-1-clause-stands : goal.returns-in-1-clause-stands
returns-in-1-clause-stands g c = rw (← c.self.view_is) (λ opening history s. record {
  decided = reserved opening (lent_as 0 c.self.inside.s0 ∷ []) 1 c.self.inside.s1 c.reserve-in-1.new.self (lent_as 2 c.self.inside.s2 ∷ lent_as 3 c.self.inside.s3 ∷ []) c.self.inside.book history c.reserve-in-1.ensures.rows c.reserve-in-1.ensures.stands s.decided;
  granted = s.granted;
  refused = s.refused;
  sequence = s.sequence;
})

pub returns-in-2-clause-stands : goal.returns-in-2-clause-stands
returns-in-2-clause-stands g c = rw (← c.self.view_is) (λ opening history s. record {
  decided = reserved opening (lent_as 0 c.self.inside.s0 ∷ lent_as 1 c.self.inside.s1 ∷ []) 2 c.self.inside.s2 c.reserve-in-2.new.self (lent_as 3 c.self.inside.s3 ∷ []) c.self.inside.book history c.reserve-in-2.ensures.rows c.reserve-in-2.ensures.stands s.decided;
  granted = s.granted;
  refused = s.refused;
  sequence = s.sequence;
})

pub returns-in_default-clause-stands : goal.returns-in_default-clause-stands
returns-in_default-clause-stands g c = rw (← c.self.view_is) (λ opening history s. record {
  decided = reserved opening (lent_as 0 c.self.inside.s0 ∷ lent_as 1 c.self.inside.s1 ∷ lent_as 2 c.self.inside.s2 ∷ []) 3 c.self.inside.s3 c.reserve-in_default.new.self ([]) c.self.inside.book history c.reserve-in_default.ensures.rows c.reserve-in_default.ensures.stands s.decided;
  granted = s.granted;
  refused = s.refused;
  sequence = s.sequence;
})
