use Rattle.std.proofs.Common.{subst, sym}
use Rattle.ptu_judges.specs.Held.{StandsFor}
use Rattle.ptu_slave_tests.proofs.tests.judges.ask.Goals as goal

pub returns-clause-stands : goal.returns-clause-stands
returns-clause-stands g c =
    λ opening L m s. c.assess.ensures.1.1.0 opening L m (subst (λ p. StandsFor opening L ((goal.Judge-dyn g p).Judge.held p.1)) (sym c.deref_box_mut-1.ensures.value.1) s)

pub returns-clause-assessed : goal.returns-clause-assessed
returns-clause-assessed g c =
    λ opening L s. c.assess.ensures.1.0 opening L (subst (λ p. StandsFor opening L ((goal.Judge-dyn g p).Judge.held p.1)) (sym c.deref_box_mut-1.ensures.value.1) s)
