use Rattle.std.proofs.Common.{subst, sym}
use Rattle.ptu_judges.specs.Held.{StandsFor}
use Rattle.ptu_slave_tests.proofs.tests.judges.tell.Goals as goal

pub returns : goal.returns
returns g c =
    λ opening L m s. c.told.ensures.1.0 opening L m (subst (λ p. StandsFor opening L ((goal.Judge-dyn g p).Judge.held p.1)) (sym c.deref_box_mut-1.ensures.value.1) s)
