use Rattle.std.proofs.Common.{subst, sym}
use Rattle.ptu_judges.specs.Held.{StandsFor}
use Rattle.ptu_slave.proofs.Calling.{along_at}
use Rattle.ptu_slave.proofs.judging.hear.Goals as goal

pub returns-clause-stands : goal.returns-clause-stands
returns-clause-stands g c =
    λ opening own m s. c.heard.ensures.1.0 opening own m (subst (λ p. StandsFor opening own ((goal.Judge-dyn g p).Judge.held p.1)) (sym c.deref_box_mut-1.ensures.value.1) s)

pub returns-clause-call : goal.returns-clause-call
returns-clause-call g c = along_at (λ v x y. (goal.Judge-dyn g (v, x)).Conduct.hears x c.args.at c.args.seq y) _ _ c.deref_box_mut-1.ensures.value.1 _ c.heard.ensures.0
