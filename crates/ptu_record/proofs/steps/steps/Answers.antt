use Rattle.ptu_record.proofs.StepParts.{one_step, step_moment}
use Rattle.ptu_record.proofs.steps.steps.Goals as goal

pub returns-clause-moment_more : goal.returns-clause-moment_more
returns-clause-moment_more c = step_moment

pub returns-clause-one_step : goal.returns-clause-one_step
returns-clause-one_step c = one_step
