use Rattle.ptu_judges.proofs.Holding.{flag_told}
use Rattle.ptu_slave_tests.proofs.tests.judge_calls.ListingJudge.told.Goals as goal

pub returns-clause-stands : goal.returns-clause-stands
returns-clause-stands c = λ opening L m. flag_told opening L c.args.t m c.args.self.now.unusable c.args.unusable
