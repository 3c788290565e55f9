use Rattle.ptu_judges.proofs.Holding.{flag_heard}
use Rattle.ptu_slave_tests.proofs.tests.judge_calls.ListingJudge.heard.Goals as goal

pub returns-clause-stands : goal.returns-clause-stands
returns-clause-stands c = λ opening L m. flag_heard opening L c.args.t m c.args.seq c.args.self.now.unusable
