use Rattle.std.proofs.Common.{refl}
use Rattle.ptu_record.specs.Record.{Judged}
use Rattle.ptu_judges.specs.Held.{flag_held}
use Rattle.ptu_judges.proofs.Holding.{other_entry}
use Rattle.ptu_slave_tests.proofs.tests.judge_calls.ListingJudge.assess.Goals as goal

pub returns-clause-stands : goal.returns-clause-stands
returns-clause-stands c = λ opening L m. other_entry opening L (Judged c.args.t m c.args.self.now.unusable) (flag_held c.args.self.now.unusable) refl refl refl refl
