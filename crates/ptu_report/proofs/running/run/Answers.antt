use Rattle.std.proofs.Common.{rules}
use Rattle.ptu_report.proofs.Answered.{front_of}
use Rattle.ptu_report.proofs.running.run.Goals as goal

pub returns-in-Ok-Whole-clause-whole : goal.returns-in-Ok-Whole-clause-whole
returns-in-Ok-Whole-clause-whole g c = λ m stands input told.
    rw c.in-Ok-Whole.field-0-is at (c.in-Ok-Whole.ensures.whole m stands input told)

pub returns-in-Ok-Refused-clause-whole : goal.returns-in-Ok-Refused-clause-whole
returns-in-Ok-Refused-clause-whole g c = λ m stands input told.
    rw c.in-Ok-Refused.field-0-is at (c.in-Ok-Refused.ensures.whole m stands input told)

pub returns-in-Ok-Whole-clause-ran : goal.returns-in-Ok-Whole-clause-ran
returns-in-Ok-Whole-clause-ran g c = λ m stands.
    let front = front_of g.S.Source g.K.Sink c.args.source.now c.args.sink.now c.report.new.sink g.R.Reporter.rules m _ (c.in-Ok-Whole.ensures.whole m stands) in
    search rules

pub returns-in-Ok-Refused-clause-ran : goal.returns-in-Ok-Refused-clause-ran
returns-in-Ok-Refused-clause-ran g c = λ m stands.
    let front = front_of g.S.Source g.K.Sink c.args.source.now c.args.sink.now c.report.new.sink g.R.Reporter.rules m _ (c.in-Ok-Refused.ensures.whole m stands) in
    search rules
