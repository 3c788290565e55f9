use Rattle.ptu_record.proofs.Judgements.{numbers-push, flag-push, rule_in_force-push, ruled, one_assessment, any_assessment}
use Rattle.ptu_record.proofs.laws.judges.Goals as goal

pub returns : goal.returns
returns _ = search (numbers-push, flag-push, rule_in_force-push, ruled, one_assessment, any_assessment)
