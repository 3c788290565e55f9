use Rattle.ptu_world.proofs.Reported.{counts_of_rules, ends_of_rules, texts_of_rules}
use Rattle.ptu_world.proofs.laws.report_by_rules.Goals as goal

pub returns-clause-texts : goal.returns-clause-texts
returns-clause-texts c = texts_of_rules

pub returns-clause-ending : goal.returns-clause-ending
returns-clause-ending c = ends_of_rules

pub returns-clause-counts : goal.returns-clause-counts
returns-clause-counts c = counts_of_rules
