use Rattle.ptu_lines.proofs.Numbers.{number_of-iff, log_of-iff}
use Rattle.ptu_lines.proofs.laws.numbers_of_words.Goals as goal

pub returns-clause-number : goal.returns-clause-number
returns-clause-number c = number_of-iff

pub returns-clause-log : goal.returns-clause-log
returns-clause-log c = log_of-iff
