use Rattle.ptu_read_back.proofs.Reading.{given_by_lines, read_back}
use Rattle.ptu_read_back.proofs.laws.lines_are_read_back.Goals as goal

pub returns-clause-read : goal.returns-clause-read
returns-clause-read c = read_back

pub returns-clause-cut : goal.returns-clause-cut
returns-clause-cut c = given_by_lines
