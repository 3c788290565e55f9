use Rattle.ptu_lines.proofs.laws.lines_of_a_fresh_reader.Goals as goal
use Rattle.ptu_lines.proofs.Giving.{fresh_lines}

pub returns : goal.returns
returns c reader left fresh = fresh_lines reader left fresh
