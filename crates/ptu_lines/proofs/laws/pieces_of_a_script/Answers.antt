use Rattle.ptu_lines.proofs.Cutting.{pieces-whole, pieces-line, pieces-last}
use Rattle.ptu_lines.proofs.laws.pieces_of_a_script.Goals as goal

pub returns : goal.returns
returns _ = search (pieces-whole, pieces-line, pieces-last)
