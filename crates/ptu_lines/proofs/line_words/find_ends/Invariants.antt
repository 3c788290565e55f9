-- The words before the place are cut.
use Rattle.std.proofs.Common.{◌-◌, length}
use Rattle.ptu_lines.proofs.WordCutting.{IsCutTo}
use Rattle.ptu_lines.proofs.line_words.find_ends.Given as goal

abbrev pub invariant-loop-size : goal.invariant-loop-size
invariant-loop-size l = IsCutTo l.line l.ends l.count l.from

abbrev pub decreases-loop-size : goal.decreases-loop-size
decreases-loop-size l = length l.line - l.from
