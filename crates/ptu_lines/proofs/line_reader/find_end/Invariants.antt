use Rattle.std.proofs.Common.{◌≡◌, ◌≤◌, ◌+◌, ◌-◌, None, length, take, position}
use Rattle.ptu_lines.specs.Script.{is_end}
use Rattle.ptu_lines.proofs.HasRead.{HasRead}
use Rattle.ptu_lines.proofs.line_reader.find_end.Given as goal

abbrev pub invariant-loop-place : goal.invariant-loop-place
invariant-loop-place g l = record {
  read : HasRead g.S.Source.left g.S.Source.ends g.S.Source.faults l.initial.buffer l.buffer l.initial.source l.source;
  within : l.before + length l.buffer.waiting ≤ 67108865;
  searched : l.searched ≤ length l.buffer.waiting;
  short : l.searched ≤ 8193;
  none : position is_end (take l.searched l.buffer.waiting) ≡ None;
}

abbrev pub decreases-loop-place : goal.decreases-loop-place
decreases-loop-place g l = 67108865 - length l.buffer.waiting
