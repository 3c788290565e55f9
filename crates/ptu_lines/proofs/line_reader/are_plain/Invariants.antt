-- The octets so far are plain text, or one of them is not.
use Rattle.std.proofs.Common.{◌≡◌, take}
use Rattle.std.specs.List.{list_all}
use Rattle.ptu_lines.specs.Script.{is_plain}
use Rattle.ptu_lines.proofs.line_reader.are_plain.Given as goal

abbrev pub invariant-loop-octet : goal.invariant-loop-octet
invariant-loop-octet l = l.is_plain ≡ list_all is_plain (take l.octet-index l.octets)
