-- The octets so far are no letters in upper case, or one of them is.
use Rattle.std.proofs.Common.{◌≡◌, take}
use Rattle.ptu_audit_lines.specs.Words.{is_lower}
use Rattle.ptu_audit_lines.proofs.words.is_lower.Given as goal

abbrev pub invariant-loop-octet : goal.invariant-loop-octet
invariant-loop-octet l = l.is_lower ≡ is_lower (take l.octet-index l.word)
