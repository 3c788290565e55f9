use Rattle.ptu_lines.proofs.DecimalDigits.{IsReadTo}
use Rattle.ptu_lines.proofs.forms.value.Given as goal

abbrev pub invariant-loop-octet : goal.invariant-loop-octet
invariant-loop-octet l = IsReadTo l.base l.word l.octet-index l.value
