use Rattle.std.proofs.Common.{◌≡◌, ◌+◌, ◌-◌, ◌≤◌, length}
use Rattle.ptu_lines.specs.Words.{words_of}
use Rattle.ptu_audit_lines.specs.Forms.{fit}
use Rattle.ptu_audit_lines.proofs.Fitting.{fit_from}
use Rattle.ptu_audit_lines.proofs.forms.is_filled.Given as goal

abbrev pub invariant-places : goal.invariant-places
invariant-places l = record {
  first : 1 ≤ l.k;
  within : l.k ≤ length (words_of l.line) + 1;
  same : fit (words_of l.form) (words_of l.line) ≡ fit_from l.form l.line l.k;
}

abbrev pub decreases-places : goal.decreases-places
decreases-places l = length (words_of l.line) + 1 - l.k
