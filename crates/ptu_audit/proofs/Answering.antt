-- What an auditor answers that has read a report.
use Rattle.std.proofs.Common.{◌≡◌, ◌∙◌, ℕ, List, arith, Option, Some, option_map, ap, subst}
use Rattle.std.specs.Prelude.{IfSome}
use Rattle.ptu_lines.specs.Script.{script_lines}
use Rattle.ptu_report.specs.Rules.{meaning_of}
use Rattle.ptu_report.proofs.FewLines.{few_lines}
use Rattle.ptu_audit.specs.declared.{answer.Answer.{Answer}, auditor.Auditor.{Auditor}}
use Rattle.ptu_audit.specs.{Audited.{report_lines}, Reading.{Reading, audit_rules, first_reading}}
use Rattle.ptu_audit.specs.{Standing.{StandsFor}, Trails.{audit_answer_of, as_counted}}
use Rattle.ptu_audit.proofs.{Counts.{counts_exact}, Promises.{IsRead}}

module _ (capacity : ℕ) (input : List ℕ) (read : IsRead (first_reading capacity) 0 (script_lines input)) (a : Auditor) (answer : Answer)
    (says : (r : Reading) → StandsFor a r → answer ≡ as_counted (audit_answer_of r.capacity r.lines))
    (last : IfSome (meaning_of audit_rules (first_reading capacity) (script_lines input)) (StandsFor a)) where
  pub told : answer ≡ as_counted (audit_answer_of read.last.capacity read.last.lines)
  told = says read.last (subst (λ (o : Option Reading). IfSome o (StandsFor a)) read.meaning last)

  pub lines_are : report_lines capacity input ≡ Some read.last.lines
  lines_are = ap (option_map (λ (r : Reading). r.lines)) read.meaning

  pub answer_is : answer ≡ audit_answer_of capacity read.last.lines
  answer_is =
      told ∙ counts_exact read.last.capacity read.last.lines (omega (arith, read.few, few_lines input))
      ∙ ap (λ m. audit_answer_of m read.last.lines) read.capacity
