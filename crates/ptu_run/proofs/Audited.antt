-- What a status says of the answer of an audit that it stands for.
use Rattle.std.proofs.Common.{◌≡◌, ◌≢◌, ◌⊎◌, ◌∙◌, ℕ, List, Result, Ok, Err, refl, sym, inl, inr}
use Rattle.ptu_lines.specs.Script.{script_lines}
use Rattle.ptu_report.specs.declared.ending.Ending.TheVariants as endings
use Rattle.ptu_report.specs.Rules.{ending_of}
use Rattle.ptu_audit.specs.declared.answer.{Answer.{Answer}, Answer.TheVariants.{Yes, No}}
use Rattle.ptu_report.specs.declared.fault.RunFault.{RunFault}
use Rattle.ptu_report.specs.declared.fault.RunFault.TheVariants.{Line, Read, Write, OutOfMemory}
use Rattle.ptu_audit.specs.{declared.answer.AuditCause.{AuditCause}, Audited.{IsAnswer}}
use Rattle.ptu_audit.specs.Reading.{audit_rules, first_reading}
use Rattle.ptu_run.specs.Run.{status_found, status_of_audit}

pub is_found : (answer : Answer) → (status_found answer ≡ 0) ⊎ (status_found answer ≡ 70)
is_found (Yes granted sent) = inl refl
is_found (No line cause) = inr refl

-- an audit of a report of which no line is refused, where nothing failed
pub audit_completes : (capacity : ℕ) (input : List ℕ) (r : Result Answer (RunFault AuditCause)) → IsAnswer capacity input r
    → (lines : ℕ) × (ending_of audit_rules (first_reading capacity) (script_lines input) ≡ endings.Whole lines)
    → status_of_audit r ≢ 66 → status_of_audit r ≢ 67
    → ((status_of_audit r ≡ 0) ⊎ (status_of_audit r ≡ 70)) ⊎ (status_of_audit r ≡ 71)
audit_completes capacity input (Ok (Yes granted sent)) exact accepted source sink = inl (inl refl)
audit_completes capacity input (Ok (No line cause)) exact accepted source sink = inl (inr refl)
audit_completes capacity input (Err (Line number cause)) exact accepted source sink =
    absurd (let never : endings.Refused number cause ≡ endings.Whole accepted.0 = sym exact ∙ accepted.1 in cc)
audit_completes capacity input (Err Read) exact accepted source sink = absurd (source refl)
audit_completes capacity input (Err Write) exact accepted source sink = absurd (sink refl)
audit_completes capacity input (Err OutOfMemory) exact accepted source sink = inr refl
