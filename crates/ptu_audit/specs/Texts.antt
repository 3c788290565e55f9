-- What an audit writes.
use Rattle.std.specs.{Prelude.{ℕ, List, ◌++◌, codes}, Fmt.{decimal}}
use Rattle.ptu_trail.specs.declared.cause.NoCause.{NoCause}
use Rattle.ptu_trail.specs.declared.cause.NoCause.TheVariants as causes
use Rattle.ptu_audit.specs.declared.answer.{Answer.{Answer}, Answer.TheVariants.{Yes, No}}
use Rattle.ptu_audit.specs.declared.answer.AuditCause.{AuditCause}
use Rattle.ptu_audit.specs.declared.answer.AuditCause.TheVariants.{Size, Long, Text, Form, Order, End}

abbrev pub cause_text : AuditCause → List ℕ
cause_text Size = codes "size"
cause_text Long = codes "long"
cause_text Text = codes "text"
cause_text Form = codes "form"
cause_text Order = codes "order"
cause_text End = codes "end"

abbrev pub no_text : NoCause → List ℕ
no_text causes.Reply = codes "reply"
no_text causes.Shared = codes "shared"
no_text causes.Stamp = codes "stamp"
no_text causes.Moment = codes "moment"
no_text causes.Fit = codes "fit"
no_text causes.Over = codes "over"
no_text causes.Grant = codes "grant"
no_text causes.Early = codes "early"

abbrev pub answer_text : Answer → List ℕ
answer_text (Yes granted sent) = codes "yes grants " ++ (decimal granted ++ (codes " sent " ++ (decimal sent ++ codes "\n")))
answer_text (No line cause) = codes "no " ++ (decimal line ++ (codes " " ++ (no_text cause ++ codes "\n")))

-- the line that names a line of a report as refused
abbrev pub refusal_text : ℕ → AuditCause → List ℕ
refusal_text number cause = decimal number ++ (codes " bad " ++ (cause_text cause ++ codes "\n"))
