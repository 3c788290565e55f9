use Rattle.std.proofs.Common.{refl}
use Rattle.std.specs.Fmt.{digits}
use Rattle.ptu_report_lines.proofs.examples.lines_of_a_slave.Goals as goal

pub returns-clause-announce : goal.returns-clause-announce
unfolding digits
returns-clause-announce c = refl

pub returns-clause-sync : goal.returns-clause-sync
unfolding digits
returns-clause-sync c = refl

pub returns-clause-follow_up : goal.returns-clause-follow_up
unfolding digits
returns-clause-follow_up c = refl

pub returns-clause-delay_resp : goal.returns-clause-delay_resp
unfolding digits
returns-clause-delay_resp c = refl

pub returns-clause-grant : goal.returns-clause-grant
unfolding digits
returns-clause-grant c = refl

pub returns-clause-denial : goal.returns-clause-denial
unfolding digits
returns-clause-denial c = refl

pub returns-clause-cancel : goal.returns-clause-cancel
unfolding digits
returns-clause-cancel c = refl

pub returns-clause-cancel_of_no_kind : goal.returns-clause-cancel_of_no_kind
unfolding digits
returns-clause-cancel_of_no_kind c = refl

pub returns-clause-ack : goal.returns-clause-ack
unfolding digits
returns-clause-ack c = refl

pub returns-clause-fault : goal.returns-clause-fault
unfolding digits
returns-clause-fault c = refl

pub returns-clause-unknown : goal.returns-clause-unknown
unfolding digits
returns-clause-unknown c = refl

pub returns-clause-other : goal.returns-clause-other
unfolding digits
returns-clause-other c = refl

pub returns-clause-stranger : goal.returns-clause-stranger
unfolding digits
returns-clause-stranger c = refl

pub returns-clause-domain : goal.returns-clause-domain
unfolding digits
returns-clause-domain c = refl

pub returns-clause-target : goal.returns-clause-target
unfolding digits
returns-clause-target c = refl

pub returns-clause-nobody : goal.returns-clause-nobody
unfolding digits
returns-clause-nobody c = refl

pub returns-clause-selected : goal.returns-clause-selected
unfolding digits
returns-clause-selected c = refl

pub returns-clause-selected_none : goal.returns-clause-selected_none
unfolding digits
returns-clause-selected_none c = refl

pub returns-clause-bad : goal.returns-clause-bad
unfolding digits
returns-clause-bad c = refl

pub returns-clause-end : goal.returns-clause-end
unfolding digits
returns-clause-end c = refl
