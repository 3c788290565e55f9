use Rattle.std.proofs.Common.{refl}
use Rattle.std.specs.Fmt.{digits}
use Rattle.hex.specs.Hex.{encode_with}
use Rattle.ptu_report_lines.proofs.examples.lines_of_a_grandmaster.Goals as goal

pub returns-clause-granted : goal.returns-clause-granted
unfolding digits
returns-clause-granted c = refl

pub returns-clause-short : goal.returns-clause-short
unfolding digits
returns-clause-short c = refl

pub returns-clause-outside_type : goal.returns-clause-outside_type
unfolding digits
returns-clause-outside_type c = refl

pub returns-clause-outside_log : goal.returns-clause-outside_log
unfolding digits
returns-clause-outside_log c = refl

pub returns-clause-outside_duration : goal.returns-clause-outside_duration
unfolding digits
returns-clause-outside_duration c = refl

pub returns-clause-cancelled : goal.returns-clause-cancelled
unfolding digits
returns-clause-cancelled c = refl

pub returns-clause-nothing : goal.returns-clause-nothing
unfolding digits
returns-clause-nothing c = refl

pub returns-clause-no_kind : goal.returns-clause-no_kind
unfolding digits
returns-clause-no_kind c = refl

pub returns-clause-answered : goal.returns-clause-answered
unfolding digits
returns-clause-answered c = refl

pub returns-clause-no_grant : goal.returns-clause-no_grant
unfolding digits
returns-clause-no_grant c = refl

pub returns-clause-too_soon : goal.returns-clause-too_soon
unfolding digits
returns-clause-too_soon c = refl

pub returns-clause-capacity : goal.returns-clause-capacity
unfolding digits
returns-clause-capacity c = refl

pub returns-clause-shed : goal.returns-clause-shed
unfolding digits encode_with
returns-clause-shed c = refl

pub returns-clause-sent : goal.returns-clause-sent
unfolding digits encode_with
returns-clause-sent c = refl
