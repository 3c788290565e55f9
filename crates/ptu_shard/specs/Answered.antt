-- What answers a Delay_Req.
use Rattle.std.specs.Prelude.{ℕ, List, [], ◌∷◌, Option, Some, None, nat_le, nat_lt, if◌then◌else◌}
use Rattle.ptu_history.specs.Events as step
use Rattle.ptu_history.specs.Events.{Answer}
use Rattle.ptu_outside.specs.Departure.{Departure}
use Rattle.ptu_shard.specs.declared.{lease.Lease.{Lease}, answered.Answered.{Answered}}
use Rattle.ptu_shard.specs.declared.answered.Answered.TheVariants.{Sent, Failed, NoGrant, TooSoon}

-- what a Delay_Req meets by the answer: whether or not the send failed, a Delay_Resp was lawful
abbrev pub met_by : Answered → Answer
met_by (Sent at) = step.Answered
met_by (Failed at) = step.Answered
met_by (NoGrant at) = step.NoGrant
met_by (TooSoon at earliest) = step.TooSoon earliest

-- the moment of the answer
abbrev pub moment_of_answer : Answered → ℕ
moment_of_answer (Sent at) = at
moment_of_answer (Failed at) = at
moment_of_answer (NoGrant at) = at
moment_of_answer (TooSoon at earliest) = at

-- what a Delay_Req meets at the moment, by the client's lease of Delay_Resps
abbrev pub answer_by : ℕ → Option Lease → Answer
answer_by x None = step.NoGrant
answer_by x (Some lease) =
    if nat_le lease.until x then step.NoGrant
    else (if nat_lt x lease.edge then step.TooSoon lease.edge else step.Answered)

-- the datagrams that are handed to the port: the Delay_Resp where it is lawful
abbrev pub responses : Answer → Departure → List Departure
responses step.Answered departure = departure ∷ []
responses step.NoGrant departure = []
responses (step.TooSoon earliest) departure = []

-- how many were sent, and how many sends failed
abbrev pub sent_by : Answered → ℕ
sent_by (Sent at) = 1
sent_by (Failed at) = 0
sent_by (NoGrant at) = 0
sent_by (TooSoon at earliest) = 0

abbrev pub failed_by : Answered → ℕ
failed_by (Sent at) = 0
failed_by (Failed at) = 1
failed_by (NoGrant at) = 0
failed_by (TooSoon at earliest) = 0
