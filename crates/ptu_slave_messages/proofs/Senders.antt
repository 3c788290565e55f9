-- Who sends a message that is taken, and what its event judges.
use Rattle.std.proofs.Common.{◌≡◌, ◌≢◌, ℕ, ◌<◌, Bool, true, false, List, length, Option, Some, None, Ok, Err, refl, ap, subst}
use Rattle.std.proofs.lemmas.List.Quantifiers.{position-Some}
use Rattle.std.specs.{List.{AllByRecursion}, Prelude.{Result, if◌then◌else◌, ◌==◌, not}}
use Rattle.ptu_messages.specs.declared.header.Header.{Header}
use Rattle.ptu_messages.specs.declared.{fault.MessageFault.{MessageFault}, message.Body.{Body}}
use Rattle.ptu_messages.specs.declared.message.Body.TheVariants as body
use Rattle.ptu_messages.specs.{declared.message.Message.{Message}, Reading.{message_in}}
use Rattle.ptu_record.specs.Step.{ReplaceJudge, judged_masters}
use Rattle.ptu_profile.specs.declared.slave.{Master.{Master}, SlaveConfig.{SlaveConfig}}
use Rattle.ptu_slave_messages.specs.declared.reason.SlaveReason.{SlaveReason}
use Rattle.ptu_slave_messages.specs.declared.reason.SlaveReason.TheVariants.{Domain, Other, Target, UnknownType}
use Rattle.ptu_profile.specs.Slave.{place_of}
use Rattle.ptu_slave_messages.specs.Heard.{event_of}
use Rattle.ptu_slave_messages.specs.Reception.{beside, from_master, is_delay_req, is_for, is_unknown, of_reading, reception, sender_of}

past : {A E : Type 0} (b : Bool) (e : E) (r : Result A E) (x : A) → (if b then Err e else r) ≡ Ok x → r ≡ Ok x
past true e r x is = absurd (cc is)
past false e r x is = is

from_place : (config : SlaveConfig) (masters : List Master) (ip n : ℕ) (message : Message) (place : Option ℕ) → place_of masters ip ≡ place → from_master config message place ≡ Ok n → n < length masters
from_place config masters ip n message None at is = absurd (cc is)
from_place config masters ip n message (Some k) at is =
    let here : (if not (is_for config.identity message.body) then Err Target else Ok k) ≡ Ok n =
    past (not (message.header.domain == config.domain)) (Domain message.header.domain) (if not (is_for config.identity message.body) then Err Target else Ok k) n is in
    let taken : Ok k ≡ Ok n = past (not (is_for config.identity message.body)) Target (Ok k) n here in
    let same : k ≡ n = cc taken in
    subst (λ i. i < length masters) same (position-Some (λ (master : Master). master.ip == ip) masters k (record { ip = 0; priority = 0 }) at).0

from_beside : (config : SlaveConfig) (masters : List Master) (ip m : ℕ) (read message : Message) (o : Result ℕ SlaveReason) → sender_of config masters ip read ≡ o → beside read o ≡ Ok (m, message) → m < length masters
from_beside config masters ip m read message (Err reason) sender is = absurd (cc is)
from_beside config masters ip m read message (Ok n) sender is =
    let known : (if is_delay_req read.body then Err (Other read.header.message_type) else from_master config read (place_of masters ip)) ≡ Ok n =
    past (is_unknown read.body) (UnknownType read.header.message_type) (if is_delay_req read.body then Err (Other read.header.message_type) else from_master config read (place_of masters ip)) n sender in
    subst (λ i. i < length masters) (ap first is)
    (from_place config masters ip n read (place_of masters ip) refl (past (is_delay_req read.body) (Other read.header.message_type) (from_master config read (place_of masters ip)) n known))
  where
    first : Result (ℕ × Message) SlaveReason → ℕ
    first (Err reason) = 0
    first (Ok taken) = taken.0

-- who sends a message that is taken stands in the list
pub taken_within : (config : SlaveConfig) (masters : List Master) (ip m : ℕ) (message : Message) (octets : List ℕ) → reception config masters ip octets ≡ Ok (m, message) → m < length masters
taken_within config masters ip m message octets = by_reading (message_in octets)
  where
    by_reading : (r : Result Message MessageFault) → of_reading config masters ip r ≡ Ok (m, message) → m < length masters
    by_reading (Err fault) is = absurd (cc is)
    by_reading (Ok read) is = from_beside config masters ip m read message (sender_of config masters ip read) refl is

-- no message replaces a judge
pub no_judge : (m n : ℕ) (header : Header) (b : Body) → event_of m (record { header = header; body = b }) ≢ ReplaceJudge n None
no_judge m n header (body.Announce announce) = λ is. absurd (cc is)
no_judge m n header (body.Sync stamp) = λ is. absurd (cc is)
no_judge m n header (body.FollowUp stamp) = λ is. absurd (cc is)
no_judge m n header (body.DelayResp stamp requester) = λ is. absurd (cc is)
no_judge m n header (body.Signaling target tlvs) = λ is. absurd (cc is)
no_judge m n header (body.DelayReq stamp) = λ is. absurd (cc is)
no_judge m n header body.Ignored = λ is. absurd (cc is)

-- and the masters that it judges stand in the list
pub judged_within : (m n : ℕ) (header : Header) (b : Body) → m < n → AllByRecursion (λ k. k < n) (judged_masters n (event_of m (record { header = header; body = b })))
judged_within m n header (body.Announce announce) lt = tt
judged_within m n header (body.Sync stamp) lt = (lt, tt)
judged_within m n header (body.FollowUp stamp) lt = tt
judged_within m n header (body.DelayResp stamp requester) lt = tt
judged_within m n header (body.Signaling target tlvs) lt = tt
judged_within m n header (body.DelayReq stamp) lt = tt
judged_within m n header body.Ignored lt = tt
