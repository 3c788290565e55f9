-- The TLVs that answer what items come to.
use Rattle.std.proofs.Common.{◌≡◌, List, [], ◌∷◌, map, refl, ap}
use Rattle.std.specs.List.{All}
use Rattle.std.proofs.lemmas.List.Elements.{All-cons, All-head, All-nil, All-tail}
use Rattle.ptu_admit.specs.declared.verdict.Verdict.TheVariants as given
use Rattle.ptu_messages.specs.{declared.tlv.Tlv.{Tlv}, TlvsSent.{IsSendable}}
use Rattle.ptu_gm_messages.specs.{Deciding.{answer_to}, Items.{HasCode}}
use Rattle.ptu_grandmaster.specs.declared.outcome.Outcome.{Outcome}
use Rattle.ptu_grandmaster.specs.declared.outcome.Outcome.TheVariants as outcome
use Rattle.ptu_grandmaster.specs.Outcomes.{answers_seen, decision_seen, item_seen}

abbrev pub answer_of : Outcome → Tlv
answer_of o = answer_to (decision_seen o)

pub answers-each : (outcomes : List Outcome) → map answer_of outcomes ≡ answers_seen outcomes
answers-each [] = refl
answers-each (o ∷ outcomes) = ap (λ (tlvs : List Tlv). answer_of o ∷ tlvs) (answers-each outcomes)

can_be_sent : (o : Outcome) → HasCode (item_seen o) → IsSendable (answer_of o)
can_be_sent (outcome.Verdict ask (given.Granted grant)) code = code
can_be_sent (outcome.Verdict ask (given.Short shortage)) code = code
can_be_sent (outcome.Verdict ask (given.Outside cause)) code = code
can_be_sent (outcome.Cancel code answer) small = small

pub answers_sendable : (outcomes : List Outcome) → All HasCode (map item_seen outcomes) → All IsSendable (map answer_of outcomes)
answers_sendable [] all = All-nil IsSendable
answers_sendable (o ∷ outcomes) all =
    All-cons IsSendable (answer_of o) (map answer_of outcomes) (can_be_sent o (All-head HasCode (item_seen o) (map item_seen outcomes) all))
    (answers_sendable outcomes (All-tail HasCode (item_seen o) (map item_seen outcomes) all))
