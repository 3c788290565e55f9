-- By which port a datagram may be answered: its first octet says it.
use Rattle.std.proofs.Common.{◌≡◌, ◌∙◌, ℕ, List, Bool, true, false, ◌==◌, if◌then◌else◌, refl, sym, ap, arith, Result, Ok, Err}
use Rattle.std.specs.Prelude.{OnOk}
use Rattle.std.proofs.lemmas.Bool.{eq-eqb, eqb-true, true≢false}
use Rattle.ptu_units.specs.Number.{low_nibble_at}
use Rattle.ptu_outside.specs.MemoryPort.{MemoryPort}
use Rattle.ptu_messages.specs.declared.header.Header.{Header}
use Rattle.ptu_messages.specs.declared.message.Body.{Body}
use Rattle.ptu_messages.specs.declared.message.Body.TheVariants as body
use Rattle.ptu_messages.specs.declared.message.Message.{Message}
use Rattle.ptu_messages.specs.{declared.fault.MessageFault.{MessageFault}, Message.{SpellsMessage}}
use Rattle.ptu_messages.specs.Reading.{message_in}
use Rattle.ptu_messages.proofs.Readings.{found_is}
use Rattle.ptu_profile.specs.declared.grandmaster.GmConfig.{GmConfig}
use Rattle.ptu_profile.specs.Target.{is_target}
use Rattle.ptu_gm_messages.specs.declared.heard.Heard.{Heard}
use Rattle.ptu_gm_messages.specs.declared.heard.Heard.TheVariants as heard
use Rattle.ptu_gm_messages.specs.declared.{item.Item.{Item}, reason.GmReason.{GmReason}}
use Rattle.ptu_gm_messages.specs.declared.reason.GmReason.TheVariants as reasons
use Rattle.ptu_gm_messages.specs.Items.{heard_by, heard_in, items_among, of_message, with_items}
use Rattle.ptu_grandmaster.specs.Gm.{KeptGm}
use Rattle.ptu_nodes.specs.GrandmasterPorts.{HasRoom, HasResponseRoom, HasRoomToAnswer}

-- what a datagram's messageType leaves room for
abbrev HasRoomOfType : ℕ → KeptGm MemoryPort → Type 0
HasRoomOfType t gm = (t ≡ 1 → HasResponseRoom gm) × (t ≡ 12 → HasRoom 1 428 gm.reply)

for_target : (header : Header) (items : List Item) (mine own : Bool) (d : ℕ) (gm : KeptGm MemoryPort) → HasRoom 1 428 gm.reply →
    HasRoomToAnswer (with_items header (if own then (if mine then Ok items else Err reasons.Target) else Err (reasons.Domain d))) gm
for_target header items true true d gm room = room
for_target header items false true d gm room = tt
for_target header items mine false d gm room = tt

for_domain : (header : Header) (own : Bool) (d : ℕ) (gm : KeptGm MemoryPort) → HasResponseRoom gm →
    HasRoomToAnswer (if own then Ok (heard.DelayReq header) else Err (reasons.Domain d)) gm
for_domain header true d gm room = room
for_domain header false d gm room = tt

-- the messageType of a message that was read is in its first octet
type_of : (octets : List ℕ) (m : Message) → SpellsMessage octets m → m.header.message_type ≡ low_nibble_at octets 0
type_of octets m h = ap (λ (header : Header). header.message_type) h.header.fields

room_by_body : (config : GmConfig) (octets : List ℕ) (header : Header) (b : Body) (gm : KeptGm MemoryPort) →
    SpellsMessage octets (record { header = header; body = b }) → HasRoomOfType (low_nibble_at octets 0) gm → HasRoomToAnswer (heard_by config header b) gm
room_by_body config octets header (body.Signaling target tlvs) gm h room =
    for_target header (items_among tlvs) (is_target config.identity target) (header.domain == config.domain) header.domain gm
    (room.1 (sym (type_of octets _ h) ∙ h.kind))
room_by_body config octets header (body.DelayReq stamp) gm h room =
    for_domain header (header.domain == config.domain) header.domain gm (room.0 (sym (type_of octets _ h) ∙ h.kind))
room_by_body config octets header (body.Sync stamp) gm h room = tt
room_by_body config octets header (body.FollowUp stamp) gm h room = tt
room_by_body config octets header (body.DelayResp stamp requester) gm h room = tt
room_by_body config octets header (body.Announce announced) gm h room = tt
room_by_body config octets header body.Ignored gm h room = tt

room_in : (config : GmConfig) (octets : List ℕ) (gm : KeptGm MemoryPort) (found : Result Message MessageFault) → message_in octets ≡ found →
    HasRoomOfType (low_nibble_at octets 0) gm → HasRoomToAnswer (of_message (heard_by config) found) gm
room_in config octets gm (Ok m) e room = room_by_body config octets m.header m.body gm (found_is octets m e) room
room_in config octets gm (Err fault) e room = tt

-- there is room to answer a datagram where there is room for what its first octet may ask
room_to_answer : (config : GmConfig) (octets : List ℕ) (gm : KeptGm MemoryPort) → HasRoomOfType (low_nibble_at octets 0) gm →
    HasRoomToAnswer (heard_in config octets) gm
unfolding heard_in
room_to_answer config octets gm room = room_in config octets gm (message_in octets) refl room

pub room_of_responses : {T E : Type 0} (r : Result T E) (octets : List ℕ) (gm : KeptGm MemoryPort) → (low_nibble_at octets 0 == 1) ≡ true →
    OnOk r (HasResponseRoom gm) → OnOk r ((config : GmConfig) → HasRoomToAnswer (heard_in config octets) gm)
room_of_responses (Ok x) octets gm is room =
    let one : low_nibble_at octets 0 ≡ 1 = eqb-true (low_nibble_at octets 0) 1 is in
    λ config. room_to_answer config octets gm ((λ _. room), (λ twelve. absurd (omega (arith, one, twelve))))
room_of_responses (Err e) octets gm is room = tt

pub room_of_reply : {T E : Type 0} (r : Result T E) (octets : List ℕ) (gm : KeptGm MemoryPort) → (low_nibble_at octets 0 == 1) ≡ false →
    OnOk r (HasRoom 1 428 gm.reply) → OnOk r ((config : GmConfig) → HasRoomToAnswer (heard_in config octets) gm)
room_of_reply (Ok x) octets gm is room = λ config.
    room_to_answer config octets gm ((λ one. absurd (true≢false (sym (eq-eqb (low_nibble_at octets 0) 1 one) ∙ is))), (λ _. room))
room_of_reply (Err e) octets gm is room = tt
