-- How many items a Signaling has.
use Rattle.std.proofs.Common.{◌≡◌, ℕ, ◌≤◌, List, Bool, true, false, ◌==◌, if◌then◌else◌, length, refl, arith, Result, Ok, Err}
use Rattle.ptu_messages.specs.declared.header.Header.{Header}
use Rattle.ptu_messages.specs.declared.message.Body.{Body}
use Rattle.ptu_messages.specs.declared.message.Body.TheVariants as body
use Rattle.ptu_messages.specs.declared.message.Message.{Message}
use Rattle.ptu_messages.specs.{declared.fault.MessageFault.{MessageFault}, Message.{SpellsMessage}}
use Rattle.ptu_messages.specs.Reading.{message_in}
use Rattle.ptu_messages.proofs.Readings.{found_is}
use Rattle.ptu_profile.specs.declared.grandmaster.GmConfig.{GmConfig}
use Rattle.ptu_gm_messages.specs.declared.heard.Heard.{Heard}
use Rattle.ptu_gm_messages.specs.declared.heard.Heard.TheVariants as heard
use Rattle.ptu_gm_messages.specs.declared.{item.Item.{Item}, reason.GmReason.{GmReason}}
use Rattle.ptu_gm_messages.specs.declared.reason.GmReason.TheVariants as reasons
use Rattle.ptu_gm_messages.specs.Items.{heard_by, heard_in, items_among, of_message, with_items}
use Rattle.ptu_profile.specs.Target.{is_target}
use Rattle.ptu_gm_messages.proofs.Octets.{few_among}

-- one reply is enough
abbrev pub AreFew : Result Heard GmReason → Type 0
AreFew (Ok (heard.Asks header items)) = length items ≤ 32
AreFew (Ok (heard.DelayReq header)) = Unit {0}
AreFew (Err reason) = Unit {0}

for_target : (header : Header) (items : List Item) (mine own : Bool) (d : ℕ) → length items ≤ 32 →
    AreFew (with_items header (if own then (if mine then Ok items else Err reasons.Target) else Err (reasons.Domain d)))
for_target header items true true d few = few
for_target header items false true d few = tt
for_target header items mine false d few = tt

for_domain : (header : Header) (own : Bool) (d : ℕ) → AreFew (if own then Ok (heard.DelayReq header) else Err (reasons.Domain d))
for_domain header true d = tt
for_domain header false d = tt

few_by : (config : GmConfig) (octets : List ℕ) (header : Header) (b : Body) → SpellsMessage octets (record { header = header; body = b }) → AreFew (heard_by config header b)
few_by config octets header (body.Signaling target tlvs) h =
    for_target header (items_among tlvs) (is_target config.identity target) (header.domain == config.domain) header.domain (omega (arith, few_among tlvs, h.body.1.few))
few_by config octets header (body.DelayReq stamp) h = for_domain header (header.domain == config.domain) header.domain
few_by config octets header (body.Sync stamp) h = tt
few_by config octets header (body.FollowUp stamp) h = tt
few_by config octets header (body.DelayResp stamp requester) h = tt
few_by config octets header (body.Announce announced) h = tt
few_by config octets header body.Ignored h = tt

few_in : (config : GmConfig) (octets : List ℕ) (found : Result Message MessageFault) → message_in octets ≡ found → AreFew (of_message (heard_by config) found)
few_in config octets (Ok m) e = few_by config octets m.header m.body (found_is octets m e)
few_in config octets (Err fault) e = tt

-- of a Signaling that was heard one reply answers all items
pub few_heard : (config : GmConfig) (octets : List ℕ) → AreFew (heard_in config octets)
unfolding heard_in
few_heard config octets = few_in config octets (message_in octets) refl
