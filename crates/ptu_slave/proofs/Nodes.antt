-- What a slave sends and tells of a datagram is what the node's functions say.
use Rattle.std.proofs.Common.{◌≡◌, ℕ, List, refl, map, ap, Ok, Err}
use Rattle.std.specs.Prelude.{Result}
use Rattle.ptu_messages.specs.declared.header.Header.{Header}
use Rattle.ptu_messages.specs.declared.message.Body.{Body}
use Rattle.ptu_messages.specs.declared.message.Body.TheVariants as body
use Rattle.ptu_messages.specs.declared.message.Message.{Message}
use Rattle.ptu_record.specs.{Record.{Record}, Step.{slave_step}}
use Rattle.ptu_slave_messages.specs.declared.reason.SlaveReason.{SlaveReason}
use Rattle.ptu_slave_messages.specs.Heard.{event_of, replies_in, replies_to}
use Rattle.ptu_slave_messages.specs.{Reception.{reception}, Sending.{sending_departure}}
use Rattle.ptu_slave_messages.specs.Node.{Node, datagram_deed, node_setup, reception_deed}

replies : (node : Node) (L : Record) (t m : ℕ) (header : Header) (b : Body)
    → replies_to m (record { header = header; body = b }) ≡ (slave_step (node_setup node) L t (event_of m (record { header = header; body = b }))).sendings
replies node L t m header (body.Announce announce) = refl
replies node L t m header (body.Sync stamp) = refl
replies node L t m header (body.FollowUp stamp) = refl
replies node L t m header (body.DelayResp stamp requester) = refl
replies node L t m header (body.Signaling target tlvs) = refl
replies node L t m header (body.DelayReq stamp) = refl
replies node L t m header body.Ignored = refl

of_reception : (node : Node) (L : Record) (t : ℕ) (r : Result (ℕ × Message) SlaveReason) → replies_in node.config node.masters r ≡ (reception_deed node L t r).datagrams
of_reception node L t (Err reason) = refl
of_reception node L t (Ok (m, message)) = ap (map (sending_departure node.config node.masters message.header.source)) (replies node L t m message.header message.body)

pub node_replies : (node : Node) (L : Record) (t ip : ℕ) (octets : List ℕ)
    → replies_in node.config node.masters (reception node.config node.masters ip octets) ≡ (datagram_deed node L t ip octets).datagrams
node_replies node L t ip octets = of_reception node L t (reception node.config node.masters ip octets)
