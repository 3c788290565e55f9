-- TLVs that can be sent.
use Rattle.std.proofs.Common.{◌≡◌, ℕ, zero, suc, ◌-◌, ◌/◌, ◌<◌, ◌≤◌, List, [], ◌∷◌, ◌++◌, map, All, length, take, drop, get_or, arith, sym, subst, lit<}
use Rattle.std.proofs.lemmas.List.Elements.{All-from_recursion}
use Rattle.std.specs.List.{AllByRecursion, filter_map, slice_index, slice_range}
use Rattle.ptu_units.specs.declared.kind.{Kind.{Kind}, Kind.TheVariants.{Announce, Sync, DelayResp}}
use Rattle.ptu_units.specs.Kind.{code_of}
use Rattle.ptu_messages.specs.declared.tlv.Tlv.{Tlv}
use Rattle.ptu_messages.specs.declared.tlv.Tlv.TheVariants as tlv
use Rattle.ptu_messages.specs.{TlvsSent.{IsSendable}, Tlv.{SpellsTlv}}
use Rattle.ptu_messages.specs.declared.message.Body.{Body}
use Rattle.ptu_messages.specs.declared.message.Body.TheVariants as body
use Rattle.ptu_messages.specs.declared.message.Message.{Message}
use Rattle.ptu_messages.specs.Message.{IsBodyOf, SpellsBody, SpellsMessage, least_length}
use Rattle.ptu_messages.specs.{MessageFault.{IsSignaling}, Tlvs.{AreSpelled}}
use Rattle.ptu_record.specs.declared.wants.Wants.{Wants}
use Rattle.ptu_slave_messages.specs.Heard.{FitsReply, ack_by, content_of}
use Rattle.ptu_messages.specs.Message.{HasTlvs}
use Rattle.ptu_slave_messages.specs.Sending.{cancel_of, request_of}

code_fits : (k : Kind) → code_of k < 16
code_fits Announce = lit< tt
code_fits Sync = lit< tt
code_fits DelayResp = lit< tt

requests : (wants : Wants) (ks : List Kind) → AllByRecursion IsSendable (map (request_of wants) ks)
requests wants [] = tt
requests wants (k ∷ ks) = (code_fits k, requests wants ks)

pub requests_sendable : (wants : Wants) (ks : List Kind) → All IsSendable (map (request_of wants) ks)
requests_sendable wants ks = All-from_recursion IsSendable (map (request_of wants) ks) (requests wants ks)

cancels : (ks : List Kind) → AllByRecursion IsSendable (map cancel_of ks)
cancels [] = tt
cancels (k ∷ ks) = (code_fits k, cancels ks)

pub cancels_sendable : (ks : List Kind) → All IsSendable (map cancel_of ks)
cancels_sendable ks = All-from_recursion IsSendable (map cancel_of ks) (cancels ks)

-- ---- what answers the TLVs of a Signaling

pub octets : (xs : List ℕ) → ((i : ℕ) → get_or xs i 0 < 256) → AllByRecursion (λ o. o < 256) xs
octets [] each = tt
octets (x ∷ xs) each = (each 0, octets xs (λ i. each (suc i)))

taken : (n : ℕ) (xs : List ℕ) → AllByRecursion (λ o. o < 256) xs → AllByRecursion (λ o. o < 256) (take n xs)
taken zero xs all = tt
taken (suc n) [] all = tt
taken (suc n) (x ∷ xs) all = (all.0, taken n xs all.1)

dropped : (n : ℕ) (xs : List ℕ) → AllByRecursion (λ o. o < 256) xs → AllByRecursion (λ o. o < 256) (drop n xs)
dropped zero xs all = all
dropped (suc n) [] all = tt
dropped (suc n) (x ∷ xs) all = dropped n xs all.1

front : (xs ys : List ℕ) → AllByRecursion (λ o. o < 256) (xs ++ ys) → AllByRecursion (λ o. o < 256) xs
front [] ys all = tt
front (x ∷ xs) ys all = (all.0, front xs ys all.1)

rest : (xs ys : List ℕ) → AllByRecursion (λ o. o < 256) (xs ++ ys) → AllByRecursion (λ o. o < 256) ys
rest [] ys all = all
rest (x ∷ xs) ys all = rest xs ys all.1

at : (xs : List ℕ) (i : ℕ) → AllByRecursion (λ o. o < 256) xs → slice_index xs i < 256
at [] i all = lit< tt
at (x ∷ xs) zero all = all.0
at (x ∷ xs) (suc i) all = at xs i all.1

nibble : (n : ℕ) → n < 256 → n / 16 < 16
nibble n below = omega arith

acks : (os : List ℕ) (tlvs : List Tlv) → AllByRecursion (λ o. o < 256) os → AreSpelled os tlvs → AllByRecursion IsSendable (filter_map ack_by tlvs)
acks os [] all spelled = tt
acks os (v ∷ tlvs) all (before, behind, same, first, more) =
    one v first (acks behind tlvs (rest before behind (subst (AllByRecursion (λ o. o < 256)) same all)) more)
  where
    one : (v : Tlv) → SpellsTlv before v → AllByRecursion IsSendable (filter_map ack_by tlvs) → AllByRecursion IsSendable (filter_map ack_by (v ∷ tlvs))
    one (tlv.Request ask) is others = others
    one (tlv.Grant ask invited) is others = others
    one (tlv.Cancel code) is others =
        (subst (λ n. n < 16) (sym is.1) (nibble (slice_index before 4) (at before 4 (front before behind (subst (AllByRecursion (λ o. o < 256)) same all)))), others)
    one (tlv.Ack code) is others = others
    one (tlv.Other t n) is others = others

few : (tlvs : List Tlv) → length (filter_map ack_by tlvs) ≤ length tlvs
few [] = omega arith
few (tlv.Request ask ∷ tlvs) = omega (arith, few tlvs)
few (tlv.Grant ask invited ∷ tlvs) = omega (arith, few tlvs)
few (tlv.Cancel code ∷ tlvs) = omega (arith, few tlvs)
few (tlv.Ack code ∷ tlvs) = omega (arith, few tlvs)
few (tlv.Other t n ∷ tlvs) = omega (arith, few tlvs)

-- of a message that the octets spell
pub fits_reply : (os : List ℕ) (wants : Wants) (message : Message) → ((i : ℕ) → get_or os i 0 < 256) → SpellsMessage os message → FitsReply (content_of wants message.body)
fits_reply os wants message each spelled = pick message.body spelled.body
  where
    pick : (b : Body) → SpellsBody os spelled.n b → FitsReply (content_of wants b)
    pick (body.Sync stamp) is = tt
    pick (body.DelayReq stamp) is = tt
    pick (body.FollowUp stamp) is = tt
    pick (body.DelayResp stamp requester) is = tt
    pick (body.Announce announce) is = tt
    pick (body.Signaling target tlvs) is = (
      (let most : length tlvs ≤ 32 = is.1.few in omega (arith, few tlvs)),
      All-from_recursion IsSendable (filter_map ack_by tlvs)
          (acks (slice_range os 44 spelled.n) tlvs (taken (spelled.n - 44) (drop 44 os) (dropped 44 os (octets os each))) is.1.spelled),
    )
    pick body.Ignored is = tt

-- a Signaling that is spelled begins the octets
pub is_signaling : (os : List ℕ) (message : Message) → SpellsMessage os message → HasTlvs message.body → (n : ℕ) × IsSignaling os n
is_signaling os message spelled has = (spelled.n, record { header = message.header; spelled = spelled.header; message_type = kind; least = least })
  where
    kind : message.header.message_type ≡ 12
    kind = pick message.body has spelled.kind
      where
        pick : (b : Body) → HasTlvs b → IsBodyOf message.header.message_type b → message.header.message_type ≡ 12
        pick (body.Sync stamp) h is = absurd h
        pick (body.DelayReq stamp) h is = absurd h
        pick (body.FollowUp stamp) h is = absurd h
        pick (body.DelayResp stamp requester) h is = absurd h
        pick (body.Announce announce) h is = absurd h
        pick (body.Signaling target tlvs) h is = is
        pick body.Ignored h is = absurd h

    least : 44 ≤ spelled.n
    least = subst (λ t. least_length t ≤ spelled.n) kind spelled.least
