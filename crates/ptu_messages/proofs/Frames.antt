-- What stands in the octets while a Signaling is written.
use Rattle.std.proofs.Common.{◌≡◌, ℕ, ◌+◌, ◌*◌, ◌<◌, ◌≤◌, List, [], ◌∷◌, ◌++◌, length, get_or, map, take, drop, refl, sym, ap, subst, ◌∙◌, arith, append_assoc, length-append}
use Rattle.std.specs.List.{All, flat_map}
use Rattle.std.proofs.lemmas.List.{append-nil, take_at, drop_at, get_or-map, length-map, length-take-le, drop-drop, length-drop, take-append-drop, take_all, take_more}
use Rattle.ptu_messages.specs.declared.header.{Header.{Header}, PortIdentity.{PortIdentity}}
use Rattle.ptu_messages.specs.Header.{AlwaysSpellsHeader, HasIdentityWidths}
use Rattle.ptu_messages.specs.HeaderSent.{sent_header, sent_identity}
use Rattle.ptu_messages.specs.{declared.tlv.Tlv.{Tlv}, Tlv.{AlwaysBeginsWithTlv}}
use Rattle.ptu_messages.specs.TlvsSent.{IsSendable, sent_tlv}
use Rattle.ptu_messages.specs.{Tlvs.{AreSpelled}, declared.message.Message.{Message}}
use Rattle.ptu_messages.specs.Sent.{AlwaysSpells, sent_body, sent_message, signaling}
use Rattle.ptu_messages.proofs.Sending.{AreSpelled-push, is_sent, signaling_spells, spelled_alone}

-- the first `count` TLVs were put from octet 44 to `size`
pub record IsPut (old out : List ℕ) (size count : ℕ) (tlvs : List Tlv) : Type 0 where
  pub size_is : size ≡ 44 + length (flat_map sent_tlv tlvs)
  pub within : size ≤ 44 + 12 * count
  pub octets : out ≡ take 44 old ++ flat_map sent_tlv tlvs ++ drop size old
  pub spelled : AreSpelled (flat_map sent_tlv tlvs) tlvs

pub IsPut-none : (out : List ℕ) → IsPut out out 44 0 []
IsPut-none out = record {
  size_is = refl;
  within = omega arith;
  octets = sym (ap (λ (o : List ℕ). o ++ drop 44 out) (append-nil (take 44 out)) ∙ take-append-drop 44 out);
  spelled = refl;
}

flat_map-push : (tlvs : List Tlv) (tlv : Tlv) → flat_map sent_tlv (tlvs ++ tlv ∷ []) ≡ flat_map sent_tlv tlvs ++ sent_tlv tlv
flat_map-push [] tlv = append-nil (sent_tlv tlv)
flat_map-push (first ∷ tlvs) tlv =
    ap (λ (o : List ℕ). sent_tlv first ++ o) (flat_map-push tlvs tlv) ∙ sym (append_assoc (sent_tlv first) (flat_map sent_tlv tlvs) (sent_tlv tlv))

pub IsPut-more : (old out new : List ℕ) (size count : ℕ) (tlvs : List Tlv) (tlv : Tlv) (more : List ℕ) → 44 ≤ length old → IsPut old out size count tlvs
    → more ≡ sent_tlv tlv → length more ≤ 12 → AlwaysBeginsWithTlv more tlv → new ≡ take size out ++ more ++ drop (size + length more) out
    → IsPut old new (size + length more) (count + 1) (tlvs ++ tlv ∷ [])
IsPut-more old out new size count tlvs tlv more room p more-is few begins new-is =
    let values : List ℕ = flat_map sent_tlv tlvs in
    let all : flat_map sent_tlv (tlvs ++ tlv ∷ []) ≡ values ++ more = flat_map-push tlvs tlv ∙ ap (λ (o : List ℕ). values ++ o) (sym more-is) in
    let lead : List ℕ = take 44 old ++ values in
    let lead-size : length lead ≡ size = omega (arith, p.size_is, length-append (take 44 old) values, length-take-le 44 old room) in
    let taken : take size out ≡ lead = ap (take size) p.octets ∙ take_at lead (drop size old) size lead-size in
    let left : drop size out ≡ drop size old = ap (drop size) p.octets ∙ drop_at lead (drop size old) size lead-size in
    let rest : drop (size + length more) out ≡ drop (size + length more) old =
    sym (drop-drop (length more) size out) ∙ ap (drop (length more)) left ∙ drop-drop (length more) size old in
    let same : new ≡ lead ++ more ++ drop (size + length more) old = new-is ∙ λ i. taken i ++ more ++ rest i in
    record {
      size_is = omega (arith, p.size_is, ap length all, length-append values more);
      within = omega (arith, p.within, few);
      octets = same ∙ ap (λ (o : List ℕ). o ++ drop (size + length more) old) (append_assoc (take 44 old) values more ∙ ap (λ (o : List ℕ). take 44 old ++ o) (sym all));
      spelled = subst (λ (o : List ℕ). AreSpelled o (tlvs ++ tlv ∷ [])) (sym all) (AreSpelled-push values tlvs more tlv p.spelled (spelled_alone more tlv begins));
    }

pub IsPut-next : (old out new : List ℕ) (size i count : ℕ) (xs : List Tlv) (d : Tlv) (more : List ℕ) → AlwaysBeginsWithTlv more (get_or xs i d) → 44 ≤ length old → i < length xs
    → IsPut old out size i (take i xs) → count ≡ length (sent_tlv (get_or xs i d)) → more ≡ sent_tlv (get_or xs i d) → length more ≤ 12
    → new ≡ take size out ++ more ++ drop (size + length more) out → IsPut old new (size + count) (i + 1) (take (i + 1) xs)
IsPut-next old out new size i count xs d more begins room lt p count-is more-is few new-is =
    let many : size + length more ≡ size + count = omega (arith, ap length more-is, count-is) in
    let next = IsPut-more old out new size i (take i xs) (get_or xs i d) more room p more-is few begins new-is in
    let whole : take i xs ++ get_or xs i d ∷ [] ≡ take (i + 1) xs = sym (take_more xs i d lt) in
    subst (λ (k : ℕ). IsPut old new k (i + 1) (take (i + 1) xs)) many (subst (λ (ts : List Tlv). IsPut old new (size + length more) (i + 1) ts) whole next)

-- likewise, of values that are sent as TLVs
pub IsPut-value : {X : Type 0} (tlv_of : X → Tlv) (old out new : List ℕ) (size i count : ℕ) (xs : List X) (x : X) (tlv : Tlv) (more : List ℕ) → tlv ≡ tlv_of (get_or xs i x) → AlwaysBeginsWithTlv more tlv → 44 ≤ length old → i < length xs
    → IsPut old out size i (take i (map tlv_of xs)) → count ≡ length (sent_tlv tlv) → more ≡ sent_tlv tlv → length more ≤ 12
    → new ≡ take size out ++ more ++ drop (size + length more) out → IsPut old new (size + count) (i + 1) (take (i + 1) (map tlv_of xs))
IsPut-value tlv_of old out new size i count xs x tlv more is begins room lt p count-is more-is few new-is =
    let same : tlv ≡ get_or (map tlv_of xs) i (tlv_of x) = is ∙ sym (get_or-map tlv_of xs i x (tlv_of x) lt) in
    let inside : i < length (map tlv_of xs) = omega (arith, lt, length-map xs tlv_of) in
    IsPut-next old out new size i count (map tlv_of xs) (tlv_of x) more (subst (AlwaysBeginsWithTlv more) same begins) room inside p
    (count-is ∙ ap (λ t. length (sent_tlv t)) same) (more-is ∙ ap sent_tlv same) few new-is

-- such a value can be sent, where all can
pub value_sendable : {X : Type 0} (tlv_of : X → Tlv) (xs : List X) (i : ℕ) (x : X) (tlv : Tlv) → tlv ≡ tlv_of (get_or xs i x) → i < length xs → All IsSendable (map tlv_of xs) → IsSendable tlv
value_sendable tlv_of xs i x tlv is lt all = subst IsSendable (get_or-map tlv_of xs i x (tlv_of x) lt ∙ sym is) (all i (tlv_of x) (omega (arith, lt, length-map xs tlv_of)))

pub IsPut-length : (old out : List ℕ) (size count : ℕ) (tlvs : List Tlv) → 44 ≤ length old → size ≤ length old → IsPut old out size count tlvs → length out ≡ length old
IsPut-length old out size count tlvs room le p =
    let values : List ℕ = flat_map sent_tlv tlvs in
    omega (arith, ap length p.octets, p.size_is, length-append (take 44 old ++ values) (drop size old), length-append (take 44 old) values, length-take-le 44 old room, length-drop size old)

pub IsPut-all : {X : Type 0} (tlv_of : X → Tlv) (old out : List ℕ) (size i : ℕ) (xs : List X) → length xs ≤ i → i ≤ length xs → IsPut old out size i (take i (map tlv_of xs))
    → IsPut old out size (length xs) (map tlv_of xs)
IsPut-all tlv_of old out size i xs le ge p =
    let count : i ≡ length xs = omega arith in
    let whole : length (map tlv_of xs) ≤ i = omega (arith, length-map xs tlv_of) in
    subst (λ (k : ℕ). IsPut old out size k (map tlv_of xs)) count (subst (λ (ts : List Tlv). IsPut old out size i ts) (take_all i (map tlv_of xs) whole) p)

-- ---- the header and the target are put before them

pub record IsFramed (old out front body : List ℕ) (size : ℕ) : Type 0 where
  pub octets : take size out ≡ front ++ body
  pub rest : drop size out ≡ drop size old

pub framed : (old first second third front target values : List ℕ) (size : ℕ) → length front ≡ 34 → length target ≡ 10 → 44 ≤ length old → size ≡ 44 + length values
    → first ≡ take 44 old ++ values ++ drop size old → second ≡ take 0 first ++ front ++ drop (0 + length front) first
    → third ≡ take 34 second ++ target ++ drop (34 + length target) second → IsFramed old third front (target ++ values) size
framed old first second third front target values size front-size target-size room size-is first-is second-is third-is =
    let zero-size : 0 + length front ≡ 34 = omega arith in
    let second-parts : second ≡ front ++ drop 34 first = second-is ∙ ap (λ (k : ℕ). front ++ drop k first) zero-size in
    let head : take 34 second ≡ front = ap (take 34) second-parts ∙ take_at front (drop 34 first) 34 front-size in
    let behind : drop 34 second ≡ drop 34 first = ap (drop 34) second-parts ∙ drop_at front (drop 34 first) 34 front-size in
    let lead : length (take 44 old) ≡ 44 = length-take-le 44 old room in
    let first-parts : first ≡ take 44 old ++ (values ++ drop size old) = first-is ∙ append_assoc (take 44 old) values (drop size old) in
    let tail : drop 44 first ≡ values ++ drop size old = ap (drop 44) first-parts ∙ drop_at (take 44 old) (values ++ drop size old) 44 lead in
    let place : 34 + length target ≡ 44 = omega arith in
    let after : drop (34 + length target) second ≡ values ++ drop size old =
    ap (λ (k : ℕ). drop k second) place ∙ sym (drop-drop 10 34 second) ∙ ap (drop 10) behind ∙ drop-drop 10 34 first ∙ tail in
    let all : List ℕ = front ++ (target ++ values) in
    let whole : third ≡ all ++ drop size old =
    third-is ∙ (λ i. head i ++ target ++ after i)
    ∙ sym (append_assoc (front ++ target) values (drop size old))
    ∙ ap (λ (o : List ℕ). o ++ drop size old) (append_assoc front target values) in
    let all-size : length all ≡ size = omega (arith, length-append front (target ++ values), length-append target values) in
    record {
      octets = ap (take size) whole ∙ take_at all (drop size old) size all-size;
      rest = ap (drop size) whole ∙ drop_at all (drop size old) size all-size;
    }

-- ---- so the whole is the Signaling as it is sent

pub record IsWritten (message : Message) (old new : List ℕ) (size : ℕ) : Type 0 where
  pub size_is : size ≡ length (sent_message message)
  pub octets : take size new ≡ sent_message message
  pub rest : drop size new ≡ drop size old
  pub again : AlwaysSpells (take size new) message

pub written : (header : Header) (target : PortIdentity) (tlvs : List Tlv) (old first second third front identity : List ℕ) (size : ℕ) → header.message_type ≡ 12 → length tlvs ≤ 32 → 44 ≤ length old
    → size ≡ 44 + length (flat_map sent_tlv tlvs) → first ≡ take 44 old ++ flat_map sent_tlv tlvs ++ drop size old → AreSpelled (flat_map sent_tlv tlvs) tlvs
    → front ≡ sent_header header size → AlwaysSpellsHeader front header size → second ≡ take 0 first ++ front ++ drop (0 + length front) first
    → identity ≡ sent_identity target → HasIdentityWidths target → third ≡ take 34 second ++ identity ++ drop (34 + length identity) second
    → IsWritten (signaling header target tlvs) old third size
written header target tlvs old first second third front identity size kind few room size-is first-is spelled front-is again second-is identity-is wide third-is =
    let values : List ℕ = flat_map sent_tlv tlvs in
    let message : Message = signaling header target tlvs in
    let front-size : length front ≡ 34 = ap length front-is in
    let identity-size : length identity ≡ 10 = ap length identity-is in
    let f = framed old first second third front identity values size front-size identity-size room size-is first-is second-is third-is in
    let body : List ℕ = identity ++ values in
    let body-is : body ≡ sent_body message.body = ap (λ (o : List ℕ). o ++ values) identity-is in
    let all : size ≡ 34 + length body = omega (arith, length-append identity values) in
    let whole : take size third ≡ sent_header header size ++ body = f.octets ∙ ap (λ (o : List ℕ). o ++ body) front-is in
    let s = is_sent message (take size third) body size body-is all whole in
    let sent-size : size ≡ 34 + length (sent_body message.body) = all ∙ ap (λ (o : List ℕ). 34 + length o) body-is in
    let sent-whole : take size third ≡ sent_header header size ++ sent_body message.body = whole ∙ ap (λ (o : List ℕ). sent_header header size ++ o) body-is in
    let again-sent = subst (λ (o : List ℕ). AlwaysSpellsHeader o header size) front-is again in
    record {
      size_is = s.size_is;
      octets = s.octets;
      rest = f.rest;
      again = subst (λ (o : List ℕ). AlwaysSpells o message) (sym sent-whole) (signaling_spells header target tlvs size sent-size again-sent kind wide spelled few);
    }
