-- What a message is, by what is kept of it; and a slave before its first event.
use Rattle.std.proofs.Common.{◌≡◌, ℕ, zero, suc, false, List, [], ◌∷◌, All, length, map, Some, refl, ap, sym, subst, ◌∙◌}
use Rattle.std.proofs.lemmas.{List.{length-map}, List.Elements.{recursion_from_All}}
use Rattle.std.proofs.lemmas.Option.{same_Some}
use Rattle.std.specs.{List.{AllByRecursion, filter_map, slice_get}, Prelude.{Result, Ok, Err}}
use Rattle.ptu_messages.specs.declared.header.{Header.{Header}, PortIdentity.{PortIdentity}}
use Rattle.ptu_messages.specs.declared.tlv.Tlv.{Tlv}
use Rattle.ptu_messages.specs.declared.tlv.Tlv.TheVariants as tlv
use Rattle.ptu_messages.specs.declared.message.Body.{Body}
use Rattle.ptu_messages.specs.declared.message.Body.TheVariants as body
use Rattle.ptu_messages.specs.declared.message.Message.{Message}
use Rattle.ptu_record.specs.{declared.wants.Wants.{Wants}, Judges.{opening_of}}
use Rattle.ptu_record.specs.Step.{TakeSignaling, TakeSync, cancel_code, one_reply}
use Rattle.ptu_judges.specs.Held.{Held, IsFresh}
use Rattle.ptu_judges.specs.Held as judge
use Rattle.ptu_judges.proofs.Holding.{fresh_stands}
use Rattle.ptu_profile.specs.declared.slave.{Master.{Master}, SlaveConfig.{SlaveConfig}}
use Rattle.ptu_slave_messages.specs.declared.content.Content.TheVariants as content
use Rattle.ptu_slave_messages.specs.declared.content.Accepted.{Accepted}
use Rattle.ptu_slave_messages.specs.declared.reason.SlaveReason.{SlaveReason}
use Rattle.ptu_slave_messages.specs.declared.signal.Signal.{Signal}
use Rattle.ptu_profile.specs.Slave.{address_of}
use Rattle.ptu_slave_messages.specs.Heard.{acks_of, content_of, event_of, replies_to, reply_datagrams, said_by, signals_of, taken_of, taken_or_not}
use Rattle.ptu_slave_messages.specs.Sending.{sending_departure, departure_to}
use Rattle.ptu_slave.specs.{Kept.{Kept}, Standing.{Asks, Selects, StandsFor}}

-- ---- messages

-- a Sync
sync_body : (wants : Wants) (m : ℕ) (header : Header) (b : Body) → content_of wants b ≡ content.Sync → event_of m (record { header = header; body = b }) ≡ TakeSync m header.sequence
sync_body wants m header (body.Announce announce) is = absurd (cc is)
sync_body wants m header (body.Sync stamp) is = refl
sync_body wants m header (body.FollowUp stamp) is = absurd (cc is)
sync_body wants m header (body.DelayResp stamp requester) is = absurd (cc is)
sync_body wants m header (body.Signaling target tlvs) is = absurd (cc is)
sync_body wants m header (body.DelayReq stamp) is = absurd (cc is)
sync_body wants m header body.Ignored is = absurd (cc is)

pub event_sync : (wants : Wants) (m : ℕ) (message : Message) → content_of wants message.body ≡ content.Sync → event_of m message ≡ TakeSync m message.header.sequence
event_sync wants m message is = sync_body wants m message.header message.body is

-- a Signaling with these TLVs
pub record Said (wants : Wants) (m : ℕ) (message : Message) (signals : List Signal) (answers : List Tlv) : Type 0 where
  pub tlvs : List Tlv
  pub event : event_of m message ≡ TakeSignaling m message.header.sequence (filter_map said_by tlvs)
  pub replies : replies_to m message ≡ one_reply m message.header.sequence (filter_map cancel_code (filter_map said_by tlvs))
  pub list : signals ≡ signals_of wants tlvs
  pub acks : answers ≡ acks_of tlvs

said_body : (wants : Wants) (m : ℕ) (header : Header) (b : Body) (signals : List Signal) (answers : List Tlv) → content_of wants b ≡ content.Signals signals answers
    → Said wants m (record { header = header; body = b }) signals answers
said_body wants m header (body.Announce announce) signals answers is = absurd (cc is)
said_body wants m header (body.Sync stamp) signals answers is = absurd (cc is)
said_body wants m header (body.FollowUp stamp) signals answers is = absurd (cc is)
said_body wants m header (body.DelayResp stamp requester) signals answers is = absurd (cc is)
said_body wants m header (body.Signaling target tlvs) signals answers is = record { tlvs = tlvs; event = refl; replies = refl; list = cc is; acks = cc is }
said_body wants m header (body.DelayReq stamp) signals answers is = absurd (cc is)
said_body wants m header body.Ignored signals answers is = absurd (cc is)

pub said_in : (wants : Wants) (m : ℕ) (message : Message) (signals : List Signal) (answers : List Tlv) → content_of wants message.body ≡ content.Signals signals answers → Said wants m message signals answers
said_in wants m message signals answers is = said_body wants m message.header message.body signals answers is

-- what answers the TLVs are the ACKNOWLEDGE_CANCELs of the codes
pub acks_are : (tlvs : List Tlv) → acks_of tlvs ≡ map tlv.Ack (filter_map cancel_code (filter_map said_by tlvs))
acks_are [] = refl
acks_are (tlv.Request ask ∷ tlvs) = acks_are tlvs
acks_are (tlv.Grant ask invited ∷ tlvs) = acks_are tlvs
acks_are (tlv.Cancel code ∷ tlvs) = ap (λ w. tlv.Ack code ∷ w) (acks_are tlvs)
acks_are (tlv.Ack code ∷ tlvs) = acks_are tlvs
acks_are (tlv.Other t n ∷ tlvs) = acks_are tlvs

-- a reply goes to its master
reply_departures : (config : SlaveConfig) (masters : List Master) (target : PortIdentity) (m number : ℕ) (codes : List ℕ)
    → map (departure_to config (address_of masters m) target) (one_reply m number codes) ≡ map (sending_departure config masters target) (one_reply m number codes)
reply_departures config masters target m number [] = refl
reply_departures config masters target m number (code ∷ codes) = refl

pub reply_is : (config used : SlaveConfig) (masters : List Master) (m ip number : ℕ) (source : PortIdentity) (codes : List ℕ) (message : Message) → used ≡ config → ip ≡ address_of masters m
    → source ≡ message.header.source → number ≡ message.header.sequence → replies_to m message ≡ one_reply m message.header.sequence codes
    → map (departure_to used ip source) (one_reply m number codes) ≡ reply_datagrams config masters (m, message)
reply_is config used masters m ip number source codes message same address target sequence replies =
    ap (λ c. map (departure_to c ip source) (one_reply m number codes)) same
    ∙ ap (λ i. map (departure_to config i source) (one_reply m number codes)) address
    ∙ ap (λ s. map (departure_to config (address_of masters m) s) (one_reply m number codes)) target
    ∙ ap (λ n. map (departure_to config (address_of masters m) message.header.source) (one_reply m n codes)) sequence
    ∙ reply_departures config masters message.header.source m message.header.sequence codes
    ∙ ap (map (sending_departure config masters message.header.source)) (sym replies)

-- ---- before the first event

fresh_at : {A : Type 0} (f : A → Held) (xs : List A) (m : ℕ) (held : Held) → AllByRecursion (λ j. IsFresh (f j)) xs → slice_get (map f xs) m ≡ Some held
    → judge.StandsFor (opening_of (map (λ j. (f j).rule) xs) m) [] held
fresh_at f [] m held all is = absurd (cc is)
fresh_at f (x ∷ xs) zero held all is = let same : f x ≡ held = same_Some (f x) held is in subst (judge.StandsFor (f x).rule []) same (fresh_stands (f x).rule [] (f x) all.0 refl refl)
fresh_at f (x ∷ xs) (suc m) held all is = fresh_at f xs m held all.1 is

pub stands_fresh : {A : Type 0} (f : A → Held) (xs : List A) (core : Kept) → All (λ j. IsFresh (f j)) xs → length xs ≡ length core.masters → core.moment ≡ 0 → core.stopped ≡ false
    → Asks core [] [] → Selects core [] → StandsFor (map (λ j. (f j).rule) xs) core (map f xs) []
stands_fresh f xs core fresh many moment stopped asks selects = record {
  told = [];
  asks = asks;
  selects = selects;
  judge = record { of_master = λ m held is. fresh_at f xs m held (recursion_from_All (λ j. IsFresh (f j)) xs fresh) is };
  moment = moment;
  stopped = stopped;
  told_all = λ going. refl;
  grants = record { live = λ M t m k within from. refl };
  each_judged = length-map xs f ∙ many;
  each_opening = length-map xs (λ j. (f j).rule) ∙ many;
}

-- ---- datagrams

-- what is taken is a message of the master
pub record IsTaken (wants : Wants) (r : Result (ℕ × Message) SlaveReason) (taken : Accepted) : Type 0 where
  pub message : Message
  pub received : r ≡ Ok (taken.master, message)
  pub kept : taken ≡ taken_of wants (taken.master, message)

pub refused_from : (wants : Wants) (r : Result (ℕ × Message) SlaveReason) (reason : SlaveReason) → Err reason ≡ taken_or_not wants r → r ≡ Err reason
refused_from wants (Err other) reason is = let same : other ≡ reason = cc is in ap Err same
refused_from wants (Ok taken) reason is = absurd (cc is)

pub taken_from : (wants : Wants) (r : Result (ℕ × Message) SlaveReason) (taken : Accepted) → Ok taken ≡ taken_or_not wants r → IsTaken wants r taken
taken_from wants (Err reason) taken is = absurd (cc is)
taken_from wants (Ok (m, message)) taken is = record {
  message = message;
  received = ap (λ n. Ok (n, message)) (sym master);
  kept = subst (λ n. taken ≡ taken_of wants (n, message)) (sym master) same;
}
  where
    same : taken ≡ taken_of wants (m, message)
    same = cc is

    master : taken.master ≡ m
    master = ap (λ (k : Accepted). k.master) same

pub same_taken : (wants : Wants) (r : Result (ℕ × Message) SlaveReason) (taken : Accepted) (m : ℕ) (message : Message) → r ≡ Ok (m, message) → Ok taken ≡ taken_or_not wants r
    → (taken.master ≡ m) × (taken ≡ taken_of wants (taken.master, message))
same_taken wants r taken m message received is = (master, subst (λ n. taken ≡ taken_of wants (n, message)) (sym master) same)
  where
    same : taken ≡ taken_of wants (m, message)
    same = let e : Ok taken ≡ Ok (taken_of wants (m, message)) = is ∙ ap (taken_or_not wants) received in cc e

    master : taken.master ≡ m
    master = ap (λ (k : Accepted). k.master) same
