-- What a slave of a script heard, and what it does of it.
use Rattle.std.proofs.Common.{◌≡◌, ℕ, suc, ◌+◌, ◌<◌, max, Bool, true, false, List, [], ◌∷◌, ◌++◌, length, map, Option, Some, Ok, Err, refl, ap, ap₂, sym, subst, ◌∙◌, arith}
use Rattle.std.proofs.lemmas.{Bool.{false≢true}, List.{append-nil, length-map}}
use Rattle.std.specs.Prelude.{IfOk, IsOk, OnOk, Result}
use Rattle.ptu_messages.specs.declared.header.Header.{Header}
use Rattle.ptu_messages.specs.declared.message.Body.{Body}
use Rattle.ptu_messages.specs.declared.message.Body.TheVariants as body
use Rattle.ptu_messages.specs.declared.message.Message.{Message}
use Rattle.ptu_outside.specs.MemoryPort.{IsSure, MemoryPort}
use Rattle.ptu_record.specs.declared.{rule.Rule.{Rule}, wants.Wants.{Wants}}
use Rattle.ptu_record.specs.{Record.{Record, event_moment}, Step.{one_reply}}
use Rattle.ptu_judges.specs.Held.{Held}
use Rattle.ptu_profile.specs.declared.slave.{Master.{Master}, SlaveConfig.{SlaveConfig}}
use Rattle.ptu_slave_messages.specs.declared.heard.Heard.{Heard}
use Rattle.ptu_slave_messages.specs.declared.heard.Heard.TheVariants as heard
use Rattle.ptu_outside.specs.declared.reply.Reply.{Reply}
use Rattle.ptu_outside.specs.declared.reply.Reply.TheVariants.{Sent, Failed, Nothing}
use Rattle.ptu_slave_messages.specs.declared.reason.SlaveReason.{SlaveReason}
use Rattle.ptu_outside.specs.Replies.{reply_failed, reply_sent}
use Rattle.ptu_slave_messages.specs.Heard.{answer_of, event_of, heard_of, replies_in, replies_to, reply_by, reply_in}
use Rattle.ptu_slave_messages.specs.Node.{Deed, Node, datagram_deed, datagram_heard, reception_deed, reception_heard}
use Rattle.ptu_slave_messages.specs.{Reception.{reception}, Sending.{sending_departure}}
use Rattle.ptu_slave.specs.{Kept.{IsSame, Kept}, Standing.{StandsFor, Steps}}
use Rattle.ptu_slave.proofs.{Nodes.{node_replies}, Stepping.{moment_is}}
use Rattle.ptu_world.specs.Deeds.{Slave}
use Rattle.ptu_world.specs.Slaves as slaves
use Rattle.ptu_world.specs.Slaves.{event_deed, heard_deed, heard_said}
use Rattle.ptu_nodes.specs.{Doing.{HasDone}, Noted.{Noted, with_handed, with_said, with_sent}}
use Rattle.ptu_nodes.proofs.Noting.{said_nothing, sent_nothing}
use Rattle.ptu_lab.specs.NodeStanding.{IsSlaveNode, StandsAsSlave}
use Rattle.ptu_nodes.specs.Standing.{IsIdle}
use Rattle.ptu_lab.specs.SlaveStatements.{IsOfOne, is_ignored}
use Rattle.ptu_lab.specs.SlaveWords.{HasSlaveStepped, selection_by}
use Rattle.ptu_lab.proofs.{Room.{at_port}, SlaveEvents.{all_sent, ended, stepped}}
use Rattle.ptu_slave_messages.proofs.Senders.{judged_within, no_judge, taken_within}

-- ---- what a slave answered

-- what follows for an answer from what two clauses say of it
pub of_answer : {A E : Type 0} (P Q R : A → Type 0) (r : Result A E) → ((x : A) → P x → Q x → R x) → IfOk r P → IfOk r Q → IfOk r R
of_answer P Q R (Ok x) f p q = f x p q
of_answer P Q R (Err e) f p q = tt

-- the same where nothing is said of the answer
pub where_answered : {A E : Type 0} (P : A → Type 0) (R : Type 0) (r : Result A E) → ((x : A) → IsOk r → P x → R) → IfOk r P → OnOk r R
where_answered P R (Ok x) f p = f x refl p
where_answered P R (Err e) f p = tt

-- ---- the reply

-- that of one that does not fail is sent where there is one
one_of : {A : Type 0} (r : Reply) (xs : List A) → reply_failed r ≡ 0 → reply_sent r + reply_failed r ≡ length xs → length xs < 2 → r ≡ reply_by xs
one_of Sent [] sent each few = absurd (omega arith)
one_of Sent (x ∷ xs) sent each few = refl
one_of Failed xs sent each few = absurd (omega (arith, sent))
one_of Nothing [] sent each few = refl
one_of Nothing (x ∷ xs) sent each few = absurd (omega arith)

few_replies : (m number : ℕ) (codes : List ℕ) → length (one_reply m number codes) < 2
few_replies m number [] = omega arith
few_replies m number (code ∷ codes) = omega arith

heard_body : (node : Node) (x m : ℕ) (header : Header) (b : Body) (h : Heard) → h ≡ heard_of node.config.wants x (reply_in h) (m, record { header = header; body = b })
    → reply_failed (reply_in h) ≡ 0 → reply_sent (reply_in h) + reply_failed (reply_in h) ≡ length (replies_to m (record { header = header; body = b }))
    → h ≡ heard_of node.config.wants x (reply_by (replies_to m (record { header = header; body = b }))) (m, record { header = header; body = b })
heard_body node x m header (body.Announce announce) h is sent each = is
heard_body node x m header (body.Sync stamp) h is sent each = is
heard_body node x m header (body.FollowUp stamp) h is sent each = is
heard_body node x m header (body.DelayResp stamp requester) h is sent each = is
heard_body node x m header (body.Signaling target tlvs) h is sent each =
    is ∙ ap (λ reply. heard_of node.config.wants x reply (m, record { header = header; body = body.Signaling target tlvs })) (one_of (reply_in h) _ sent each (few_replies m header.sequence _))
heard_body node x m header (body.DelayReq stamp) h is sent each = is
heard_body node x m header body.Ignored h is sent each = is

heard_is : (node : Node) (L : Record) (t x : ℕ) (r : Result (ℕ × Message) SlaveReason) (h : Heard) → x ≡ event_moment L t → h ≡ answer_of node.config.wants x (reply_in h) r
    → reply_failed (reply_in h) ≡ 0 → reply_sent (reply_in h) + reply_failed (reply_in h) ≡ length (replies_in node.config node.masters r) → h ≡ reception_heard node L t r
heard_is node L t x (Err reason) h at is sent each = is
heard_is node L t x (Ok (m, message)) h at is sent each =
    heard_body node x m message.header message.body h is sent (each ∙ length-map (replies_to m message) (sending_departure node.config node.masters message.header.source))
    ∙ ap (λ y. heard_of node.config.wants y (reply_by (replies_to m message)) (m, message)) at

pub heard_datagram : (ip : ℕ) (old : Kept) (judges : List Held) (port : MemoryPort) (begun : Bool) (s : Slave) (t from : ℕ) (octets : List ℕ) (h : Heard)
    → IsSlaveNode ip old judges port begun s → h ≡ answer_of old.config.wants (max t old.moment) (reply_in h) (reception old.config old.masters from octets)
    → reply_failed (reply_in h) ≡ 0
    → reply_sent (reply_in h) + reply_failed (reply_in h) ≡ length (replies_in old.config old.masters (reception old.config old.masters from octets))
    → h ≡ datagram_heard s.opened s.taken t from octets
heard_datagram ip old judges port begun s t from octets h node is sent each =
    subst (λ (n : Node). h ≡ datagram_heard n s.taken t from octets) same
    (heard_is (record { config = old.config; masters = old.masters; openings = s.opened.openings }) s.taken t (max t old.moment) (reception old.config old.masters from octets) h
    (moment_is s.opened.openings old judges s.taken t node.stands) is sent each)
  where
    same : record { config = old.config; masters = old.masters; openings = s.opened.openings } ≡ s.opened
    same = ap₂ (λ (config : SlaveConfig) (masters : List Master). let n : Node = record { config = config; masters = masters; openings = s.opened.openings } in n) (sym node.config) (sym node.masters)

-- ---- the master

of_body : (wants : Wants) (x m n : ℕ) (header : Header) (b : Body) (reply : Reply) → m < n → IsOfOne n (heard_of wants x reply (m, record { header = header; body = b }))
of_body wants x m n header (body.Announce announce) reply lt = lt
of_body wants x m n header (body.Sync stamp) reply lt = lt
of_body wants x m n header (body.FollowUp stamp) reply lt = lt
of_body wants x m n header (body.DelayResp stamp requester) reply lt = lt
of_body wants x m n header (body.Signaling target tlvs) reply lt = lt
of_body wants x m n header (body.DelayReq stamp) reply lt = lt
of_body wants x m n header body.Ignored reply lt = lt

pub answer_within : (config : SlaveConfig) (masters : List Master) (x ip : ℕ) (octets : List ℕ) (reply : Reply) (h : Heard) → h ≡ answer_of config.wants x reply (reception config masters ip octets)
    → IsOfOne (length masters) h
answer_within config masters x ip octets reply h is = by_reception (reception config masters ip octets) refl is
  where
    by_reception : (r : Result (ℕ × Message) SlaveReason) → reception config masters ip octets ≡ r → h ≡ answer_of config.wants x reply r → IsOfOne (length masters) h
    by_reception (Err reason) taken same = subst (IsOfOne (length masters)) (sym same) tt
    by_reception (Ok (m, message)) taken same =
        subst (IsOfOne (length masters)) (sym same) (of_body config.wants x m (length masters) message.header message.body reply (taken_within config masters ip m message octets taken))

-- ---- the step

-- where nothing happened
unstepped : (ip : ℕ) (old new : Kept) (judges news : List Held) (before after : MemoryPort) (begun : Bool) (s : Slave) → IsSlaveNode ip old judges before begun s → new ≡ old → news ≡ judges
    → after.sent ≡ [] → IsSure after [] → HasSlaveStepped ip new news after s (record { entries = []; datagrams = [] })
unstepped ip old new judges news before after begun s h same same_judges sent sure =
    subst (λ k. HasSlaveStepped ip k news after s (record { entries = []; datagrams = [] })) (sym same)
    (subst (λ js. HasSlaveStepped ip old js after s (record { entries = []; datagrams = [] })) (sym same_judges)
    (record {
      node = λ cleared idle ready. subst (λ L. IsSlaveNode ip old judges cleared true (record s { taken = L })) (sym (append-nil s.taken))
          (at_port ip old judges before cleared begun true s (λ is. absurd (false≢true (sym is))) idle ready h);
      sends = sent;
      sure = sure;
    }))

pub datagram_stepped : (ip : ℕ) (old new : Kept) (judges news : List Held) (before room after : MemoryPort) (begun : Bool) (s : Slave) (t from : ℕ) (octets : List ℕ)
    → IsSlaveNode ip old judges before begun s → IsSame old new
    → ((reason : SlaveReason) → reception old.config old.masters from octets ≡ Err reason → (new ≡ old) × (news ≡ judges))
    → ((m : ℕ) (message : Message) → reception old.config old.masters from octets ≡ Ok (m, message) → Steps s.opened.openings old new news s.taken t (event_of m message))
    → room.sent ≡ before.sent
    → Some (room.sent ++ replies_in old.config old.masters (reception old.config old.masters from octets)) ≡ Some after.sent → IsSure after []
    → HasSlaveStepped ip new news after s (datagram_deed s.opened s.taken t from octets)
datagram_stepped ip old new judges news before room after begun s t from octets h same ignored steps kept told sure =
    subst (λ (n : Node). HasSlaveStepped ip new news after s (datagram_deed n s.taken t from octets)) same_node
    (by_reception (reception old.config old.masters from octets) refl (all_sent room after _ (kept ∙ h.idle) told ∙ node_replies node s.taken t from octets))
  where
    node : Node
    node = record { config = old.config; masters = old.masters; openings = s.opened.openings }

    same_node : node ≡ s.opened
    same_node = ap₂ (λ (config : SlaveConfig) (masters : List Master). let n : Node = record { config = config; masters = masters; openings = s.opened.openings } in n) (sym h.config) (sym h.masters)

    by_reception : (r : Result (ℕ × Message) SlaveReason) → reception old.config old.masters from octets ≡ r → after.sent ≡ (reception_deed node s.taken t r).datagrams
        → HasSlaveStepped ip new news after s (reception_deed node s.taken t r)
    by_reception (Err reason) taken sends = unstepped ip old new judges news before after begun s h (ignored reason taken).0 (ignored reason taken).1 sends sure
    by_reception (Ok (m, message)) taken sends =
        stepped ip old new judges news before after begun s t (event_of m message) (reception_deed node s.taken t (Ok (m, message))) h (λ n. no_judge m n message.header message.body)
        (judged_within m (length old.masters) message.header message.body (taken_within old.config old.masters from m message octets taken)) same (steps m message taken)
        (ap (λ (n : Node). (reception_deed n s.taken t (Ok (m, message))).entries) same_node) sends sure

-- ---- what is said

-- a datagram that is no event
nothing_done : (node : Node) (L : Record) (t : ℕ) (r : Result (ℕ × Message) SlaveReason) → is_ignored (reception_heard node L t r) ≡ true → reception_deed node L t r ≡ record { entries = []; datagrams = [] }
nothing_done node L t (Err reason) is = refl
nothing_done node L t (Ok (m, message)) is = absurd (false≢true (by_body message.header message.body (reply_by (replies_to m message)) ∙ is))
  where
    by_body : (header : Header) (b : Body) (reply : Reply) → false ≡ is_ignored (heard_of node.config.wants (event_moment L t) reply (m, record { header = header; body = b }))
    by_body header (body.Announce announce) reply = refl
    by_body header (body.Sync stamp) reply = refl
    by_body header (body.FollowUp stamp) reply = refl
    by_body header (body.DelayResp stamp requester) reply = refl
    by_body header (body.Signaling target tlvs) reply = refl
    by_body header (body.DelayReq stamp) reply = refl
    by_body header body.Ignored reply = refl

-- the deed of an event
event_heard : (s : Slave) (t : ℕ) (d : Deed) (h : Heard) → is_ignored h ≡ false → heard_deed s t d h ≡ event_deed s t (heard_said s.opened.masters h) d
event_heard s t d (heard.Ignored reason) is = absurd (false≢true (sym is))
event_heard s t d (heard.Announce x m class) is = refl
event_heard s t d (heard.Sync x m number) is = refl
event_heard s t d (heard.FollowUp x m) is = refl
event_heard s t d (heard.DelayResp x m number) is = refl
event_heard s t d (heard.Signals x m list reply) is = refl

pub event_received : (ip ip' t from : ℕ) (octets : List ℕ) (old new kept : Kept) (masters : List Master) (news judges : List Held) (after last : MemoryPort) (s : Slave) (h : Heard) (noted middle noted' : Noted)
    → ip' ≡ ip → kept ≡ new → judges ≡ news → s.opened.masters ≡ old.masters
    → HasSlaveStepped ip new news after s (datagram_deed s.opened s.taken t from octets) → h ≡ datagram_heard s.opened s.taken t from octets
    → is_ignored h ≡ false → masters ≡ old.masters → middle ≡ with_said (heard_said masters h) noted → last ≡ record after { sent = [] }
    → ((openings : List (Option Rule)) (L : Record) → StandsFor openings new news L → noted' ≡ with_said (selection_by ip new L t ∷ []) (with_handed ip after.sent middle))
    → HasDone (StandsAsSlave ip' kept judges last true) ip (slaves.datagram_deed s t from octets) noted noted'
event_received ip ip' t from octets old new kept masters news judges after last s h noted middle noted' same_ip same_kept same_judges opened stepped is event same before cleared says =
    subst (λ d. HasDone (StandsAsSlave ip' kept judges last true) ip d noted noted')
    (sym (ap (heard_deed s t deed) (sym is) ∙ event_heard s t deed h event))
    (ended ip ip' t new kept news judges after last s (heard_said s.opened.masters h) deed noted middle noted' same_ip same_kept same_judges stepped
    (before ∙ ap (λ ms. with_said (heard_said ms h) noted) (same ∙ sym opened)) cleared says)
  where
    deed : Deed
    deed = datagram_deed s.opened s.taken t from octets

pub nothing_received : (ip t from : ℕ) (octets : List ℕ) (new : Kept) (masters : List Master) (news : List Held) (after : MemoryPort) (s : Slave) (h : Heard) (noted noted' : Noted)
    → HasSlaveStepped ip new news after s (datagram_deed s.opened s.taken t from octets) → h ≡ datagram_heard s.opened s.taken t from octets
    → is_ignored h ≡ true → noted' ≡ with_said (heard_said masters h) noted
    → HasDone (StandsAsSlave ip new news after true) ip (slaves.datagram_deed s t from octets) noted noted'
nothing_received ip t from octets new masters news after s h noted noted' stepped is none says =
    subst (λ g. HasDone (StandsAsSlave ip new news after true) ip (heard_deed s t deed g) noted noted') is (by_heard h none says)
  where
    deed : Deed
    deed = datagram_deed s.opened s.taken t from octets

    empty : deed ≡ record { entries = []; datagrams = [] }
    empty = nothing_done s.opened s.taken t (reception s.opened.config s.opened.masters from octets) (ap is_ignored (sym is) ∙ none)

    idle : IsIdle after
    idle = stepped.sends ∙ ap (λ (d : Deed). d.datagrams) empty

    node : IsSlaveNode ip new news after true s
    node =
        subst (λ L. IsSlaveNode ip new news after true (record s { taken = L })) (ap (λ (d : Deed). s.taken ++ d.entries) empty ∙ append-nil s.taken) (stepped.node after idle stepped.sure)

    by_heard : (g : Heard) → is_ignored g ≡ true → noted' ≡ with_said (heard_said masters g) noted → HasDone (StandsAsSlave ip new news after true) ip (heard_deed s t deed g) noted noted'
    by_heard (heard.Ignored reason) same said = record {
      node = node;
      noted = said ∙ sym (said_nothing (with_sent [] (with_said (heard_said masters (heard.Ignored reason)) noted)) ∙ sent_nothing (with_said (heard_said masters (heard.Ignored reason)) noted));
    }
    by_heard (heard.Announce x m class) same said = absurd (false≢true same)
    by_heard (heard.Sync x m number) same said = absurd (false≢true same)
    by_heard (heard.FollowUp x m) same said = absurd (false≢true same)
    by_heard (heard.DelayResp x m number) same said = absurd (false≢true same)
    by_heard (heard.Signals x m list reply) same said = absurd (false≢true same)
