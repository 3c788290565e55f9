-- Answers to the items of a datagram, one after the other.
use Rattle.std.proofs.Common.{◌≡◌, ◌∙◌, ℕ, ◌+◌, ◌^◌, ◌≤◌, ◌<◌, ◌++◌, List, [], ◌∷◌, length, length-take, map, take, refl, sym, ap, subst, arith, Result, Ok, Err, true, false}
use Rattle.std.specs.{Prelude.{◌==◌, if◌then◌else◌, Bool}, List.{All}}
use Rattle.std.proofs.lemmas.{List.{map-append}, List.Elements.{All-append, All-cons, All-nil}, List.Sums.{sum_by-append, sum_by-cons}}
use Rattle.ptu_messages.specs.declared.header.Header.{Header}
use Rattle.ptu_units.specs.declared.client.Client.{Client}
use Rattle.ptu_history.specs.Verdict.{profile}
use Rattle.ptu_messages.specs.declared.tlv.Tlv.{Tlv}
use Rattle.ptu_messages.specs.declared.message.Body.{Body}
use Rattle.ptu_messages.specs.declared.message.Body.TheVariants as body
use Rattle.ptu_messages.specs.declared.message.Message.{Message}
use Rattle.ptu_messages.specs.{declared.fault.MessageFault.{MessageFault}, Reading.{message_in}}
use Rattle.ptu_profile.specs.declared.grandmaster.GmConfig.{GmConfig}
use Rattle.ptu_shared.specs.Seats.{SeatCounts}
use Rattle.ptu_gm_messages.specs.declared.heard.Heard.{Heard}
use Rattle.ptu_gm_messages.specs.declared.heard.Heard.TheVariants as heard
use Rattle.ptu_gm_messages.specs.declared.item.{Item.{Item}, Item.TheVariants.{Request, Cancel}}
use Rattle.ptu_gm_messages.specs.declared.reason.GmReason.{GmReason}
use Rattle.ptu_gm_messages.specs.declared.reason.GmReason.TheVariants as reasons
use Rattle.ptu_gm_messages.specs.Deciding.{answer_to, asked_by}
use Rattle.ptu_gm_messages.specs.Items.{heard_by, heard_in, items_by, items_in, of_message, with_items}
use Rattle.ptu_gm_messages.specs.Replies.{reply_to}
use Rattle.ptu_grandmaster.specs.declared.outcome.Outcome.{Outcome}
use Rattle.ptu_grandmaster.specs.Outcomes.{answers_seen, decision_seen, item_seen}
use Rattle.ptu_lanes.specs.Answers.{FitEach, HasAnswered, WasDecided, ask_count, asks_among, grants_among, grant_count, one_if_ok}
use Rattle.ptu_lanes.specs.Rounds.{found_items, reply_if_any}

fit-append : (config : GmConfig) (xs : List Item) (ts : List Tlv) (ys : List Item) (bs : List Tlv) →
    FitEach config xs ts → FitEach config ys bs → FitEach config (xs ++ ys) (ts ++ bs)
fit-append config [] [] ys bs first second = second
fit-append config [] (a ∷ ts) ys bs first second = absurd first
fit-append config (x ∷ xs) [] ys bs first second = absurd first
fit-append config (x ∷ xs) (a ∷ ts) ys bs first second = (first.0, fit-append config xs ts ys bs first.1 second)

pub answered_none : (config : GmConfig) (counts : SeatCounts) → HasAnswered config [] [] counts counts
answered_none config counts = record { fit = tt; granted = omega arith; refused = omega arith; counted = omega arith }

pub answered-append : (config : GmConfig) (xs : List Item) (ts : List Tlv) (ys : List Item) (bs : List Tlv) (old now new : SeatCounts) →
    HasAnswered config xs ts old now → HasAnswered config ys bs now new → HasAnswered config (xs ++ ys) (ts ++ bs) old new
answered-append config xs ts ys bs old now new p q = record {
  fit = fit-append config xs ts ys bs p.fit q.fit;
  granted = omega (arith, p.granted, q.granted, sum_by-append grant_count ts bs);
  refused = omega (arith, p.refused, q.refused);
  counted = omega (arith, p.counted, q.counted, sum_by-append ask_count xs ys);
}

answers-push : (xs : List Outcome) (x : Outcome) → answers_seen (xs ++ x ∷ []) ≡ answers_seen xs ++ answer_to (decision_seen x) ∷ []
answers-push xs x = ap (map answer_to) (map-append decision_seen xs (x ∷ [])) ∙ map-append answer_to (map decision_seen xs) (decision_seen x ∷ [])

-- one outcome more
pub answered_more : (config : GmConfig) (items : List Item) (outcomes : List Outcome) (item : Item) (outcome : Outcome) (old now new : SeatCounts) →
    HasAnswered config items (answers_seen outcomes) old now → HasAnswered config (item ∷ []) (answer_to (decision_seen outcome) ∷ []) now new →
    HasAnswered config (items ++ item ∷ []) (answers_seen (outcomes ++ outcome ∷ [])) old new
answered_more config items outcomes item outcome old now new p q =
    subst (λ ts. HasAnswered config (items ++ item ∷ []) ts old new) (sym (answers-push outcomes outcome))
    (answered-append config items (answers_seen outcomes) (item ∷ []) (answer_to (decision_seen outcome) ∷ []) old now new p q)

pub items_more : (items : List Item) (outcomes : List Outcome) (item : Item) (outcome : Outcome) → map item_seen outcomes ≡ items → item_seen outcome ≡ item →
    map item_seen (outcomes ++ outcome ∷ []) ≡ items ++ item ∷ []
items_more items outcomes item outcome so_far this =
    map-append item_seen outcomes (outcome ∷ []) ∙ ap (λ xs. xs ++ item_seen outcome ∷ []) so_far ∙ ap (λ x. items ++ x ∷ []) this

one_at_most : {A B : Type 0} (r : Result A B) → one_if_ok r ≤ 1
one_at_most (Ok x) = omega arith
one_at_most (Err e) = omega arith

one_ask : (item : Item) → ask_count item ≤ 1
one_ask (Request ask) = one_at_most (profile (asked_by ask))
one_ask (Cancel code) = omega arith

pub asks-le : (items : List Item) → asks_among items ≤ length items
asks-le [] = omega arith
asks-le (item ∷ items) = omega (arith, sum_by-cons ask_count item items, one_ask item, asks-le items)

-- so many of the items were decided, for the client
pub record Decided (greatest : ℕ) (config : GmConfig) (t : ℕ) (client : Client) (done : List Item) (old now : SeatCounts) (outcomes : List Outcome) : Type 0 where
  pub items : map item_seen outcomes ≡ done
  pub decided : All (WasDecided greatest config t client) outcomes
  pub answered : HasAnswered config done (answers_seen outcomes) old now

pub none_decided : (greatest : ℕ) (config : GmConfig) (t : ℕ) (client : Client) (counts : SeatCounts) → Decided greatest config t client [] counts counts []
none_decided greatest config t client counts =
    record { items = refl; decided = All-nil (WasDecided greatest config t client); answered = answered_none config counts }

pub one_more : (greatest : ℕ) (config : GmConfig) (t : ℕ) (client : Client) (done : List Item) (item : Item) (old now new : SeatCounts) (outcomes : List Outcome) (outcome : Outcome) →
    Decided greatest config t client done old now outcomes → item_seen outcome ≡ item → WasDecided greatest config t client outcome →
    HasAnswered config (item ∷ []) (answer_to (decision_seen outcome) ∷ []) now new →
    Decided greatest config t client (done ++ item ∷ []) old new (outcomes ++ outcome ∷ [])
one_more greatest config t client done item old now new outcomes outcome p is this q = record {
  items = items_more done outcomes item outcome p.items is;
  decided = All-append (WasDecided greatest config t client) outcomes (outcome ∷ []) p.decided
      (All-cons (WasDecided greatest config t client) outcome [] this (All-nil (WasDecided greatest config t client)));
  answered = answered_more config done outcomes item outcome old now new p.answered q;
}

-- where the counts leave room for 32 asks, the next one is below 2 ^ 56
pub room_left : (greatest : ℕ) (config : GmConfig) (t : ℕ) (client : Client) (items : List Item) (i : ℕ) (old now : SeatCounts) (outcomes : List Outcome) →
    Decided greatest config t client (take i items) old now outcomes →
    i < length items → length items ≤ 32 → old.granted + 32 ≤ 2 ^ 56 → old.refused + 32 ≤ 2 ^ 56 → (now.granted < 2 ^ 56) × (now.refused < 2 ^ 56)
room_left greatest config t client items i old now outcomes p lt few granted refused =
    let front : length (take i items) ≤ i = omega (arith, length-take i items) in
    let asks : asks_among (take i items) ≤ length (take i items) = asks-le (take i items) in
    let rises : now.granted ≡ old.granted + grants_among (answers_seen outcomes) = p.answered.granted in
    let kept : old.refused ≤ now.refused = p.answered.refused in
    let counted : now.granted + now.refused ≡ old.granted + old.refused + asks_among (take i items) = p.answered.counted in
    (omega arith, omega arith)

pub reply_is : (config : GmConfig) (from : ℕ) (header : Header) (outcomes : List Outcome) → (length outcomes == 0) ≡ false →
    reply_if_any config from header (answers_seen outcomes) ≡ reply_to config from header (answers_seen outcomes) ∷ []
reply_is config from header [] some = absurd (cc some)
reply_is config from header (x ∷ outcomes) some = refl

-- ---- what is heard, and the items

-- the items of what was heard
abbrev pub heard_items : Result Heard GmReason → List Item
heard_items (Ok (heard.Asks header items)) = items
heard_items _ = []

of_found : (header : Header) (found : Result (List Item) GmReason) → heard_items (with_items header found) ≡ found_items found
of_found header (Ok items) = refl
of_found header (Err reason) = refl

of_domain : (config : GmConfig) (header : Header) (same : Bool) →
    heard_items (if same then Ok (heard.DelayReq header) else Err (reasons.Domain header.domain)) ≡ []
of_domain config header true = refl
of_domain config header false = refl

of_body : (config : GmConfig) (header : Header) (b : Body) → heard_items (heard_by config header b) ≡ found_items (items_by config header b)
of_body config header (body.Signaling target tlvs) = of_found header (items_by config header (body.Signaling target tlvs))
of_body config header (body.DelayReq stamp) = of_domain config header (header.domain == config.domain)
of_body config header (body.Sync stamp) = refl
of_body config header (body.FollowUp stamp) = refl
of_body config header (body.DelayResp stamp requester) = refl
of_body config header (body.Announce announced) = refl
of_body config header body.Ignored = refl

of_read : (config : GmConfig) (read : Result Message MessageFault) → heard_items (of_message (heard_by config) read) ≡ found_items (of_message (items_by config) read)
of_read config (Ok message) = of_body config message.header message.body
of_read config (Err fault) = refl

pub items_heard : (config : GmConfig) (octets : List ℕ) → heard_items (heard_in config octets) ≡ found_items (items_in config octets)
unfolding heard_in items_in
items_heard config octets = of_read config (message_in octets)
