-- What a lane does that takes Signaling: the datagrams that it takes, and the replies that it sends (IEEE 1588-2019 clause
-- 16.1; that a round takes 64 at most is the project's own choice).
use Rattle.std.specs.Prelude.{◌≡◌, ℕ, ◌+◌, ◌*◌, ◌≤◌, ◌<◌, List, [], ◌∷◌, ◌++◌, length, map, take, drop, true, Some, Result, Ok, Err, IfSome}
use Rattle.std.specs.List.{All, flat_map, sum_by}
use Rattle.ptu_outside.specs.{declared.arrival.Arrival.{Arrival}, Departure.{Departure}}
use Rattle.ptu_outside.specs.declared.{clock.Clock.{Ghosts as Clocks}, port.Port.{Ghosts as Ports}}
use Rattle.ptu_outside.specs.Faults.{HasRisen, HasRisenBy, HasRisenJust, HasNotFallen}
use Rattle.ptu_outside.specs.HandsOver.{HandsOver, SentOf}
use Rattle.ptu_outside.specs.Rounds.{most}
use Rattle.ptu_messages.specs.declared.header.Header.{Header}
use Rattle.ptu_messages.specs.declared.tlv.Tlv.{Tlv}
use Rattle.ptu_profile.specs.declared.grandmaster.GmConfig.{GmConfig}
use Rattle.ptu_shared.specs.{Opening.{HaveFailed}, Seats.{SeatCounts}}
use Rattle.ptu_gm_messages.specs.declared.heard.Heard.{Heard}
use Rattle.ptu_gm_messages.specs.declared.heard.Heard.TheVariants as heard
use Rattle.ptu_gm_messages.specs.declared.{item.Item.{Item}, reason.GmReason.{GmReason}}
use Rattle.ptu_gm_messages.specs.{Deciding.{client_of}, Items.{heard_in, items_in}, Replies.{reply_to}}
use Rattle.ptu_grandmaster.specs.{declared.outcome.Outcome.{Outcome}, Outcomes.{answers_seen, item_seen}}
use Rattle.ptu_outside.specs.Handed.{WasHanded}
use Rattle.ptu_lanes.specs.Answers.{FitEach, HasAnswered, WasDecided, asks_among, grants_among}
use Rattle.ptu_lanes.specs.{Sending.{GoesOn, WasSent}, Waiting.{PassedBy}}

-- the items that were found; there is none where the datagram is ignored
abbrev pub found_items : Result (List Item) GmReason → List Item
found_items (Ok items) = items
found_items (Err reason) = []

-- the items of a datagram
abbrev pub items_of : GmConfig → Arrival → List Item
items_of config datagram = found_items (items_in config datagram.bytes)

-- a datagram that was taken, and what was decided of its items
pub record Exchange : Type 0 where
  pub datagram : Arrival
  pub outcomes : List Outcome

-- what answers its items
abbrev pub answers_of : Exchange → List Tlv
answers_of exchange = answers_seen exchange.outcomes

-- what was heard from the address was decided so for the client that sent it, at the tables, where no greater capacity than `greatest`
-- comes into force
abbrev pub AreDecided : ℕ → GmConfig → ℕ → Result Heard GmReason → List Outcome → Type 0
AreDecided greatest config from (Ok (heard.Asks header items)) outcomes = (t : ℕ) × All (WasDecided greatest config t (client_of from header)) outcomes
AreDecided greatest config from _ outcomes = outcomes ≡ []

-- each item was decided, in order, for the client that the datagram came from, and there is one answer for each
pub record IsAnswered (greatest : ℕ) (config : GmConfig) (exchange : Exchange) : Type 0 where
  pub items : map item_seen exchange.outcomes ≡ items_of config exchange.datagram
  pub decided : AreDecided greatest config exchange.datagram.ip (heard_in config exchange.datagram.bytes) exchange.outcomes
  pub fit : FitEach config (items_of config exchange.datagram) (answers_of exchange)

-- the reply with these answers to a Signaling with this header; without answers there is none
abbrev pub reply_if_any : GmConfig → ℕ → Header → List Tlv → List Departure
reply_if_any config from header [] = []
reply_if_any config from header (answer ∷ answers) = reply_to config from header (answer ∷ answers) ∷ []

-- likewise to what was heard from the address
abbrev pub reply_with : GmConfig → ℕ → Result Heard GmReason → List Tlv → List Departure
reply_with config from (Ok (heard.Asks header items)) answers = reply_if_any config from header answers
reply_with config from _ answers = []

-- the reply to a datagram
abbrev pub reply_in : GmConfig → Exchange → List Departure
reply_in config exchange =
    reply_with config exchange.datagram.ip (heard_in config exchange.datagram.bytes) (answers_of exchange)

-- the replies, in order
abbrev pub replies : GmConfig → List Exchange → List Departure
replies config exchanges = flat_map (reply_in config) exchanges

-- the datagrams, in order
abbrev pub datagrams : List Exchange → List Arrival
datagrams exchanges = map (λ e. e.datagram) exchanges

-- how many asks within the profile are in these datagrams
abbrev pub asks_in : GmConfig → List Arrival → ℕ
asks_in config arrivals = sum_by (λ d. asks_among (items_of config d)) arrivals

-- how many grants are in the answers
abbrev pub grants_in : List Exchange → ℕ
grants_in exchanges = sum_by (λ e. grants_among (answers_of e)) exchanges

-- the items of the exchange's datagram were answered so, and the reply was sent or its send failed: the port, and what the
-- lane's seat has counted, before and after
pub record HasReplied {P : Type 0} (ports : Ports P) (greatest : ℕ) (config : GmConfig) (exchange : Exchange) (port port' : P) (old new : SeatCounts) (asks sent failed : ℕ) : Type 0 where
  pub is : IsAnswered greatest config exchange
  pub answered : HasAnswered config (items_of config exchange.datagram) (answers_of exchange) old new
  pub asks_are : new.granted + new.refused ≡ old.granted + old.refused + asks
  pub few : length (items_of config exchange.datagram) ≤ 32
  pub hands : HandsOver ports port port' (reply_in config exchange) sent failed

-- a lane has had these exchanges: its port, and what its seat has counted, before and after; so many asks were decided, so
-- many replies were sent, and so many calls of the port failed, of which so many are receives
pub record HasServed {P : Type 0} (ports : Ports P) (greatest : ℕ) (config : GmConfig) (exchanges : List Exchange) (port port' : P) (old new : SeatCounts) (asks sent failed missed : ℕ) : Type 0 where
  pub given : IfSome (ports.waiting port') (λ later. ports.waiting port ≡ Some (datagrams exchanges ++ later))
  pub answered : All (IsAnswered greatest config) exchanges
  pub granted : new.granted ≡ old.granted + grants_in exchanges
  pub refused : old.refused ≤ new.refused
  pub counted : new.granted + new.refused ≡ old.granted + old.refused + asks
  pub asks_are : asks ≡ asks_in config (datagrams exchanges)
  pub few : asks ≤ 32 * length exchanges
  pub at_most : sent ≤ length exchanges
  pub risen : HasRisenBy failed (ports.faults port) (ports.faults port')
  pub just : ports.counts_once ≡ true → HasRisenJust failed (ports.faults port) (ports.faults port')
  pub quiet : failed ≡ 0 → ports.faults port' ≡ ports.faults port
  pub no_fall : HasNotFallen (ports.faults port) (ports.faults port')
  -- whatever failed: of the replies so many were sent, in order, and each other send failed
  pub some : SentOf (ports.sent port) (ports.sent port') (replies config exchanges) sent
  pub each : sent + failed ≡ length (replies config exchanges) + missed
  -- where the count did not rise, each reply was sent
  pub sent_are : ¬ HasRisen (ports.faults port) (ports.faults port') → sent ≡ length (replies config exchanges)
  pub told : ¬ HasRisen (ports.faults port) (ports.faults port') → WasSent ports port port' (replies config exchanges)
  -- and the port goes on to tell, unless a call failed or a reply was such that it may cease to
  pub goes_on : failed ≡ 0 → GoesOn ports port port' (replies config exchanges)

-- a round at a port that tells what waits: it took the first 64 datagrams, or all where there are fewer, and sent one reply
-- for each that has an item, in order, and nothing else; it goes on to tell, unless a reply was such that it may cease to
pub record IsRound {P : Type 0} (ports : Ports P) (greatest : ℕ) (config : GmConfig) (port port' : P) (left : List Arrival) (granted now asks sent : ℕ) : Type 0 where
  pub waited : List Arrival
  pub all : ports.waiting port ≡ Some waited
  pub exchanges : List Exchange
  pub first : datagrams exchanges ≡ take most waited
  pub rest : left ≡ drop most waited
  pub answered : All (IsAnswered greatest config) exchanges
  pub told : WasSent ports port port' (replies config exchanges)
  pub goes_on : GoesOn ports port port' (replies config exchanges)
  pub sent_are : sent ≡ length (replies config exchanges)
  pub asks_are : asks ≡ asks_in config (take most waited)
  pub granted_are : now ≡ granted + grants_in exchanges

-- so many rounds, whatever became of the port's count of faults, and whether or not it tells what waits: the lane had at most 64
-- exchanges a round, the datagrams of which are the first that waited where the port still tells that; each was taken at a new moment
-- of the clock; its seat has counted the grants among the answers, and all asks within the profile; and of the replies the port was
-- sent so many, in order. So many calls of the port failed: each send of another reply, and one receive a round at most, which ends it.
pub record Exchanged {P C : Type 0} (ports : Ports P) (clocks : Clocks C) (greatest : ℕ) (config : GmConfig) (rounds sent failed : ℕ) (port port' : P) (clock clock' : C) (old new : SeatCounts) : Type 0 where
  pub exchanges : List Exchange
  pub few : length exchanges ≤ most * rounds
  pub given : IfSome (ports.waiting port') (λ later. ports.waiting port ≡ Some (datagrams exchanges ++ later))
  pub answered : All (IsAnswered greatest config) exchanges
  pub granted : new.granted ≡ old.granted + grants_in exchanges
  pub counted : new.granted + new.refused ≡ old.granted + old.refused + asks_in config (datagrams exchanges)
  pub moments : PassedBy (length exchanges) (clocks.moments clock) (clocks.moments clock')
  pub handed : WasHanded ports port port' (replies config exchanges) sent
  pub missed : ℕ
  pub once : missed ≤ rounds
  pub each : sent + failed ≡ length (replies config exchanges) + missed
  pub failures : HaveFailed ports.counts_once failed (ports.faults port) (ports.faults port')

-- a datagram was taken at a new moment, and nothing was sent; what was decided of it stands, and the lane's seat has counted that
pub record IsUnanswered {P C : Type 0} (ports : Ports P) (clocks : Clocks C) (port port' : P) (clock clock' : C) (old new : SeatCounts) : Type 0 where
  pub datagram : Arrival
  pub given : IfSome (ports.waiting port') (λ later. ports.waiting port ≡ Some (datagram ∷ [] ++ later))
  pub unsent : ports.sent port' ≡ ports.sent port
  pub still : ports.faults port' ≡ ports.faults port
  pub granted : old.granted ≤ new.granted
  pub refused : old.refused ≤ new.refused
  pub moments : PassedBy 1 (clocks.moments clock) (clocks.moments clock')

-- the lane found no memory at the datagram after these exchanges, of which each was finished: of their replies, one for each that has
-- an item, the port was sent so many, in order, and all where its count did not rise, and nothing of a reply to the last datagram; what
-- waited after that still waits; what was decided stands, and its seat has counted that
pub record BrokeOff {P C : Type 0} (ports : Ports P) (clocks : Clocks C) (greatest : ℕ) (config : GmConfig) (port port' : P) (clock clock' : C) (old new : SeatCounts) : Type 0 where
  pub exchanges : List Exchange
  pub last : Arrival
  pub few : length exchanges < most
  pub given : IfSome (ports.waiting port') (λ later. ports.waiting port ≡ Some ((datagrams exchanges ++ last ∷ []) ++ later))
  pub answered : All (IsAnswered greatest config) exchanges
  pub told : ¬ HasRisen (ports.faults port) (ports.faults port') → WasSent ports port port' (replies config exchanges)
  pub sent : ℕ
  pub some : SentOf (ports.sent port) (ports.sent port') (replies config exchanges) sent
  pub granted : old.granted + grants_in exchanges ≤ new.granted
  pub refused : old.refused ≤ new.refused
  pub moments : PassedBy (length exchanges + 1) (clocks.moments clock) (clocks.moments clock')
