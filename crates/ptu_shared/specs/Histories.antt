-- The history of one table, which stands behind a lock, and what its port was sent of it (IEEE 1588-2019 clause 16.1.4; the rule
-- is the project's own choice).
use Rattle.std.specs.Prelude.{◌≡◌, ℕ, ◌+◌, ◌-◌, ◌^◌, ◌≤◌, min, Bool, false, List, [], ◌∷◌, ◌++◌, length, IfSome, IsTrue, Option, unwrap_or}
use Rattle.std.specs.List.{AllByRecursion}
use Rattle.ptu_units.specs.declared.kind.{Kind.{Kind}, Kind.TheVariants.{Announce, Sync, DelayResp}}
use Rattle.ptu_messages.specs.declared.header.Header.{Header}
use Rattle.ptu_outside.specs.{declared.port.Port.{Ghosts as Ports}, Departure.{Departure}}
use Rattle.ptu_outside.specs.{Faults.{HasRisen}, Telling.{TellsOn}}
use Rattle.ptu_units.specs.{declared.client.Client.{Client}, Client.{table_of}}
use Rattle.ptu_history.specs.History.{Record, Granted, Short, Ended, Capacity, Shed, Looked, Sent}
use Rattle.ptu_history.specs.{Lawful.{lawful}, Runs.{sequence_number}}
use Rattle.ptu_laws.specs.Sound.{last_sent}
use Rattle.ptu_profile.specs.declared.grandmaster.GmConfig.{GmConfig}
use Rattle.ptu_shard.specs.{Messages.{departure_of, response_of}, Table.{Kept}}
use Rattle.ptu_admit.specs.Alone.{StandsAlone}
use Rattle.ptu_outside.specs.Handed.{SentPart}
use Rattle.ptu_shared.specs.{Opening.{HaveFailed, Seen, seen_of}, Turning.{IsMadeOf, TablePart, turns_in}}

-- what a record of the table has of those before it: a decision is on a client of the table, and not before a message of the kind to
-- them; a message is to a client of the table, and lawful: inside a live grant of the kind, and in its own period
abbrev pub MayFollow : ℕ → List Record → Record → Type 0
MayFollow j before (Granted n c k l u) = (table_of c ≡ j) × (last_sent before c k ≤ n)
MayFollow j before (Short n c) = table_of c ≡ j
MayFollow j before (Ended n c k) = (table_of c ≡ j) × (last_sent before c k ≤ n)
MayFollow j before (Capacity x capacity) = Unit {0}
MayFollow j before (Shed x c k) = (table_of c ≡ j) × (last_sent before c k ≤ x)
MayFollow j before (Looked x i) = i ≡ j
MayFollow j before (Sent x c k) = (table_of c ≡ j) × IsTrue (lawful before x c k)

-- so has each of the records that follow these
abbrev pub AllMayFollow : ℕ → List Record → List Record → Type 0
AllMayFollow j before [] = Unit {0}
AllMayFollow j before (r ∷ later) = MayFollow j before r × AllMayFollow j (before ++ r ∷ []) later

-- the configuration with a class that was told, where classes may be told, or with its own
pub record HasClass (told : Bool) (config now : GmConfig) : Type 0 where
  pub alike : now ≡ record config { class = now.class }
  pub own : told ≡ false → now ≡ config

-- the configuration by which a table announces that was told this class, if one
abbrev pub announced_as : Option ℕ → GmConfig → GmConfig
announced_as class config = record config { class = unwrap_or class config.class }

-- the datagram has the message of the kind to the client at the moment, with the sequenceId that is next after these records; a
-- Delay_Resp answers some Delay_Req, whose sequenceId it has
abbrev pub IsMessage : Bool → GmConfig → List Record → ℕ → Client → Kind → Departure → Type 0
IsMessage told config before x c Announce sent =
    (now : GmConfig) × HasClass told config now
    × (sent ≡ departure_of now x (record { client = c; kind = Announce; sequence = sequence_number before c Announce }))
IsMessage told config before x c Sync sent = sent ≡ departure_of config x (record { client = c; kind = Sync; sequence = sequence_number before c Sync })
IsMessage told config before x c DelayResp sent = (request : Header) × (sent ≡ response_of config x c request)

-- these are the datagrams of the messages among the records that follow these, in order
abbrev pub AreMessages : Bool → GmConfig → List Record → List Record → List Departure → Type 0
AreMessages told config before [] sent = sent ≡ []
AreMessages told config before (Sent x c k ∷ later) sent =
    (first : Departure) × (rest : List Departure) × (sent ≡ first ∷ rest) × IsMessage told config before x c k first
    × AreMessages told config (before ++ Sent x c k ∷ []) later rest
AreMessages told config before (r ∷ later) sent = AreMessages told config (before ++ r ∷ []) later sent

-- There is a history of the table, made of decisions, answers to Delay_Reqs and turns, at each of which the message of each grant that
-- is due is handed to the port. Of its messages the port was sent so many, in order: this was seen of it before, and this after.
-- Each other message failed to be sent, which is a fault, and there are no other faults: all were sent where its count did not rise.
-- Then it goes on to tell them, unless one of them was such that it may cease to.
pub record SendsLawfully {P : Type 0} (ports : Ports P) (told : Bool) (config : GmConfig) (j : ℕ) (before after : Seen) : Type 0 where
  pub history : List Record
  pub follows : AllMayFollow j [] history
  pub parts : List TablePart
  pub made : IsMadeOf j [] history parts
  pub messages : List Departure
  pub are : AreMessages told config [] history messages
  pub sent : ℕ
  pub part : SentPart before.sent after.sent before.faults after.faults messages sent
  pub goes_on : ¬ HasRisen before.faults after.faults → AllByRecursion (λ d. ports.ceases_at d ≡ false) messages → TellsOn before.sent after.sent
  pub failed : ℕ
  pub each : sent + failed ≡ length messages
  pub failures : HaveFailed ports.counts_once failed before.faults after.faults

-- so the port was sent since it was opened, of which this was seen then; the count is the number of messages that were sent, and one
-- that would be above 2^128 - 1 stands there; and the table was turned so often, where that is known
abbrev pub SendsCounted : {P : Type 0} → Ports P → Bool → GmConfig → ℕ → Seen → P → ℕ → Option ℕ → Type 0
SendsCounted ports told config j opened port count turns =
    (lawful : SendsLawfully ports told config j opened (seen_of ports port)) × (count ≡ min lawful.sent (2 ^ 128 - 1))
    × IfSome turns (λ n. turns_in lawful.parts ≡ n)

-- the table stands for such a history, this is the count of its port, and so often it was turned
pub record HasHistory {P : Type 0} (ports : Ports P) (told : Bool) (config : GmConfig) (j : ℕ) (opened : Seen) (table : Kept P) (count turned : ℕ) : Type 0 where
  pub lawful : SendsLawfully ports told config j opened (seen_of ports table.port)
  pub counted : count ≡ min lawful.sent (2 ^ 128 - 1)
  pub turns : turns_in lawful.parts ≡ turned
  pub stands : StandsAlone j table lawful.history
