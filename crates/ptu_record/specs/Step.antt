-- What each event enters in a slave's record, and what it sends. What a slave takes is that of IEEE 1588-2019 clauses 13 and 16.1; ticks, the stop, flags and judges are this project's own.
use Rattle.std.specs.Prelude.{◌≡◌, ℕ, Bool, cond, List, [], ◌∷◌, ◌++◌, length, map, filter_map, flat_map, zip, Option, Some, None, option_map, find, ◌==◌}
use Rattle.ptu_units.specs.{declared.kind.Kind.{Kind}, Kind.{code_of}}
use Rattle.ptu_record.specs.declared.{rule.Rule.{Rule}, wants.Wants.{Wants}}
use Rattle.ptu_record.specs.Lists.{places}
use Rattle.ptu_record.specs.Record.{Entry, Record, event_moment, Announce, Sync, Resp, Told, Judge, Judged, Granted, Denied, Cancelled, Stopped, Event}
use Rattle.ptu_record.specs.{Judges.{AreAssessments, ruled_assessment}, Wants.{wanted_kinds}}
use Rattle.ptu_record.specs.Tick.{Sending, Acknowledgements, sending_entries, tick_sendings, stop_sendings}

-- what a TLV of a Signaling says to a slave of a messageType
pub data Signal : Type 0 where
  -- a GRANT with this durationField
  GrantTlv : (code seconds : ℕ) → Signal
  -- a CANCEL
  CancelTlv : (code : ℕ) → Signal
  -- an ACKNOWLEDGE_CANCEL
  AckTlv : (code : ℕ) → Signal

-- what may happen to a slave; a master is named by its place
pub data SlaveEvent : Type 0 where
  -- an Announce with this clockClass is taken
  TakeAnnounce : (master class : ℕ) → SlaveEvent
  -- a Sync with this sequenceId is taken
  TakeSync : (master number : ℕ) → SlaveEvent
  -- a Follow_Up is taken
  TakeFollowUp : (master : ℕ) → SlaveEvent
  -- a Delay_Resp with this sequenceId is taken
  TakeDelayResp : (master number : ℕ) → SlaveEvent
  -- a Signaling with this sequenceId is taken; TLVs of other types are left out
  TakeSignaling : (master number : ℕ) (signals : List Signal) → SlaveEvent
  -- the operator says whether the master is unusable
  TellFlag : (master : ℕ) (unusable : Bool) → SlaveEvent
  -- another judge takes over, of this rule where it has one
  ReplaceJudge : (master : ℕ) (rule : Option Rule) → SlaveEvent
  -- a tick
  Tick : SlaveEvent
  -- the stop
  Stop : SlaveEvent

-- the master of which it is
abbrev pub event_master : SlaveEvent → Option ℕ
event_master (TakeAnnounce m class) = Some m
event_master (TakeSync m number) = Some m
event_master (TakeFollowUp m) = Some m
event_master (TakeDelayResp m number) = Some m
event_master (TakeSignaling m number signals) = Some m
event_master (TellFlag m unusable) = Some m
event_master (ReplaceJudge m rule) = Some m
event_master Tick = None
event_master Stop = None

-- what a slave is opened with: what it requests, and for each of its masters the rule of the first judge, where it has one
pub record SlaveSetup : Type 0 where
  pub wants : Wants
  pub openings : List (Option Rule)

-- the number of its masters
abbrev pub master_count : SlaveSetup → ℕ
master_count setup = length setup.openings

-- ---- a Signaling

-- the kind with this messageType, where the slave requests it
abbrev pub wanted_kind : Wants → ℕ → Option Kind
wanted_kind wants code = find (λ k. code_of k == code) (wanted_kinds wants)

-- a GRANT for 0 seconds is a denial
abbrev pub grant_entry : ℕ → ℕ → ℕ → Kind → Entry
grant_entry x m seconds k = cond (seconds == 0) (Denied x m k) (Granted x m k seconds)

-- a GRANT and a CANCEL of a kind that the slave requests are entered, and nothing else
abbrev pub signal_entry : Wants → ℕ → ℕ → Signal → Option Entry
signal_entry wants x m (GrantTlv code seconds) = option_map (grant_entry x m seconds) (wanted_kind wants code)
signal_entry wants x m (CancelTlv code) = option_map (Cancelled x m) (wanted_kind wants code)
signal_entry wants x m (AckTlv code) = None

abbrev pub cancel_code : Signal → Option ℕ
cancel_code (CancelTlv code) = Some code
cancel_code signal = None

-- each CANCEL is answered, in one reply with the sequenceId that it answers
abbrev pub one_reply : ℕ → ℕ → List ℕ → List Sending
one_reply m number [] = []
one_reply m number (code ∷ codes) = Acknowledgements m number (code ∷ codes) ∷ []

-- ---- what an event enters, from first to last

-- what it says of itself
abbrev pub own_entries : Wants → ℕ → SlaveEvent → Record
own_entries wants x (TakeAnnounce m class) = Announce x m class ∷ []
own_entries wants x (TakeSync m number) = Sync x m number ∷ []
own_entries wants x (TakeDelayResp m number) = Resp x m number ∷ []
own_entries wants x (TakeSignaling m number signals) = filter_map (signal_entry wants x m) signals
own_entries wants x (TellFlag m unusable) = Told x m unusable ∷ []
own_entries wants x (ReplaceJudge m rule) = Judge x m rule ∷ []
own_entries wants x e = []

-- the masters whose judges are asked after that, in order: all of them at a tick, also after the stop
abbrev pub judged_masters : ℕ → SlaveEvent → List ℕ
judged_masters masters (TakeSync m number) = m ∷ []
judged_masters masters (TellFlag m unusable) = m ∷ []
judged_masters masters (ReplaceJudge m rule) = m ∷ []
judged_masters masters Tick = places masters
judged_masters masters e = []

-- what they find
abbrev pub judged_entries : ℕ → List ℕ → List Bool → Record
judged_entries x masters assessments = map (λ p. Judged x p.0 p.1) (zip masters assessments)

-- what is sent then
abbrev pub sendings : SlaveSetup → Record → ℕ → SlaveEvent → List Sending
sendings setup L x (TakeSignaling m number signals) = one_reply m number (filter_map cancel_code signals)
sendings setup L x Tick = tick_sendings setup.wants (master_count setup) L x
sendings setup L x Stop = stop_sendings (master_count setup) L x
sendings setup L x e = []

-- the stop ends all grants
abbrev pub stop_entry : ℕ → SlaveEvent → Record
stop_entry x Stop = Stopped x ∷ []
stop_entry x e = []

-- an event of which nothing else is entered
abbrev pub or_event : ℕ → Record → Record
or_event x [] = Event x ∷ []
or_event x (e ∷ es) = e ∷ es

-- all entries of an event at x at which the judges find this
abbrev pub entries_by : SlaveSetup → List Bool → Record → ℕ → SlaveEvent → Record
entries_by setup assessments L x e = or_event x
    (own_entries setup.wants x e ++ judged_entries x (judged_masters (master_count setup) e) assessments
    ++ flat_map (sending_entries x) (sendings setup L x e) ++ stop_entry x e)

-- ---- the step

pub record SlaveStep : Type 0 where
  pub entries : Record
  pub sendings : List Sending

-- the step of an event that is handed t, at which the judges find this
abbrev pub step_by : SlaveSetup → List Bool → Record → ℕ → SlaveEvent → SlaveStep
step_by setup assessments L t e = record {
  entries = entries_by setup assessments L (event_moment L t) e;
  sendings = sendings setup L (event_moment L t) e;
}

-- the record that the judges have before them whom an event at x asks
abbrev pub judged_record : SlaveSetup → Record → ℕ → SlaveEvent → Record
judged_record setup L x e = L ++ own_entries setup.wants x e

-- this may be the step of an event that is handed t
pub record IsStep (setup : SlaveSetup) (L : Record) (t : ℕ) (e : SlaveEvent) (step : SlaveStep) : Type 0 where
  pub assessments : List Bool
  pub found : AreAssessments setup.openings (judged_record setup L (event_moment L t) e) (judged_masters (master_count setup) e) assessments
  pub taken : step ≡ step_by setup assessments L t e

-- the one step of a slave each of whose judges has a rule
abbrev pub slave_step : SlaveSetup → Record → ℕ → SlaveEvent → SlaveStep
slave_step setup L t e =
    step_by setup (map (ruled_assessment setup.openings (judged_record setup L (event_moment L t) e)) (judged_masters (master_count setup) e)) L t e
