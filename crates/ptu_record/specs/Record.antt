-- What a slave took and did, in order of happening. That it is seen as one list is this project's own choice.
use Rattle.std.specs.Prelude.{ℕ, max, Bool, true, false, List, map, filter, ◌==◌, Option}
use Rattle.ptu_units.specs.declared.kind.Kind.{Kind}
use Rattle.ptu_record.specs.{declared.rule.Rule.{Rule}, Lists.{maximum}}

-- one event or deed, with its moment; a master is named by its place in the slave's list
pub data Entry : Type 0 where
  -- an Announce with this clockClass was accepted (IEEE 1588-2019 clause 13.5)
  Announce : (at master class : ℕ) → Entry
  -- a Sync with this sequenceId was accepted (clause 13.6)
  Sync : (at master number : ℕ) → Entry
  -- a Delay_Resp with this sequenceId was accepted (clause 13.8)
  Resp : (at master number : ℕ) → Entry
  -- an operator held the master for unusable, or no longer
  Told : (at master : ℕ) → (unusable : Bool) → Entry
  -- a judge took over; one of a maker's own has no rule
  Judge : (at master : ℕ) → (rule : Option Rule) → Entry
  -- the master's judge found whether it is unusable
  Judged : (at master : ℕ) → (unusable : Bool) → Entry
  -- a REQUEST was sent, or failed to be sent (clause 16.1.4.1)
  Asked : (at master : ℕ) → Kind → Entry
  -- a GRANT for these seconds, more than 0, was accepted (clause 16.1.4.2)
  Granted : (at master : ℕ) → Kind → (seconds : ℕ) → Entry
  -- a GRANT for 0 seconds was accepted
  Denied : (at master : ℕ) → Kind → Entry
  -- a CANCEL was accepted (clause 16.1.4.3)
  Cancelled : (at master : ℕ) → Kind → Entry
  -- a Delay_Req was sent, or failed to be sent (clause 13.6)
  Probed : (at master : ℕ) → Entry
  -- a Signaling with asks, or that of the stop, was sent or failed to be sent (clause 13.12)
  Signalled : (at master : ℕ) → Entry
  -- the slave gave up all its grants
  Stopped : (at : ℕ) → Entry
  -- anything else happened
  Event : (at : ℕ) → Entry

abbrev pub Record : Type 0
Record = List Entry

-- the moment of an entry
abbrev pub moment_of : Entry → ℕ
moment_of (Announce at master class) = at
moment_of (Sync at master number) = at
moment_of (Resp at master number) = at
moment_of (Told at master unusable) = at
moment_of (Judge at master rule) = at
moment_of (Judged at master unusable) = at
moment_of (Asked at master kind) = at
moment_of (Granted at master kind seconds) = at
moment_of (Denied at master kind) = at
moment_of (Cancelled at master kind) = at
moment_of (Probed at master) = at
moment_of (Signalled at master) = at
moment_of (Stopped at) = at
moment_of (Event at) = at

-- the moment of an event that is handed t: no event is earlier than one before it
abbrev pub event_moment : Record → ℕ → ℕ
event_moment L t = max t (maximum (map moment_of L))

-- the entry says something of the master; the stop speaks of all
abbrev pub concerns : ℕ → Entry → Bool
concerns m (Announce at master class) = master == m
concerns m (Sync at master number) = master == m
concerns m (Resp at master number) = master == m
concerns m (Told at master unusable) = master == m
concerns m (Judge at master rule) = master == m
concerns m (Judged at master unusable) = master == m
concerns m (Asked at master kind) = master == m
concerns m (Granted at master kind seconds) = master == m
concerns m (Denied at master kind) = master == m
concerns m (Cancelled at master kind) = master == m
concerns m (Probed at master) = master == m
concerns m (Signalled at master) = master == m
concerns m (Stopped at) = true
concerns m (Event at) = false

-- the record of one master: what concerns it, in order
abbrev pub record_of : ℕ → Record → Record
record_of m L = filter (concerns m) L
