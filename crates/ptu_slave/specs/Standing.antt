-- Which records a slave stands for, and what a step of it is.
use Rattle.std.specs.Prelude.{◌≡◌, ℕ, ◌<◌, ◌≤◌, max, Bool, false, List, [], ◌∷◌, ◌++◌, length, map, slice_get, Option, Some, option_map}
use Rattle.std.specs.List.{list_any}
use Rattle.ptu_units.specs.declared.kind.Kind.{Kind}
use Rattle.ptu_record.specs.{declared.rule.Rule.{Rule}, Lists.{maximum}}
use Rattle.ptu_record.specs.Record.{Entry, Record, event_moment, record_of, moment_of}
use Rattle.ptu_record.specs.{Grants.{is_live}, Judges.{opening_of}, Selection.{selected_master}}
use Rattle.ptu_record.specs.{Tick.{is_stop}, Step.{IsStep, SlaveEvent, SlaveSetup, SlaveStep, Tick, sendings}}
use Rattle.ptu_requester.specs.Requester as requester
use Rattle.ptu_select.specs.Selecting.{SelectsBy}
use Rattle.ptu_judges.specs.Held.{Held}
use Rattle.ptu_judges.specs.Held as judge
use Rattle.ptu_profile.specs.declared.slave.SlaveConfig.{SlaveConfig}
use Rattle.ptu_profile.specs.Slave.{address_of, priorities, timeouts}
use Rattle.ptu_slave.specs.Kept.{CountFor, IsSame, Kept}

-- what is kept of each master is what a fact says of it and of the master's record
pub record Each {X : Type 0} (F : ℕ → X → Record → Type 0) (xs : List X) (L : Record) : Type 0 where
  pub of_master : (m : ℕ) (x : X) → slice_get xs m ≡ Some x → F m x (record_of m L)

-- a slave of this configuration, whose first judges have these rules
abbrev pub setup_of : SlaveConfig → List (Option Rule) → SlaveSetup
setup_of config openings = record { wants = config.wants; openings = openings }

-- ---- the parts of a slave

-- what it asks for, and the numbers under which: what the requester was told stands in the first record, what was sent
-- in the second
pub record Asks (kept : Kept) (told L : Record) : Type 0 where
  pub requester : requester.StandsFor kept.requester told
  pub counters : Each (λ m. CountFor) kept.counters L

-- what it selects by
abbrev pub Selects : Kept → Record → Type 0
Selects kept L = SelectsBy kept.selector (timeouts kept.config) (priorities kept.masters) L

-- whatever record it selected by, it has come to select by it with this entry
abbrev pub Shows : (old new : Kept) → Entry → Type 0
Shows old new e = (L : Record) → Selects old L → Selects new (L ++ e ∷ [])

-- its judges: each was told of the Syncs and flags of its own master, in order, and of nothing else
abbrev pub Judge : List (Option Rule) → List Held → Record → Type 0
Judge openings judges L = Each (λ m held own. judge.StandsFor (opening_of openings m) own held) judges L

-- the two tell the same grants of each master live from the moment x on, whatever is added to both
pub record SameGrants (masters x : ℕ) (told L : Record) : Type 0 where
  pub live : (M : Record) (t m : ℕ) (k : Kind) → m < masters → x ≤ t → is_live k (record_of m (told ++ M)) t ≡ is_live k (record_of m (L ++ M)) t

-- ---- the whole

-- a slave whose first judges have these rules stands for this record. Its requester knows no stop: it was told instead
-- that each grant that was live then was cancelled, after which a slave asks for nothing more
pub record StandsFor (openings : List (Option Rule)) (kept : Kept) (judges : List Held) (L : Record) : Type 0 where
  pub told : Record
  pub asks : Asks kept told L
  pub selects : Selects kept L
  pub judge : Judge openings judges L
  pub moment : kept.moment ≡ maximum (map moment_of L)
  pub stopped : kept.stopped ≡ list_any is_stop L
  pub told_all : kept.stopped ≡ false → told ≡ L
  pub grants : SameGrants (length kept.masters) kept.moment told L
  pub each_judged : length judges ≡ length kept.masters
  pub each_opening : length openings ≡ length kept.masters

-- from the record L, an event that is handed t makes a slave stand for L with the entries of a step
pub record Steps (openings : List (Option Rule)) (old new : Kept) (judges : List Held) (L : Record) (t : ℕ) (e : SlaveEvent) : Type 0 where
  pub step : SlaveStep
  pub is_step : IsStep (setup_of old.config openings) L t e step
  pub stands : StandsFor openings new judges (L ++ step.entries)

-- an event that is handed t, at which no judge is asked, has this moment; what the slave is stays, and it makes such a step
-- from each record that it stood for
pub record Takes (t : ℕ) (e : SlaveEvent) (old new : Kept) (x : ℕ) : Type 0 where
  pub at : x ≡ max t old.moment
  pub same : IsSame old new
  pub steps : (openings : List (Option Rule)) (judges : List Held) (L : Record) → StandsFor openings old judges L → Steps openings old new judges L t e

-- such a step, at which the judges who are asked find this
abbrev pub StepsBy : List Bool → List (Option Rule) → (old new : Kept) → List Held → Record → ℕ → SlaveEvent → Type 0
StepsBy found openings old new judges L t e = (steps : Steps openings old new judges L t e) × (steps.is_step.assessments ≡ found)

-- the address of the master that a slave selects, of which this is kept, after this record at t, or at the record's moment
-- where that is later
abbrev pub selected_address : Kept → Record → ℕ → Option ℕ
selected_address kept L t =
    option_map (address_of kept.masters) (selected_master (timeouts kept.config) (priorities kept.masters) L (event_moment L t))

-- before this moment, from that of the slave on, no tick sends anything, and the master that is selected is the same
pub record IsIdleUntil (until : ℕ) (openings : List (Option Rule)) (kept : Kept) (L : Record) : Type 0 where
  pub sends : (x : ℕ) → kept.moment ≤ x → x < until → sendings (setup_of kept.config openings) L x Tick ≡ []
  pub selects : (x : ℕ) → kept.moment ≤ x → x < until → selected_address kept L x ≡ selected_address kept L kept.moment

-- a judge found this by such a call between these boxes, and the slave steps by that, whatever it stands for
abbrev pub StepsFound : {B : Type 0} → (Bool → List B → List B → Type 0) → List B → List B → (old new : Kept) → (olds news : List Held) → ℕ → SlaveEvent → Type 0
StepsFound Calls boxes boxes' old new olds news t e = (found : Bool) × Calls found boxes boxes'
    × ((openings : List (Option Rule)) (L : Record) → StandsFor openings old olds L → StepsBy (found ∷ []) openings old new news L t e)
