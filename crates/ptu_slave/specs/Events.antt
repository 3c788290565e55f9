-- What the events of a slave are to those who see it.
use Rattle.std.specs.Prelude.{◌≡◌, ℕ, max, Bool, List, [], ◌∷◌, map, length, Option}
use Rattle.std.specs.declared.dyn_box.DynBox.{DynBox}
use Rattle.ptu_outside.specs.{HandsOver.{HandsOver}, declared.port.Port.{Ghosts as Ports}}
use Rattle.ptu_record.specs.{declared.rule.Rule.{Rule}, Record.{Record}}
use Rattle.ptu_record.specs.Step.{ReplaceJudge, SlaveEvent, Stop, TellFlag, Tick, sendings}
use Rattle.ptu_record.specs.Tick.{Sending}
use Rattle.ptu_judges.specs.Calls.{OfAll, OfOne, Then, WasAsked, WasTold}
use Rattle.ptu_judges.specs.Held.{Held}
use Rattle.ptu_slave_messages.specs.Sending.{sending_departure}
use Rattle.ptu_profile.specs.Target.{all_ones}
use Rattle.ptu_slave.specs.{Seen.{Seen}, Standing.{StandsFor, Steps, StepsBy, setup_of}}
use Rattle.ptu_slave.specs.declared.ticked.Ticked.{Ticked}

-- for each record that it stood for, it makes the step of this event
abbrev pub Goes : {P B : Type 0} → (old new : Seen P B) → ℕ → SlaveEvent → Type 0
Goes old new t e = (openings : List (Option Rule)) (L : Record) → StandsFor openings old.kept old.judges L
    → Steps openings old.kept new.kept new.judges L t e

-- such a step, at which the judges who are asked find this
abbrev pub GoesBy : {P B : Type 0} → List Bool → (old new : Seen P B) → ℕ → SlaveEvent → Type 0
GoesBy found old new t e = (openings : List (Option Rule)) (L : Record) → StandsFor openings old.kept old.judges L
    → StepsBy found openings old.kept new.kept new.judges L t e

-- it hands to the port what is sent at this event, of which so many were sent and so many failed
abbrev pub Sends : {P B : Type 0} → Ports P → (old new : Seen P B) → SlaveEvent → Ticked → Type 0
Sends ports old new e result = (handed : List Sending) × HandsOver ports old.port new.port
    (map (sending_departure old.kept.config old.kept.masters all_ones) handed) result.sent result.failed
    × ((openings : List (Option Rule)) (L : Record) → StandsFor openings old.kept old.judges L
    → handed ≡ sendings (setup_of old.kept.config openings) L result.at e)

-- a tick at t: all judges were asked
pub record HasTicked {P X Z : Type 0} {F : X → Type 0} (finds : (j : DynBox X Z F) → ℕ → Bool → F j.vtable → Type 0)
    (ports : Ports P) (t : ℕ) (old new : Seen P (DynBox X Z F)) (result : Ticked) : Type 0 where
  pub at : result.at ≡ max t old.kept.moment
  pub steps : Goes old new t Tick
  pub asked : (found : List Bool) × OfAll (length old.kept.masters) (WasAsked finds (max t old.kept.moment)) found old.boxes new.boxes
      × GoesBy found old new t Tick
  pub sends : Sends ports old new Tick result

-- the stop at t
pub record HasStopped {P B : Type 0} (ports : Ports P) (t : ℕ) (old new : Seen P B) (result : Ticked) : Type 0 where
  pub at : result.at ≡ max t old.kept.moment
  pub steps : Goes old new t Stop
  pub sends : Sends ports old new Stop result
  pub judges : new.judges ≡ old.judges
  pub boxes : new.boxes ≡ old.boxes

-- at this event a judge was called so, and found this; nothing was sent
pub record HasJudged {P B : Type 0} (Calls : Bool → List B → List B → Type 0) (t : ℕ) (e : SlaveEvent) (old new : Seen P B) : Type 0 where
  pub steps : Goes old new t e
  pub judged : (found : Bool) × Calls found old.boxes new.boxes × GoesBy (found ∷ []) old new t e
  pub port : new.port ≡ old.port

-- the operator's word on the master at this place: its judge was told, and asked
abbrev pub IsFlagged : {P X Z : Type 0} {F : X → Type 0} → (is_told finds : (j : DynBox X Z F) → ℕ → Bool → F j.vtable → Type 0)
    → (t m : ℕ) → Bool → (old new : Seen P (DynBox X Z F)) → Type 0
IsFlagged is_told finds t m unusable old new =
    HasJudged (λ found. OfOne m (Then (WasTold is_told (max t old.kept.moment) unusable) (WasAsked finds (max t old.kept.moment) found)))
    t (TellFlag m unusable) old new

-- the judge in this box took over the master at this place, and was asked
abbrev pub IsReplaced : {P X Z : Type 0} {F : X → Type 0} → (DynBox X Z F → Held) → ((j : DynBox X Z F) → ℕ → Bool → F j.vtable → Type 0)
    → (t m : ℕ) → DynBox X Z F → (old new : Seen P (DynBox X Z F)) → Type 0
IsReplaced held finds t m box old new =
    HasJudged (λ found. OfOne m (λ _ judge_there. WasAsked finds (max t old.kept.moment) found box judge_there))
    t (ReplaceJudge m (held box).rule) old new
