-- What a port in two steps tells of what was sent.
use Rattle.std.specs.Prelude.{◌≡◌, ◌≤◌, ◌||◌, ℕ, Bool, true, false, List, Option, None, Result, OnErr, OnOk, option_and_then}
use Rattle.std.specs.List.{list_any}
use Rattle.ptu_outside.specs.{declared.port.Port.{Ghosts as Ports}, HandsOver.{HandsOver}}
use Rattle.ptu_outside.specs.Departure.{Departure}
use Rattle.ptu_daemon.specs.declared.step.Step.{Step}
use Rattle.ptu_daemon.specs.declared.step.Step.TheVariants.{OneStepSync, TwoStepSync, FollowUp, Other}
use Rattle.ptu_daemon.specs.Pairs.{pair, step_at, unpair}

-- a port in two steps: the port below it, and its flag
pub record InTwoSteps (P : Type 0) : Type 0 where
  pub port : P
  pub is_flagged : Bool

-- a Sync in two steps or a Follow_Up
abbrev pub is_half : Step → Bool
is_half OneStepSync = false
is_half TwoStepSync = true
is_half FollowUp = true
is_half Other = false

-- the datagrams at which a port in two steps may cease to tell what was sent, by those of the port below: a half, and one at
-- whose pair that port may cease
abbrev pub ceases_in_two : (Departure → Bool) → Departure → Bool
ceases_in_two ceases d = is_half (step_at d) || list_any ceases (pair d)

-- where its flag is clear and a whole list is told below, what is told of that
abbrev pub told_by : Bool → Option (List Departure) → Option (List Departure)
told_by true below = None
told_by false below = option_and_then unpair below

-- these were handed to the port, and the answer says whether all were sent
pub record HandsPair {P A E : Type 0} (ports : Ports P) (old new : P) (datagrams : List Departure) (answer : Result A E) : Type 0 where
  pub sent : ℕ
  pub failed : ℕ
  pub hands : HandsOver ports old new datagrams sent failed
  pub all : OnOk answer (failed ≡ 0)
  pub some : OnErr answer (1 ≤ failed)
