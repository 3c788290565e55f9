-- What happens to a grandmaster that is served, in order (the project's own choice).
use Rattle.std.specs.Prelude.{◌≡◌, ℕ, ◌+◌, Bool, true, ◌==◌, List, [], ◌∷◌, ◌++◌, length, map, Option, Some, IfSome}
use Rattle.ptu_outside.specs.declared.{arrival.Arrival.{Arrival}, endpoint.Endpoint.{Endpoint}}
use Rattle.ptu_profile.specs.declared.grandmaster.GmConfig.{GmConfig}
use Rattle.ptu_grandmaster.specs.declared.driving.GmEvent.{GmEvent}
use Rattle.ptu_grandmaster.specs.declared.driving.GmEvent.TheVariants.{Take, Turn, Capacity}
use Rattle.ptu_config.specs.declared.settings.GmSettings.{GmSettings}
use Rattle.ptu_outside.specs.{Rounds.{moments_after, taken_in, timed}, Taken.{Round}}

-- how the grandmaster is set up
abbrev pub config_of : GmSettings → GmConfig
config_of settings = record {
  identity = record { clock = settings.clock; port = settings.port };
  domain = settings.domain;
  class = settings.class;
  max_duration = settings.max_duration;
  epoch = settings.epoch;
}

-- where it is opened
abbrev pub endpoint_of : GmSettings → Endpoint
endpoint_of settings = record {
  ip = settings.ip;
  event_port = settings.event_port;
  general_port = settings.general_port;
}

-- what waits at ports 4 and 5 and at the control port, nothing where there is none, and the moments of clock 0
pub record Given : Type 0 where
  pub general : List Arrival
  pub event : List Arrival
  pub spoken : List Arrival
  pub moments : List ℕ

-- what happens at the moment that it is handed
abbrev pub Happening : Type 0
Happening = ℕ → GmEvent

abbrev pub taking : Arrival → Happening
taking arrival t = Take t arrival.ip arrival.bytes

abbrev pub change_to : Bool → Option ℕ → List Happening
change_to true (Some capacity) = (λ t. Capacity t capacity) ∷ []
change_to _ _ = []

-- the change of capacity with which a round begins before which there were so many rounds
abbrev pub change_in : GmSettings → ℕ → List Happening
change_in settings before = change_to (settings.change_round == before + 1) settings.new_capacity

-- each table takes a turn
abbrev pub turns : List Happening
turns = (λ t. Turn t 0) ∷ (λ t. Turn t 1) ∷ (λ t. Turn t 2) ∷ (λ t. Turn t 3) ∷ []

-- what happens in such a round but by the control port, which took this: the change, the datagrams, those of the general channel
-- first, and the turns
abbrev pub round_with : GmSettings → ℕ → Round → List Happening
round_with settings before round =
    change_in settings before ++ map taking (round.general ++ round.event) ++ turns

-- what a round takes where this is given
abbrev pub round_given : Given → ℕ → Round
round_given given before =
    record { general = taken_in before given.general; event = taken_in before given.event }

-- the moments of a clock that told these before, and tells these after, were taken for what happens, one after the other
abbrev pub Takes : Option (List ℕ) → Option (List ℕ) → List Happening → List GmEvent → Type 0
Takes old new happenings events =
    IfSome new (λ left. (moments : List ℕ) × (old ≡ Some moments) × (events ≡ timed moments happenings)
    × (left ≡ moments_after (length happenings) moments))
