-- What happens to a slave's daemon, and what its slave does then.
use Rattle.std.specs.Prelude.{ℕ, ◌+◌, List, [], ◌∷◌, ◌++◌, map, Option, option_map}
use Rattle.ptu_outside.specs.{declared.arrival.Arrival.{Arrival}, Departure.{Departure}}
use Rattle.ptu_record.specs.{Record.{Record}, Step.{Stop, Tick}}
use Rattle.ptu_profile.specs.Slave.{address_of}
use Rattle.ptu_slave_messages.specs.Node.{Deed, Node, datagram_deed, deed, node_selection}
use Rattle.ptu_outside.specs.{Rounds.{in_rounds, taken_in, timed}, Taken.{Round, in_these}}

-- what may happen to it, at a moment of its clock
pub data SlaveHappening : Type 0 where
  -- a datagram that waited is taken
  Arrives : (arrival : Arrival) (at : ℕ) → SlaveHappening
  -- the tick of the round with this number, from 1
  Ticks : (round at : ℕ) → SlaveHappening
  -- the stop
  Stops : (at : ℕ) → SlaveHappening

abbrev pub arrive : Arrival → ℕ → SlaveHappening
arrive arrival = λ at. Arrives arrival at

-- what happens in a round before which there were so many, which took this: the datagrams, those of the general channel first,
-- and then the tick
abbrev pub slave_round_with : ℕ → Round → List (ℕ → SlaveHappening)
slave_round_with before round = map arrive (round.general ++ round.event) ++ Ticks (before + 1) ∷ []

-- what happens in rounds that took these, from the first round on
abbrev pub happenings_of_rounds : List Round → List (ℕ → SlaveHappening)
happenings_of_rounds rounds = in_these (λ before round. slave_round_with before round) 0 rounds

-- what happens in such a round where these wait
abbrev pub slave_round_of : (general event : List Arrival) → (before : ℕ) → List (ℕ → SlaveHappening)
slave_round_of general event before = slave_round_with before (record { general = taken_in before general; event = taken_in before event })

-- all that happens where these wait on the channels: so many rounds, and at the end the stop, each thing at a new moment
abbrev pub happenings : ℕ → (general event : List Arrival) → List ℕ → List SlaveHappening
happenings rounds general event moments = timed moments (in_rounds (slave_round_of general event) rounds ++ Stops ∷ [])

-- ---- what the slave does

-- at one of them, after this record
abbrev pub deed_at : Node → Record → SlaveHappening → Deed
deed_at node L (Arrives arrival at) = datagram_deed node L at arrival.ip arrival.bytes
deed_at node L (Ticks round at) = deed node L at Tick
deed_at node L (Stops at) = deed node L at Stop

-- the record after it
abbrev pub entered_at : Node → Record → SlaveHappening → Record
entered_at node L h = L ++ (deed_at node L h).entries

-- the record after all of them
abbrev pub record_by_happenings : Node → Record → List SlaveHappening → Record
record_by_happenings node L [] = L
record_by_happenings node L (h ∷ later) = record_by_happenings node (entered_at node L h) later

-- the datagrams that are sent
abbrev pub sent_by_happenings : Node → Record → List SlaveHappening → List Departure
sent_by_happenings node L [] = []
sent_by_happenings node L (h ∷ later) = (deed_at node L h).datagrams ++ sent_by_happenings node (entered_at node L h) later

-- ---- what it selects

-- a round, and the address of the master that is selected then
pub record Selection : Type 0 where
  pub round : ℕ
  pub master : Option ℕ

-- at a tick, by the record after it
abbrev pub selection_at : Node → Record → SlaveHappening → List Selection
selection_at node L (Ticks round at) =
    record { round = round; master = option_map (address_of node.masters) (node_selection node L at) } ∷ []
selection_at node L h = []

-- at all ticks
abbrev pub selections_in : Node → Record → List SlaveHappening → List Selection
selections_in node L [] = []
selections_in node L (h ∷ later) =
    selection_at node (entered_at node L h) h ++ selections_in node (entered_at node L h) later
