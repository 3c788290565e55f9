-- What the grandmaster of each pool sends at an event, and the lines of output on it: what the core does after the pool's own
-- events, from the empty history and with the pool's own capacity (the project's own choice).
use Rattle.std.specs.{Prelude.{ℕ, ◌+◌, List, ◌∷◌, [], map, Option, Some, None}, List.{position}}
use Rattle.ptu_outside.specs.Departure.{Departure}
use Rattle.ptu_pool_run.specs.{declared.pool.Pool.{Pool}, Pool.{capacity_at, is_in}}
use Rattle.ptu_pool_run.specs.Events.{PoolEvent, Came, Turned, pool_history}
use Rattle.ptu_script.specs.declared.command.GrandmasterSetup.{GrandmasterSetup}
use Rattle.ptu_world.specs.{Deeds.{Grandmaster}, Grandmasters.{datagram_deed, turn_deed}}
use Rattle.ptu_nodes.specs.Standing.{setup_config}
use Rattle.ptu_pool_run.specs.declared.output.PoolLine.{PoolLine}
use Rattle.ptu_pool_run.specs.declared.output.PoolLine.TheVariants.{Sent, Stranger}

-- the grandmaster of the pool at this place, after the events
abbrev pub grandmaster_of : GrandmasterSetup → List Pool → List PoolEvent → ℕ → Grandmaster
grandmaster_of setup pools events i = record {
  ip = setup.ip;
  config = setup_config setup;
  capacity = capacity_at pools i;
  past = pool_history (setup_config setup) pools i events;
}

-- what a grandmaster sends at an event of its own pool, in order
abbrev pub sends_at : Grandmaster → PoolEvent → List Departure
sends_at gm (Came t from octets) = (datagram_deed gm t from octets).sends
sends_at gm (Turned t pool table) = (turn_deed gm t table).sends

-- the place of the pool whose event it is, if it is any pool's
abbrev pub place_of_pool : List Pool → PoolEvent → Option ℕ
place_of_pool pools (Came t from octets) = position (is_in from) pools
place_of_pool pools (Turned t pool table) = Some pool

-- of a datagram that the pool with this number sent at the line with this number
abbrev pub sent_line : ℕ → ℕ → Departure → PoolLine
sent_line line number datagram = Sent line number datagram.channel datagram.ip datagram.bytes

-- what is written of an event at this line, after these events, where it is that of the pool at this place, or no pool's; pools
-- are numbered from 1
abbrev pub pool_lines_by : GrandmasterSetup → List Pool → List PoolEvent → ℕ → PoolEvent → Option ℕ → List PoolLine
pool_lines_by setup pools before line event None = Stranger line ∷ []
pool_lines_by setup pools before line event (Some place) =
    map (sent_line line (place + 1)) (sends_at (grandmaster_of setup pools before place) event)

-- what is written of an event at this line, after these events
abbrev pub lines_of_event : GrandmasterSetup → List Pool → List PoolEvent → ℕ → PoolEvent → List PoolLine
lines_of_event setup pools before line event = pool_lines_by setup pools before line event (place_of_pool pools event)
