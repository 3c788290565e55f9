-- Rows of a table at a moment.
use Rattle.std.specs.{Prelude.{ℕ, Bool, false, List, nat_lt}, List.{filter}, Option.{option_map_or}}
use Rattle.ptu_units.specs.{declared.kind.Kind.{Kind}, Log.{rate_of}}
use Rattle.ptu_units.specs.declared.client.Client.{Client}
use Rattle.ptu_shard.specs.{declared.lease.Row.{Row}, Row.{lease_of}}

-- the rows whose grants are not over at the moment
abbrev pub live_rows : ℕ → List Row → List Row
live_rows n rows = filter (λ row. nat_lt n row.lease.until) rows

-- what the client's row of the kind holds, also where its grant is over
abbrev pub kept_rate : Client → Kind → List Row → ℕ
kept_rate c k rows = option_map_or (λ lease. rate_of lease.log) (lease_of c k rows) 0

-- a row of the client and kind is kept, and its grant is not over at the moment
abbrev pub has_live_row : ℕ → Client → Kind → List Row → Bool
has_live_row n c k rows = option_map_or (λ lease. nat_lt n lease.until) (lease_of c k rows) false
