-- The rows of a table whose grants are live, and how many there are of each kind.
use Rattle.std.specs.Prelude.{◌≡◌, ◌≤◌, ℕ, ◌+◌, List, count_by}
use Rattle.ptu_units.specs.{declared.kind.Kind.{Kind}, Client.{same_kind}}
use Rattle.ptu_units.specs.declared.kind.Kind.TheVariants.{Announce, Sync, DelayResp}
use Rattle.ptu_shard.specs.{declared.lease.Row.{Row}, Row.{share_of}}
use Rattle.ptu_admit.specs.declared.live.Live.{Live}

-- how many of these rows are of the kind
abbrev pub rows_of_kind : Kind → List Row → ℕ
rows_of_kind k rows = count_by (λ (row : Row). same_kind row.kind k) rows

-- no grants
abbrev pub no_grants : Live
no_grants = record { rates = 0; announces = 0; syncs = 0; delay_resps = 0 }

-- each of the grants has a rate
abbrev pub AreFew : Live → Type 0
AreFew live = live.announces + live.syncs + live.delay_resps ≤ live.rates

-- the grants of these rows came to it
pub record HasMore (rows : List Row) (old new : Live) : Type 0 where
  pub rates : new.rates ≡ old.rates + share_of rows
  pub announces : new.announces ≡ old.announces + rows_of_kind Announce rows
  pub syncs : new.syncs ≡ old.syncs + rows_of_kind Sync rows
  pub delay_resps : new.delay_resps ≡ old.delay_resps + rows_of_kind DelayResp rows
