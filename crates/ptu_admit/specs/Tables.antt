-- What calls do to tables, beside what the tables stand for.
use Rattle.std.specs.Prelude.{◌≡◌, ℕ, ◌+◌, ◌≤◌, max, ◌==◌, if◌then◌else◌}
use Rattle.std.specs.List.Sorted.{IsPermutation}
use Rattle.ptu_units.specs.{declared.client.Client.{Client}, Client.{table_of}}
use Rattle.ptu_shard.specs.Table.{Kept}
use Rattle.ptu_admit.specs.Rows.{live_rows}

-- the port is as it was, and the spare fell by at most this
pub record KeepsPort {P : Type 0} (fall : ℕ) (old new : Kept P) : Type 0 where
  pub port : new.port ≡ old.port
  pub spare : old.spare ≤ new.spare + fall

-- a row may come to the client's table alone
abbrev pub fall_of : Client → ℕ → ℕ
fall_of c j = if table_of c == j then 1 else 0

-- the rows whose grants were over at the moment are gone, and no others, and the table has reached the moment
pub record IsSwept {P : Type 0} (n : ℕ) (old new : Kept P) : Type 0 where
  pub rows : IsPermutation (live_rows n old.rows) new.rows
  pub moment : new.moment ≡ max old.moment n
  pub keeps : KeepsPort 0 old new
