-- How many records of each sort a history has (the project's own choice).
use Rattle.std.specs.{Prelude.{ℕ, Bool, true, false, List}, List.{count_by}}
use Rattle.ptu_history.specs.History.{Record, Granted, Short, Shed, is_sent}

-- the record is a grant
abbrev pub is_grant : Record → Bool
is_grant (Granted n c k l u) = true
is_grant _ = false

-- the record is an ask that did not fit
abbrev pub is_shortage : Record → Bool
is_shortage (Short n c) = true
is_shortage _ = false

-- the record is a shedding
abbrev pub is_shedding : Record → Bool
is_shedding (Shed x c k) = true
is_shedding _ = false

-- the numbers of asks that were granted, of those that did not fit, of grants shed and of messages
pub record Counts : Type 0 where
  pub granted : ℕ
  pub short : ℕ
  pub shed : ℕ
  pub sent : ℕ

-- the counts of the history
unfoldable pub counts : List Record → Counts
counts history =
    record {
      granted = count_by is_grant history;
      short = count_by is_shortage history;
      shed = count_by is_shedding history;
      sent = count_by is_sent history;
    }
