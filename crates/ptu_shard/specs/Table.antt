-- What callers see of a table, and the histories that it stands for.
use Rattle.std.specs.{Prelude.{◌≡◌, ℕ, ◌≤◌, ◌<◌, max, List, [], Some, None, ℤ}, List.{Contains}}
use Rattle.ptu_units.specs.declared.kind.Kind.{Kind}
use Rattle.ptu_units.specs.{declared.client.Client.{Client}, Client.{table_of}}
use Rattle.ptu_history.specs.{History.{Record, Granted}, Moments.{book_moment, table_moment}}
use Rattle.ptu_history.specs.{Live.{last_decision}, Runs.{sequence_number}, Lawful.{earliest}}
use Rattle.ptu_shard.specs.{declared.lease.Lease.{Lease}, declared.lease.Row.{Row}, Row.{lease_of}, Turn.{due_messages}}

-- a table: its rows, in an order that is left open, the greatest moment of its steps, for how many more rows there is
-- room, and its port
pub record Kept (P : Type 0) : Type 0 where
  pub rows : List Row
  pub moment : ℕ
  pub spare : ℕ
  pub port : P

-- no turn of the table before this moment sends a message
abbrev pub IsIdleUntil : {P : Type 0} → ℕ → Kept P → Type 0
IsIdleUntil until table = (x : ℕ) → table.moment ≤ x → x < until → due_messages x table.rows ≡ []

-- after the history the last decision on the client and kind is a grant, and the lease is what is kept of it
pub record IsLeaseOf (history : List Record) (c : Client) (k : Kind) (lease : Lease) : Type 0 where
  pub granted : last_decision history c k ≡ Some (Granted lease.start c k lease.log lease.until)
  pub edge : lease.edge ≡ earliest history c k
  pub seq : lease.seq ≡ sequence_number history c k

-- beside a book with this moment, the rows and the table's moment are those of table `j` after the history
pub record StandsAt (book j : ℕ) (rows : List Row) (moment : ℕ) (history : List Record) : Type 0 where
  -- a row is kept only of a client of the table, and only where the last decision is a grant
  pub kept : (row : Row) → Contains rows row →
      (table_of row.client ≡ j) × IsLeaseOf history row.client row.kind row.lease
  -- a grant of which no row is kept is over, by the book's moment and by the table's: so at every moment that one of
  -- them has reached, a grant of the table is live exactly where its row is kept with a later end
  pub over : (c : Client) (k : Kind) (n : ℕ) (l : ℤ) (u : ℕ) → table_of c ≡ j →
      last_decision history c k ≡ Some (Granted n c k l u) → lease_of c k rows ≡ None → (u ≤ book) × (u ≤ moment)
  -- the table's moment is not before a record of the table, nor after both of these and the book's moment
  pub least : table_moment history j ≤ moment
  pub greatest : moment ≤ max (table_moment history j) book

-- the same of a table
abbrev pub StandsBeside : {P : Type 0} → ℕ → ℕ → Kept P → List Record → Type 0
StandsBeside book j table history = StandsAt book j table.rows table.moment history

-- the table is table `j` after the history, whose book has the moment of the last decision
abbrev pub StandsFor : {P : Type 0} → ℕ → Kept P → List Record → Type 0
StandsFor j table history = StandsBeside (book_moment history) j table history
