-- The moments below which no step is taken (the project's own choice).
use Rattle.std.specs.Prelude.{ℕ, ◌≤◌, max, Bool, false, List, [], ◌∷◌, ◌==◌, if◌then◌else◌}
use Rattle.std.specs.List.{All, Contains}
use Rattle.ptu_units.specs.Client.{table_of}
use Rattle.ptu_history.specs.History.{Record, Granted, Short, Ended, Capacity, Shed, Looked, Sent, moment_of}

-- the greatest of these values, or 0
abbrev pub greatest_by : {A : Type 0} → (A → ℕ) → List A → ℕ
greatest_by f [] = 0
greatest_by f (x ∷ xs) = max (f x) (greatest_by f xs)

-- the value is one of these, and none is greater
pub record IsGreatest (n : ℕ) (values : List ℕ) : Type 0 where
  pub one_of : Contains values n
  pub at_most : All (λ m. m ≤ n) values

-- the moment of a record that counts for the book: all but the tables' own
abbrev pub book_part : Record → ℕ
book_part (Looked x j) = 0
book_part (Sent x c k) = 0
book_part r = moment_of r

-- the record is of this table: its own, or of one of its clients
abbrev pub is_of_table : ℕ → Record → Bool
is_of_table j (Granted n c k l u) = table_of c == j
is_of_table j (Short n c) = table_of c == j
is_of_table j (Ended n c k) = table_of c == j
is_of_table j (Capacity x capacity) = false
is_of_table j (Shed x c k) = table_of c == j
is_of_table j (Looked x i) = i == j
is_of_table j (Sent x c k) = table_of c == j

-- the moment of a record that counts for the table
abbrev pub table_part : ℕ → Record → ℕ
table_part j r = if is_of_table j r then moment_of r else 0

-- the greatest moment of an ask within the profile, a cancel, a change of capacity or a shedding,
-- or 0
unfoldable pub book_moment : List Record → ℕ
book_moment history = greatest_by book_part history

-- the greatest moment of a record of the table, or 0
unfoldable pub table_moment : List Record → ℕ → ℕ
table_moment history j = greatest_by (table_part j) history
