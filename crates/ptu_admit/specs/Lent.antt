-- The history that tables and a book stand for, while the tables are lent beside the book.
use Rattle.std.specs.Prelude.{◌≡◌, ℕ, ◌+◌, ◌≤◌, max, Bool, true, false, not, ◌||◌, ◌==◌, List, [], ◌∷◌, ◌++◌, if◌then◌else◌}
use Rattle.std.specs.{List.{filter}, List.Sorted.{IsPermutation}}
use Rattle.ptu_units.specs.declared.kind.Kind.{Kind}
use Rattle.ptu_units.specs.{declared.client.Client.{Client}, Client.{table_of}}
use Rattle.ptu_history.specs.{History.{Record, capacity_in_force}, Moments.{book_moment}}
use Rattle.ptu_history.specs.{Live.{Grant, live_grants}, Verdict.{rate_sum}}
use Rattle.ptu_shard.specs.{declared.lease.Row.{Row}, Row.{share_of, without_row}}
use Rattle.ptu_shard.specs.{Table.{Kept, StandsAt}, Turn.{spent_where}}
use Rattle.ptu_admit.specs.{Book.{KeptBook}, Rows.{live_rows}}

-- a table that is lent: which of the four it is, its rows and its moment
pub record Lent : Type 0 where
  pub index : ℕ
  pub rows : List Row
  pub moment : ℕ

-- the table, as that of this index
abbrev pub lent_as : {P : Type 0} → ℕ → Kept P → Lent
lent_as j table = record { index = j; rows = table.rows; moment = table.moment }

-- the client's table
abbrev pub table_for : {P : Type 0} → Client → Kept P → Lent
table_for c table = lent_as (table_of c) table

-- all four tables, in order of index
abbrev pub four : {P : Type 0} → Kept P → Kept P → Kept P → Kept P → List Lent
four a b c d = lent_as 0 a ∷ lent_as 1 b ∷ lent_as 2 c ∷ lent_as 3 d ∷ []

-- the sum of the shares
abbrev pub shares : List Lent → ℕ
shares [] = 0
shares (t ∷ lent) = share_of t.rows + shares lent

-- the table of this index is among those that are lent
abbrev pub is_lent : ℕ → List Lent → Bool
is_lent j [] = false
is_lent j (t ∷ lent) = t.index == j || is_lent j lent

-- the grant is of a client of a table that is not lent
abbrev pub is_elsewhere : List Lent → Grant → Bool
is_elsewhere lent g = not (is_lent (table_of g.client) lent)

-- the sum of the rates of the grants that are live at the moment, of clients of the tables that are not lent
unfoldable pub rates_elsewhere : List Lent → List Record → ℕ → ℕ
rates_elsewhere lent history x = rate_sum (filter (is_elsewhere lent) (live_grants history x))

-- each table stands for the history, beside a book with this moment
abbrev pub EachStandsAt : ℕ → List Lent → List Record → Type 0
EachStandsAt book [] history = Unit {0}
EachStandsAt book (t ∷ lent) history =
    StandsAt book t.index t.rows t.moment history × EachStandsAt book lent history

-- the lent tables and the book stand for the history, whose opening capacity this is
pub record StandFor (opening : ℕ) (lent : List Lent) (book : KeptBook) (history : List Record) : Type 0 where
  pub tables : EachStandsAt (book_moment history) lent history
  pub moment : book.moment ≡ book_moment history
  pub capacity : book.capacity ≡ capacity_in_force opening history
  -- what the total has beyond the shares of the lent tables is enough for the live grants of the others
  pub others : shares lent + rates_elsewhere lent history (book_moment history) ≤ book.total
  -- where the table of every client is lent, it has nothing beyond them
  pub whole : ((c : Client) → is_lent (table_of c) lent ≡ true) → book.total ≡ shares lent

-- where the table of this index sends, the lent tables and the book stand for the history with the records of it, as the
-- table does
abbrev pub StandAfterSends : ℕ → ℕ → ℕ → List Record → List Record → Type 0
StandAfterSends opening x j history more =
    (test : Row → Bool) (moment after : ℕ) (rows spent : List Row) (rest : List Lent) (book : KeptBook) →
    StandFor opening (record { index = j; rows = rows; moment = moment } ∷ rest) book history →
    is_lent j rest ≡ false → IsPermutation (spent_where test x rows) spent →
    StandsAt (book_moment (history ++ more)) j spent after (history ++ more) →
    StandFor opening (record { index = j; rows = spent; moment = after } ∷ rest) book (history ++ more)

-- the rows of the table that are live at the moment, but for that of the client and kind; a client's rows stand in
-- its own table
abbrev pub others_in : ℕ → Client → Kind → Lent → List Row
others_in n c k t =
    if t.index == table_of c then without_row c k (live_rows n t.rows) else live_rows n t.rows

-- the sum of the rates of these rows of all lent tables
abbrev pub live_others : ℕ → List Lent → Client → Kind → ℕ
live_others n [] c k = 0
live_others n (t ∷ lent) c k = share_of (others_in n c k t) + live_others n lent c k

-- the moment of the lent table of this index
abbrev pub moment_of_lent : ℕ → List Lent → ℕ
moment_of_lent j [] = 0
moment_of_lent j (t ∷ lent) = if t.index == j then t.moment else moment_of_lent j lent

-- the moment of a step on the client's table: the greatest of the moment that is handed in, the book's and the table's
abbrev pub moment_for : ℕ → KeptBook → Client → List Lent → ℕ
moment_for t book c lent = max t (max book.moment (moment_of_lent (table_of c) lent))

-- the moment of a step on all lent tables: the greatest of the moment that is handed in, the book's and the tables'
abbrev pub moment_for_all : ℕ → KeptBook → List Lent → ℕ
moment_for_all t book [] = max t book.moment
moment_for_all t book (l ∷ lent) = max l.moment (moment_for_all t book lent)

-- the rows of the lent table of this index
abbrev pub rows_of_lent : ℕ → List Lent → List Row
rows_of_lent j [] = []
rows_of_lent j (t ∷ lent) = if t.index == j then t.rows else rows_of_lent j lent
