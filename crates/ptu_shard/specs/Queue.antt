-- Queues of moments: entries of clients and kinds, and which of them rows have.
use Rattle.std.specs.Prelude.{◌≡◌, ℕ, ◌<◌, ◌&&◌, ◌==◌, Bool, true, false, List, Option, nat_lt}
use Rattle.std.specs.{Option.{option_map_or}, List.{All, Contains}}
use Rattle.std.specs.{Ordering.{is_lt, nat_cmp, ordering_then}, declared.cmp.Ordering.{Ordering}}
use Rattle.ptu_units.specs.Client.{client_cmp, kind_cmp}
use Rattle.ptu_history.specs.Turns.{is_turned}
use Rattle.ptu_shard.specs.declared.{lease.Lease.{Lease}, lease.Row.{Row}, queue.Entry.{Entry}}

-- what a queue holds, in an order that is left open, and for how many entries it has room in all
pub record Queued : Type 0 where
  pub entries : List Entry
  pub capacity : ℕ

-- by moment, then client, then kind
abbrev pub entry_cmp : Entry → Entry → Ordering
entry_cmp a b =
    ordering_then (nat_cmp a.moment b.moment)
    (ordering_then (client_cmp a.client b.client) (kind_cmp a.kind b.kind))

-- no entry of these is below this one
abbrev pub IsNoneBelow : Entry → List Entry → Type 0
IsNoneBelow e entries = All (λ f. is_lt (entry_cmp f e) ≡ false) entries

-- the entry of a row in the queue of what is due: its earliest lawful moment
abbrev pub edge_entry : Row → Entry
edge_entry row = record { moment = row.lease.edge; client = row.client; kind = row.kind }

-- the row of an entry's client and kind, with this lease
abbrev pub row_by : Entry → Lease → Row
row_by e lease = record { client = e.client; kind = e.kind; lease = lease }

-- its entry in the queue of what ends
abbrev pub end_entry : Row → Entry
end_entry row = record { moment = row.lease.until; client = row.client; kind = row.kind }

-- each row of which turns send, and that is not over at the moment, has its entry
abbrev pub HasEdges : ℕ → List Row → List Entry → Type 0
HasEdges moment rows entries = (row : Row) → Contains rows row → is_turned row.kind ≡ true → moment < row.lease.until → Contains entries (edge_entry row)

-- the lease that a row replaces is live at the moment, and has the row's earliest lawful moment: so its entry is the row's
abbrev pub is_edge_kept : ℕ → Row → Option Lease → Bool
is_edge_kept moment row replaced =
    option_map_or (λ (l : Lease). nat_lt moment l.until && l.edge == row.lease.edge) replaced false

-- each row has its entry
abbrev pub HasEnds : List Row → List Entry → Type 0
HasEnds rows entries = (row : Row) → Contains rows row → Contains entries (end_entry row)
