-- Which rows may send at a moment, in which order, and what a message spends (the project's own choice).
use Rattle.std.specs.Prelude.{ℕ, ◌+◌, ◌%◌, max, Bool, ◌&&◌, List, map, nat_lt, nat_le, if◌then◌else◌}
use Rattle.std.specs.{List.{filter}, Ordering.{nat_cmp, ordering_then}}
use Rattle.std.specs.declared.cmp.Ordering.{Ordering}
use Rattle.ptu_units.specs.declared.kind.{Kind.{Kind}, Kind.TheVariants.{Announce, Sync, DelayResp}}
use Rattle.ptu_units.specs.Log.{period_of}
use Rattle.ptu_units.specs.{declared.client.Client.{Client}, Client.{client_cmp, kind_cmp}}
use Rattle.ptu_history.specs.{Events.{Message}, Lawful.{edge_after}, Order.{in_order}, Turns.{is_turned}}
use Rattle.ptu_shard.specs.{declared.lease.Lease.{Lease}, declared.lease.Row.{Row}, Row.{is_row_of}}

-- the row's lease is live at the moment, and its earliest lawful moment is not after it
abbrev pub is_lawful_row : ℕ → Row → Bool
is_lawful_row x row = nat_lt x row.lease.until && nat_le row.lease.edge x

-- a turn at the moment sends a message of the row
abbrev pub is_due_row : ℕ → Row → Bool
is_due_row x row = is_turned row.kind && is_lawful_row x row

-- a Delay_Req of the client at the moment is answered by the row
abbrev pub is_answering_row : ℕ → Client → Row → Bool
is_answering_row x c row = is_row_of c DelayResp row && is_lawful_row x row

-- by earliest lawful moment, then client, then kind
abbrev pub row_cmp : Row → Row → Ordering
row_cmp a b =
    ordering_then (nat_cmp a.lease.edge b.lease.edge)
    (ordering_then (client_cmp a.client b.client) (kind_cmp a.kind b.kind))

-- the rows of which a turn at the moment sends a message, in the order of sending
abbrev pub due_rows : ℕ → List Row → List Row
due_rows x rows = in_order row_cmp (filter (is_due_row x) rows)

-- the message that is next for the row
abbrev pub message_of_row : Row → Message
message_of_row row = record { client = row.client; kind = row.kind; sequence = row.lease.seq }

-- the messages of a turn at the moment, in the order of sending
abbrev pub due_messages : ℕ → List Row → List Message
due_messages x rows = map message_of_row (due_rows x rows)

-- the row after a message at the moment, whether or not the send failed
abbrev pub spent_row : ℕ → Row → Row
spent_row x row =
    record row {
      lease = record row.lease {
        edge = edge_after row.kind (period_of row.lease.log) row.lease.edge x;
        seq = (row.lease.seq + 1) % 65536;
      };
    }

-- a client's row of Delay_Resps, with this lease
abbrev pub answering_row : Client → Lease → Row
answering_row c lease = record { client = c; kind = DelayResp; lease = lease }

-- its lease after a Delay_Req of the client at the moment
abbrev pub answered_lease : ℕ → Client → Lease → Lease
answered_lease x c lease =
    if is_lawful_row x (answering_row c lease) then (spent_row x (answering_row c lease)).lease else lease

-- the rows after a message at the moment of each row that passes the test
abbrev pub spent_where : (Row → Bool) → ℕ → List Row → List Row
spent_where test x rows = map (λ row. if test row then spent_row x row else row) rows
