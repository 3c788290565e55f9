-- Clients of a grandmaster, their order, and the table of each (the project's own choice).
use Rattle.std.specs.{Prelude.{ℕ, ◌+◌, ◌%◌, Bool, ◌&&◌, ◌==◌}, Ordering.{nat_cmp, ordering_then}}
use Rattle.std.specs.declared.cmp.Ordering.{Ordering}
use Rattle.ptu_units.specs.declared.kind.{Kind.{Kind}, Kind.TheVariants.{Announce, Sync, DelayResp}}
use Rattle.ptu_units.specs.declared.client.Client.{Client}

-- the two are one client
abbrev pub same_client : Client → Client → Bool
same_client a b = a.ip == b.ip && a.clock == b.clock && a.port == b.port

-- by address, then clock identity, then port number
abbrev pub client_cmp : Client → Client → Ordering
client_cmp a b =
    ordering_then (nat_cmp a.ip b.ip)
    (ordering_then (nat_cmp a.clock b.clock) (nat_cmp a.port b.port))

-- the place of a kind in the order of kinds
abbrev pub kind_place : Kind → ℕ
kind_place Announce = 0
kind_place Sync = 1
kind_place DelayResp = 2

-- the two are one kind
abbrev pub same_kind : Kind → Kind → Bool
same_kind a b = kind_place a == kind_place b

-- by the order of kinds
abbrev pub kind_cmp : Kind → Kind → Ordering
kind_cmp a b = nat_cmp (kind_place a) (kind_place b)

-- the two pairs of a client and a kind are one
abbrev pub same_lease : Client → Kind → Client → Kind → Bool
same_lease c k c' k' = same_client c c' && same_kind k k'

-- the last octet of the clock identity plus the port number, modulo 4
abbrev pub table_of : Client → ℕ
table_of c = (c.clock % 256 + c.port) % 4
