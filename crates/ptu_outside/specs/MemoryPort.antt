-- What a port in memory holds.
use Rattle.std.specs.Prelude.{ℕ, ◌≡◌, ◌≤◌, ◌+◌, ◌-◌, List, [], length, map, sum_by, slice_range}
use Rattle.std.specs.List.{AllByRecursion}
use Rattle.ptu_outside.specs.declared.{arrival.Arrival.{Arrival}, mem_port.Slot.{Slot}}
use Rattle.ptu_outside.specs.Departure.{Departure}

-- the datagrams that were sent, with the room in all for datagrams and for their octets; those that
-- wait; for each kind of call, which are to fail and how many there have been; and the faults
pub record MemoryPort : Type 0 where
  pub sent : List Departure
  pub datagrams : ℕ
  pub octets : ℕ
  pub waiting : List Arrival
  pub failing_sends : List ℕ
  pub failing_receives : List ℕ
  pub sends : ℕ
  pub receives : ℕ
  pub faults : ℕ

-- nothing waits, nothing was sent or received, and no call has failed or is to fail
pub record IsIdle (port : MemoryPort) : Type 0 where
  pub sent : port.sent ≡ []
  pub waiting : port.waiting ≡ []
  pub failing_sends : port.failing_sends ≡ []
  pub failing_receives : port.failing_receives ≡ []
  pub sends : port.sends ≡ 0
  pub receives : port.receives ≡ 0
  pub faults : port.faults ≡ 0

-- how many octets the datagrams have together
abbrev pub departure_octets : List Departure → ℕ
departure_octets sent = sum_by (λ d. length d.bytes) sent

-- no datagram that waits is longer than a datagram may be
abbrev pub FitAll : List Arrival → Type 0
FitAll arrivals = AllByRecursion (λ (a : Arrival). length a.bytes ≤ 2048) arrivals

-- the datagrams whose octets stand one behind the other
abbrev pub slot_departure : List ℕ → Slot → Departure
slot_departure octets slot =
    record { ip = slot.ip; channel = slot.channel; bytes = slice_range octets slot.start slot.end }

abbrev pub departures : List ℕ → List Slot → List Departure
departures octets slots = map (slot_departure octets) slots

-- each slot is a range of the octets, and together they are as long as these
pub record IsLaidOut (octets : List ℕ) (slots : List Slot) : Type 0 where
  pub within : AllByRecursion (λ (s : Slot). (s.start ≤ s.end) × (s.end ≤ length octets)) slots
  pub whole : sum_by (λ (s : Slot). s.end - s.start) slots ≡ length octets

-- no send is to fail, and there is room for these datagrams
pub record IsSure (port : MemoryPort) (more : List Departure) : Type 0 where
  pub unlisted : port.failing_sends ≡ []
  pub datagrams : length port.sent + length more ≤ port.datagrams
  pub octets : departure_octets port.sent + departure_octets more ≤ port.octets
