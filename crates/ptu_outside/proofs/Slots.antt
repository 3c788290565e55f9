-- Datagrams whose octets stand one behind the other, and one more.
use Rattle.std.proofs.Common.{◌≡◌, ℕ, ◌+◌, ◌-◌, ◌≤◌, List, [], ◌∷◌, ◌++◌, length, take, drop, refl, ap, ◌∙◌, arith, length-append, length-drop}
use Rattle.std.specs.List.{AllByRecursion, sum_by, slice_range}
use Rattle.std.proofs.lemmas.List.{drop-append-le, take-append-le, length-take-le, map-append}
use Rattle.std.proofs.Math.Seq.{drop-append_seam, take-length}
use Rattle.std.proofs.lemmas.List.Sums.{sum_by-cons, sum_by-append}
use Rattle.ptu_outside.specs.{declared.mem_port.Slot.{Slot}, Departure.{Departure}}
use Rattle.ptu_outside.specs.MemoryPort.{IsLaidOut, slot_departure, departures, departure_octets}

abbrev IsRange : List ℕ → Slot → Type 0
IsRange octets s = (s.start ≤ s.end) × (s.end ≤ length octets)

abbrev size : Slot → ℕ
size s = s.end - s.start

pub range-append : (octets more : List ℕ) (a b : ℕ) → a ≤ b → b ≤ length octets → slice_range (octets ++ more) a b ≡ slice_range octets a b
range-append octets more a b le within =
    ap (take (b - a)) (drop-append-le a octets more (omega arith)) ∙ take-append-le (b - a) (drop a octets) more (rw (length-drop a octets) (omega arith))

-- octets that come behind change no datagram
departures-append : (octets more : List ℕ) (slots : List Slot) → AllByRecursion (IsRange octets) slots → departures (octets ++ more) slots ≡ departures octets slots
departures-append octets more [] all = refl
departures-append octets more (s ∷ ss) all =
    rw (range-append octets more s.start s.end all.0.0 all.0.1, departures-append octets more ss all.1) refl

within-append : (octets more : List ℕ) (slots : List Slot) → AllByRecursion (IsRange octets) slots → AllByRecursion (IsRange (octets ++ more)) slots
within-append octets more [] all = tt
within-append octets more (s ∷ ss) all = ((all.0.0, omega (arith, length-append octets more, all.0.1)), within-append octets more ss all.1)

within-push : (octets : List ℕ) (slots : List Slot) (s : Slot) → AllByRecursion (IsRange octets) slots → IsRange octets s → AllByRecursion (IsRange octets) (slots ++ s ∷ [])
within-push octets [] s all h = (h, tt)
within-push octets (x ∷ xs) s all h = (all.0, within-push octets xs s all.1 h)

length-range : (octets : List ℕ) (a b : ℕ) → a ≤ b → b ≤ length octets → length (slice_range octets a b) ≡ b - a
length-range octets a b le within = length-take-le (b - a) (drop a octets) (rw (length-drop a octets) (omega arith))

octets_of-sizes : (octets : List ℕ) (slots : List Slot) → AllByRecursion (IsRange octets) slots → departure_octets (departures octets slots) ≡ sum_by size slots
octets_of-sizes octets [] all = refl
octets_of-sizes octets (s ∷ ss) all =
    rw (sum_by-cons (λ (d : Departure). length d.bytes) (slot_departure octets s) (departures octets ss), sum_by-cons size s ss, length-range octets s.start s.end all.0.0 all.0.1, octets_of-sizes octets ss all.1) refl

-- the datagrams have as many octets as there are
pub octets_of-departures : (octets : List ℕ) (slots : List Slot) → IsLaidOut octets slots → departure_octets (departures octets slots) ≡ length octets
octets_of-departures octets slots h = octets_of-sizes octets slots h.within ∙ h.whole

-- a slot for the octets that come behind
abbrev IsSlotOf : List ℕ → List ℕ → Slot → Type 0
IsSlotOf octets bytes s = (s.start ≡ length octets) × (s.end ≡ length octets + length bytes)

pub laid_out-push : (octets bytes : List ℕ) (slots : List Slot) (s : Slot) → IsLaidOut octets slots → IsSlotOf octets bytes s → IsLaidOut (octets ++ bytes) (slots ++ s ∷ [])
laid_out-push octets bytes slots s h at = record {
  within = within-push (octets ++ bytes) slots s (within-append octets bytes slots h.within) (omega arith, omega (arith, length-append octets bytes));
  whole = rw (sum_by-append size slots (s ∷ [])) (omega (arith, h.whole, length-append octets bytes));
}

pub departures-push : (octets bytes : List ℕ) (slots : List Slot) (s : Slot) → IsLaidOut octets slots → IsSlotOf octets bytes s
    → departures (octets ++ bytes) (slots ++ s ∷ []) ≡ departures octets slots ++ record { ip = s.ip; channel = s.channel; bytes = bytes } ∷ []
departures-push octets bytes slots s h at =
    let behind : slice_range (octets ++ bytes) s.start s.end ≡ bytes =
    rw (at.0, drop-append_seam octets bytes) (ap (λ n. take n bytes) (omega arith) ∙ take-length bytes) in
    map-append (slot_departure (octets ++ bytes)) slots (s ∷ []) ∙ rw (departures-append octets bytes slots h.within, behind) refl
