-- A port in memory that is sure to send some datagrams: it sends the first, and is sure to send the others.
use Rattle.std.proofs.Common.{◌≡◌, ◌∙◌, ℕ, ◌+◌, ◌*◌, ◌≤◌, List, [], ◌∷◌, ◌++◌, length, arith, length-append, sym, subst}
use Rattle.std.specs.List.{AllByRecursion, Contains}
use Rattle.std.proofs.lemmas.List.Sums.{sum_by-cons, sum_by-append}
use Rattle.ptu_outside.specs.{Departure.{Departure}, MemoryPort.{IsSure, MemoryPort, departure_octets}}

size : Departure → ℕ
size d = length d.bytes

octets-first : (d : Departure) (others : List Departure) → departure_octets (d ∷ others) ≡ length d.bytes + departure_octets others
octets-first d others = sum_by-cons (λ (d : Departure). length d.bytes) d others

octets-push : (sent : List Departure) (d : Departure) → departure_octets (sent ++ d ∷ []) ≡ departure_octets sent + length d.bytes
octets-push sent d = rw (sum_by-append (λ (d : Departure). length d.bytes) sent (d ∷ []), octets-first d []) (omega arith)

nothing_there : (n : ℕ) → ¬ Contains [] n
nothing_there n here = absurd (omega (arith, here.1))

pub unlisted : (port : MemoryPort) (more : List Departure) (n : ℕ) → IsSure port more → ¬ Contains port.failing_sends n
unlisted port more n sure = subst (λ l. ¬ Contains l n) (sym sure.unlisted) (λ here. nothing_there n here)

pub first_fits : (port : MemoryPort) (d : Departure) (others : List Departure) → IsSure port (d ∷ others) →
    (length port.sent + 1 ≤ port.datagrams) × (departure_octets port.sent + length d.bytes ≤ port.octets)
first_fits port d others sure = (omega (arith, sure.datagrams), omega (arith, sure.octets, octets-first d others))

pub others_fit : (old new : MemoryPort) (d : Departure) (others : List Departure) → IsSure old (d ∷ others) →
    new.sent ≡ old.sent ++ d ∷ [] → new.failing_sends ≡ old.failing_sends → old.datagrams ≤ new.datagrams → old.octets ≤ new.octets → IsSure new others
others_fit old new d others sure sent listed more wider = record {
  unlisted = listed ∙ sure.unlisted;
  datagrams = rw (sent, length-append old.sent (d ∷ [])) (omega (arith, sure.datagrams, more));
  octets = rw (sent, octets-push old.sent d) (omega (arith, sure.octets, octets-first d others, wider));
}

-- of at most so many octets each
pub octets_within : (most : ℕ) (more : List Departure) → AllByRecursion (λ d. length d.bytes ≤ most) more → departure_octets more ≤ length more * most
octets_within most [] all = omega arith
octets_within most (d ∷ more) all =
    let rest = octets_within most more all.1 in
    let one : length (d ∷ more) * most ≡ most + length more * most = omega arith in
    rw (one, octets-first d more) (omega (arith, all.0, rest))

-- a port of which no send is to fail, with room for so many datagrams and octets, is sure to send these
pub sure_within : (port : MemoryPort) (more : List Departure) (datagrams octets : ℕ) → port.failing_sends ≡ [] →
    length port.sent + datagrams ≤ port.datagrams → departure_octets port.sent + octets ≤ port.octets →
    length more ≤ datagrams → departure_octets more ≤ octets → IsSure port more
sure_within port more datagrams octets none room wider few short = record {
  unlisted = none;
  datagrams = omega (arith, room, few);
  octets = omega (arith, wider, short);
}
