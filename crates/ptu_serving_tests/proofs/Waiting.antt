-- Datagrams that wait, one after the other.
use Rattle.std.proofs.Common.{◌≤◌, ◌++◌, List, [], ◌∷◌, length}
use Rattle.ptu_outside.specs.{declared.arrival.Arrival.{Arrival}, MemoryPort.{FitAll}}

pub fit_more : (xs : List Arrival) (a : Arrival) → FitAll xs → length a.bytes ≤ 2048 → FitAll (xs ++ a ∷ [])
fit_more [] a fit one = (one, tt)
fit_more (x ∷ xs) a (first, fit) one = (first, fit_more xs a fit one)
