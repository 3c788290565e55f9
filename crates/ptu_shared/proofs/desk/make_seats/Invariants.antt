use Rattle.std.proofs.Common.{◌≡◌, ◌+◌, ◌*◌, ◌^◌, replicate}
use Rattle.ptu_shared.specs.Seats.{no_verdicts}
use Rattle.ptu_shared.proofs.desk.make_seats.Given as goal

abbrev pub invariant-loop : goal.invariant-loop
invariant-loop g l =
    (l.grants.parts + l.counter ≡ l.count) × (l.refusals.parts + l.counter ≡ l.count)
    × (l.grants.amount + l.counter * 2 ^ 56 ≡ l.count * 2 ^ 56) × (l.refusals.amount + l.counter * 2 ^ 56 ≡ l.count * 2 ^ 56)
    × (l.seats.items ≡ replicate l.counter no_verdicts)
