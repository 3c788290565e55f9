-- What a seat has counted.
use Rattle.std.specs.{Prelude.{◌≡◌, ℕ, ◌+◌, List}, List.{sum_by}}
use Rattle.ptu_admit.specs.declared.verdict.Verdict.{Verdict}
use Rattle.ptu_admit.specs.declared.verdict.Verdict.TheVariants.{Granted, Short, Outside}

-- how many asks were granted, and how many within the profile did not fit
pub record SeatCounts : Type 0 where
  pub granted : ℕ
  pub refused : ℕ

-- nothing was asked
abbrev pub no_verdicts : SeatCounts
no_verdicts = record { granted = 0; refused = 0 }

-- the counts with one verdict more; an ask outside the profile is not counted
abbrev pub counting : Verdict → SeatCounts → SeatCounts
counting (Granted grant) counts = record counts { granted = counts.granted + 1 }
counting (Short shortage) counts = record counts { refused = counts.refused + 1 }
counting (Outside cause) counts = counts

-- the sums over several seats
abbrev pub granted_in : List SeatCounts → ℕ
granted_in seats = sum_by (λ seat. seat.granted) seats

abbrev pub refused_in : List SeatCounts → ℕ
refused_in seats = sum_by (λ seat. seat.refused) seats

-- the second counts are those of the seats, and differ from the first
pub record AreUnsettled (book sums : SeatCounts) (seats : List SeatCounts) : Type 0 where
  pub granted : sums.granted ≡ granted_in seats
  pub refused : sums.refused ≡ refused_in seats
  pub differ : (sums.granted ≡ book.granted) × (sums.refused ≡ book.refused) → ⊥
