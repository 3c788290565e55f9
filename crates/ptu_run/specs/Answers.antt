-- What each status of a run is answered for, whatever its words ask for.
use Rattle.std.specs.Prelude.{◌≡◌, ◌≢◌, ◌⊎◌, ℕ, Contains}
use Rattle.ptu_outside.specs.Faults.{HasRisen}
use Rattle.ptu_run.specs.Run.{statuses}

-- words are answered with 64 only where the command line does not match them; where it does not, with that, or no memory was
-- found, and then nothing was touched
pub record AreWordsAnswered (IsRefused : Type 0) (status : ℕ) (IsUntouched : Type 0) : Type 0 where
  pub usage : status ≡ 64 → IsRefused
  pub refused : IsRefused → (status ≡ 64) ⊎ (status ≡ 71)
  pub untouched : IsRefused → IsUntouched

-- the status is answered where a count of faults has risen, and for nothing else; with any other the count stands still
pub record IsFaultAnswered (fault status old new : ℕ) : Type 0 where
  pub risen : status ≡ fault → HasRisen old new
  pub still : status ≢ fault → new ≡ old

-- 66 is answered for a fault of the source, 67 for one of the sink, 69 for one of the host, by their counts of faults
pub record AreFaultsAnswered (status reads reads' writes writes' opens opens' : ℕ) : Type 0 where
  pub source : IsFaultAnswered 66 status reads reads'
  pub sink : IsFaultAnswered 67 status writes writes'
  pub host : IsFaultAnswered 69 status opens opens'

-- a command ended with one of the statuses, but not with that of faulty words, and a fault is answered so
pub record HasEnded (status reads reads' writes writes' opens opens' : ℕ) : Type 0 where
  pub statuses : Contains statuses status
  pub other : status ≢ 64
  pub faults : AreFaultsAnswered status reads reads' writes writes' opens opens'
