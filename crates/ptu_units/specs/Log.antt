-- Logarithms of mean message intervals, and the rate and period of each.
use Rattle.std.specs.Prelude.{ℕ, ◌+◌, ◌-◌, ◌*◌, ◌/◌, ◌^◌, ℤ, pos, negsuc, ◌+ℤ◌, ◌≤ℤ◌, unsigned_abs}
use Rattle.ptu_units.specs.declared.kind.{Kind.{Kind}, Kind.TheVariants.{Announce, Sync, DelayResp}}
use Rattle.ptu_units.specs.Time.{second}

-- the least logarithm of a kind
abbrev pub least_log : Kind → ℤ
least_log Announce = negsuc 2
least_log Sync = negsuc 6
least_log DelayResp = negsuc 6

-- the logarithm is in the range of some kind
pub record IsLog (log : ℤ) : Type 0 where
  pub least : negsuc 6 ≤ℤ log
  pub greatest : log ≤ℤ pos 4

-- the logarithm is in the range of the kind
abbrev pub IsLogOf : Kind → ℤ → Type 0
IsLogOf kind log = (least_log kind ≤ℤ log) × (log ≤ℤ pos 4)

-- 2 ^ (4 - log), in sixteenths of a message per second
abbrev pub rate_of : ℤ → ℕ
rate_of (pos n) = 2 ^ (4 - n)
rate_of (negsuc n) = 2 ^ (5 + n)

-- 2 ^ log seconds, in nanoseconds
abbrev pub period_of : ℤ → ℕ
period_of (pos n) = 2 ^ n * second
period_of (negsuc n) = second / 2 ^ (1 + n)

-- how far the logarithm is above -7
abbrev pub place_of : ℤ → ℕ
place_of log = unsigned_abs (log +ℤ pos 7)
