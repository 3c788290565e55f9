-- What a second is in the unit of moments.
use Rattle.std.specs.Prelude.{ℕ}

-- a second, in nanoseconds
abbrev pub second : ℕ
second = 1000000000
