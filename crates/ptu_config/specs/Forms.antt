-- The forms that a value of a document may have. Each gives what the value says, or nothing where
-- it is of another type or out of range.
use Rattle.std.specs.Prelude.{ℕ, Bool, true, ◌&&◌, List, Option, Some, None, option_and_then, ℤ, pos, negsuc}
use Rattle.ptu_lines.specs.Words.{within, int_within, ip_of, clock_of}
use Rattle.toml.specs.Data.{Data, Members, no_members, member, as_str, as_integer}

-- a text that is an IPv4 address in dotted decimal
abbrev pub address_in : Data → Option ℕ
address_in value = option_and_then ip_of (as_str value)

-- a text that is a clock identity in 16 hexadecimal digits
abbrev pub identity_in : Data → Option ℕ
identity_in value = option_and_then clock_of (as_str value)

-- a number that is not negative, where it is in the range
abbrev pub natural_within : ℕ → ℕ → ℤ → Option ℕ
natural_within least greatest (pos n) = within least greatest n
natural_within least greatest (negsuc n) = None

-- a whole number from the one to the other
abbrev pub whole_in : ℕ → ℕ → Data → Option ℕ
whole_in least greatest value = option_and_then (natural_within least greatest) (as_integer value)

-- a whole number with its sign, from the one to the other
abbrev pub signed_in : ℤ → ℤ → Data → Option ℤ
signed_in least greatest value = option_and_then (int_within least greatest) (as_integer value)

-- a value that was found, by its form, or what stands for it where its key is not there
abbrev pub given : {A : Type 0} → (Data → Option A) → Option A → Option Data → Option A
given form otherwise None = otherwise
given form otherwise (Some value) = form value

-- each key of the table passes the test
abbrev pub has_only : (List ℕ → Bool) → Members → Bool
has_only test no_members = true
has_only test (member name value rest) = test name && has_only test rest
