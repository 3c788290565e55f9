-- Reads that find the end of input, or come behind it.
use Rattle.std.specs.Prelude.{◌≡◌, ◌≤◌, ℕ, suc, zero, Bool, if◌then◌else◌, Option, Some, None, IfSome}

-- their number, after one more read, which finds the end or does not: behind the end each read counts
abbrev pub ends_after : Bool → ℕ → ℕ
ends_after is_end zero = if is_end then 1 else 0
ends_after is_end (suc n) = suc (suc n)

-- the number that is told, where it is still told; where it was not told, it is not told
abbrev pub CountsEnd : Bool → Option ℕ → Option ℕ → Type 0
CountsEnd is_end old None = Unit {0}
CountsEnd is_end None (Some new) = ⊥
CountsEnd is_end (Some old) (Some new) = new ≡ ends_after is_end old

-- a source that was not read to its end is read to it at most once, and never behind it
abbrev pub StopsAtEnd : Option ℕ → Option ℕ → Type 0
StopsAtEnd old new = old ≡ Some 0 → IfSome new (λ n. n ≤ 1)
