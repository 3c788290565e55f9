-- What a grant and a shortage say.
use Rattle.std.specs.Prelude.{ℕ, ℤ}
use Rattle.ptu_units.specs.declared.{client.Client.{Client}, kind.Kind.{Kind}}

-- what was granted: to a client a kind at a logarithm, at a moment, for so many seconds, until the end of the granted duration
pub record Terms : Type 0 where
  pub client : Client
  pub kind : Kind
  pub log : ℤ
  pub at : ℕ
  pub seconds : ℕ
  pub until : ℕ

-- what did not fit: a kind at a logarithm, at a moment; the rates of the other live grants, its own rate, and the
-- capacity in force
pub record Lack : Type 0 where
  pub kind : Kind
  pub log : ℤ
  pub at : ℕ
  pub others : ℕ
  pub rate : ℕ
  pub capacity : ℕ
