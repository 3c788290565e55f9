-- What becomes the ledgers of shared tables.
use Rattle.std.specs.{Prelude.{◌≡◌, ℕ}, declared.sync.ledger.Blank.{Blank}}

-- the blank becomes the ledger of this name and with these parts, of which there are so many
pub record IsBlankOf (own_name own_parts many : ℕ) (blank : Blank) : Type 0 where
  pub name : blank.name ≡ own_name
  pub parts : blank.parts ≡ own_parts
  pub count : own_parts ≡ many
