-- Which halves the halves that wait stand for.
use Rattle.std.specs.{Prelude.{◌≡◌, ◌<◌, ◌^◌, true, List, IfSome}, HashMap.{HashMap, get}}
use Rattle.ptu_messages.specs.declared.header.Header.{Header}
use Rattle.ptu_show.specs.declared.half.{Part.{Part}, Part.TheVariants.{Sync, FollowUp}}
use Rattle.ptu_show.specs.declared.half.{Half.{Half}, HalfKey.{HalfKey}}
use Rattle.ptu_show.specs.{Halves.{has_two_steps, same_key}, Joins.{waiting}}

-- the header of this part, as it was read
abbrev pub IsHeaderOf : Part → Header → Type 0
IsHeaderOf Sync header = (header.message_type ≡ 0) × (has_two_steps header ≡ true)
IsHeaderOf FollowUp header = header.message_type ≡ 8

-- the half was read
pub record IsHalf (half : Half) : Type 0 where
  pub header : IsHeaderOf half.part half.header
  pub seconds : half.stamp.seconds < 2 ^ 48

-- of each key that half is kept which waits
pub record StandsFor {S : Type 0} (kept : HashMap HalfKey Half S) (halves : List Half) : Type 0
  where
    pub found : (key : HalfKey) → get same_key kept key ≡ waiting halves key
    pub read : (key : HalfKey) → IfSome (get same_key kept key) IsHalf
