-- What a source and a sink in memory hold.
use Rattle.std.specs.Prelude.{ℕ, List}

-- a source: the octets that are left, the calls that are to fail, and how many calls and faults there have been
pub record MemoryInput : Type 0 where
  pub left : List ℕ
  pub fails : List ℕ
  pub calls : ℕ
  pub faults : ℕ

-- a sink: the octets that were written, for how many in all there is room, and the same of calls and faults
pub record MemoryOutput : Type 0 where
  pub bytes : List ℕ
  pub room : ℕ
  pub fails : List ℕ
  pub calls : ℕ
  pub faults : ℕ
