-- Which slave of a world a slave with a port in memory stands for.
use Rattle.std.specs.{Prelude.{◌≡◌, ℕ, Bool, false, List, [], IsSome}, List.{AllByRecursion}}
use Rattle.ptu_outside.specs.MemoryPort.{IsSure, MemoryPort}
use Rattle.ptu_judges.specs.Held.{Held, IsFresh}
use Rattle.ptu_profile.specs.Slave.{AreMasters}
use Rattle.ptu_slave.specs.{Kept.{Kept}, Seen.{Seen}}
use Rattle.ptu_slave.specs.Standing as slave
use Rattle.ptu_nodes.specs.Standing.{IsIdle}
use Rattle.ptu_world.specs.Deeds as world

-- a slave at this address, of which this is kept, whose judges hold this and whose messages go by
-- this port, stands for the slave of a world, with its record; before the first event of the script
-- nothing was told to its judges, and no send of the port is to fail
pub record IsSlaveNode (ip : ℕ) (kept : Kept) (judges : List Held) (port : MemoryPort)
    (begun : Bool) (s : world.Slave) : Type 0 where
  pub address : s.ip ≡ ip
  pub config : s.opened.config ≡ kept.config
  pub masters : s.opened.masters ≡ kept.masters
  pub distinct : AreMasters kept.masters
  pub stands : slave.StandsFor s.opened.openings kept judges s.taken
  pub ruled : AllByRecursion (λ held. IsSome held.rule) judges
  pub fresh : begun ≡ false → (s.taken ≡ []) × AllByRecursion IsFresh judges
  pub idle : IsIdle port
  pub sure : IsSure port []

-- it stands for the node of a world
abbrev pub StandsAsSlave : ℕ → Kept → List Held → MemoryPort → Bool → world.Node → Type 0
StandsAsSlave ip kept judges port begun (world.IsGrandmaster g) = ⊥
StandsAsSlave ip kept judges port begun (world.IsSlave s) = IsSlaveNode ip kept judges port begun s

-- the same of what is seen of a slave
abbrev pub IsNode : {B : Type 0} → ℕ → Seen MemoryPort B → Bool → world.Slave → Type 0
IsNode ip seen begun s = IsSlaveNode ip seen.kept seen.judges seen.port begun s

abbrev pub StandsAsNode : {B : Type 0} → ℕ → Seen MemoryPort B → Bool → world.Node → Type 0
StandsAsNode ip seen begun node = StandsAsSlave ip seen.kept seen.judges seen.port begun node
