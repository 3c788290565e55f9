-- Which grandmaster of a world a grandmaster with ports in memory stands for.
use Rattle.std.specs.Prelude.{◌≡◌, []}
use Rattle.ptu_outside.specs.MemoryPort.{MemoryPort}
use Rattle.ptu_messages.specs.declared.header.PortIdentity.{PortIdentity}
use Rattle.ptu_profile.specs.declared.grandmaster.GmConfig.{GmConfig}
use Rattle.ptu_script.specs.declared.command.GrandmasterSetup.{GrandmasterSetup}
use Rattle.ptu_grandmaster.specs.Gm.{KeptGm}
use Rattle.ptu_grandmaster.specs.Gm as gm
use Rattle.ptu_world.specs.Deeds as world
use Rattle.ptu_nodes.specs.declared.grandmaster_node.GrandmasterNode.{GrandmasterNode}

-- the settings of a grandmaster that a line sets up; its timescale begins at 0
abbrev pub setup_config : GrandmasterSetup → GmConfig
setup_config setup =
    let identity : PortIdentity = record { clock = setup.clock; port = setup.port } in
    record { identity = identity; domain = setup.domain; class = setup.class; max_duration = setup.max_duration; epoch = 0 }

-- nothing that was sent stands in a port
abbrev pub IsIdle : MemoryPort → Type 0
IsIdle port = port.sent ≡ []

-- nor in any port of a grandmaster
abbrev pub AreIdle : KeptGm MemoryPort → Type 0
AreIdle gm =
    IsIdle gm.s0.port × IsIdle gm.s1.port × IsIdle gm.s2.port × IsIdle gm.s3.port × IsIdle gm.reply

-- no send of a port is to fail
abbrev pub IsUnfailing : MemoryPort → Type 0
IsUnfailing port = port.failing_sends ≡ []

-- nor any of a grandmaster's ports: they send all that they have room for
abbrev pub AreSure : KeptGm MemoryPort → Type 0
AreSure gm =
    IsUnfailing gm.s0.port × IsUnfailing gm.s1.port × IsUnfailing gm.s2.port × IsUnfailing gm.s3.port
    × IsUnfailing gm.reply

-- it stands for the grandmaster of a world, with its history
pub record IsGrandmasterNode (node : GrandmasterNode) (g : world.Grandmaster) : Type 0 where
  pub ip : g.ip ≡ node.ip
  pub config : g.config ≡ node.gm.config
  pub stands : gm.StandsFor g.capacity node.gm g.past
  pub idle : AreIdle node.gm
  pub sure : AreSure node.gm

-- it stands for the node of a world
abbrev pub StandsAsGrandmaster : GrandmasterNode → world.Node → Type 0
StandsAsGrandmaster node (world.IsGrandmaster g) = IsGrandmasterNode node g
StandsAsGrandmaster node (world.IsSlave s) = ⊥
