-- The world of a script: its nodes, what they sent, and what each command makes of it. The causes are the project's own
-- choice.
use Rattle.std.specs.Prelude.{ℕ, ◌+◌, ◌-◌, Bool, true, false, ◌==◌, nat_le, is_some, if◌then◌else◌, List, [], ◌∷◌, ◌++◌, length, map, slice_get, Option, Some, None, Result, Ok, Err}
use Rattle.ptu_outside.specs.Departure.{Departure}
use Rattle.ptu_record.specs.declared.rule.Rule.{Rule}
use Rattle.ptu_record.specs.declared.rule.Rule.TheVariants as rules
use Rattle.ptu_record.specs.Step as slave_events
use Rattle.ptu_profile.specs.Slave.{place_of}
use Rattle.ptu_script.specs.declared.cause.Cause.{Cause}
use Rattle.ptu_script.specs.declared.cause.Cause.TheVariants as causes
use Rattle.ptu_script.specs.declared.command.GrandmasterSetup.{GrandmasterSetup}
use Rattle.ptu_script.specs.declared.command.{SlaveSetup.{SlaveSetup}, Command.{Command}}
use Rattle.ptu_script.specs.declared.act.Act.{Act}
use Rattle.ptu_script.specs.declared.act.Act.TheVariants as acts
use Rattle.ptu_script.specs.declared.command.Command.TheVariants as commands
use Rattle.ptu_script.specs.Fields.{◌>>=◌}
use Rattle.ptu_report_lines.specs.declared.{sent.Sent.{Sent}, statement.Statement.{Statement}}
use Rattle.ptu_report_lines.specs.declared.statement.Statement.TheVariants as statements
use Rattle.ptu_world.specs.Deeds.{Grandmaster, Slave, Node, IsGrandmaster, IsSlave, Deed}
use Rattle.ptu_world.specs.Grandmasters as gm
use Rattle.ptu_world.specs.Slaves as slaves

-- how many judges of each rule are left
pub record Stock : Type 0 where
  pub flags : ℕ
  pub gaps : ℕ

-- a stock without judges
abbrev pub no_judges : Stock
no_judges = record { flags = 0; gaps = 0 }

-- nodes with their addresses, of which those that were placed last stand first
abbrev pub Nodes : Type 0
Nodes = List (ℕ × Node)

-- the nodes, the datagrams that were sent, in order, the judges that are left, and whether there was an event
pub record World : Type 0 where
  pub nodes : Nodes
  pub sent : List Sent
  pub stock : Stock
  pub has_begun : Bool

-- the world before the first line
abbrev pub opening : Stock → World
opening stock = record { nodes = []; sent = []; stock = stock; has_begun = false }

-- what a command makes of the world, and what is said of it
pub record Done : Type 0 where
  pub world : World
  pub said : List Statement

-- ---- nodes, judges and datagrams

-- the node at an address: the one that was placed there last
abbrev pub node_at : Nodes → ℕ → Option Node
node_at [] a = None
node_at ((ip, node) ∷ rest) a = if a == ip then Some node else node_at rest a

-- the nodes with this one at the address
abbrev pub placed : ℕ → Node → Nodes → Nodes
placed ip node nodes = (ip, node) ∷ nodes

abbrev pub judges_of : Rule → Stock → ℕ
judges_of rules.Flag stock = stock.flags
judges_of (rules.Gap n) stock = stock.gaps

-- the stock without one judge of the rule
abbrev pub without_one : Rule → Stock → Stock
without_one rules.Flag stock = record stock { flags = stock.flags - 1 }
without_one (rules.Gap n) stock = record stock { gaps = stock.gaps - 1 }

-- the datagram with this number, from 1
abbrev pub datagram_numbered : ℕ → List Sent → Option Sent
datagram_numbered number sent = if number == 0 then None else slice_get sent (number - 1)

-- what the node at the address sent
abbrev pub sent_from : ℕ → Departure → Sent
sent_from ip departure = record { from = ip; to = departure.ip; channel = departure.channel; octets = departure.bytes }

-- of datagrams, before which so many were sent
abbrev pub sending_said : ℕ → List Sent → List Statement
sending_said before [] = []
sending_said before (sent ∷ rest) = statements.Sent (before + 1) sent ∷ sending_said (before + 1) rest

-- ---- what is found, or the cause of a refusal

abbrev pub grandmaster_by : Option Node → Result Grandmaster Cause
grandmaster_by (Some (IsGrandmaster found)) = Ok found
grandmaster_by _ = Err causes.Node

abbrev pub slave_by : Option Node → Result Slave Cause
slave_by (Some (IsSlave found)) = Ok found
slave_by _ = Err causes.Node

abbrev pub slave_at : World → ℕ → Result Slave Cause
slave_at w ip = slave_by (node_at w.nodes ip)

abbrev pub or_cause : {A : Type 0} → Cause → Option A → Result A Cause
or_cause cause None = Err cause
or_cause cause (Some x) = Ok x

-- the place of a master in the slave's list
abbrev pub place_in : Slave → ℕ → Result ℕ Cause
place_in s ip = or_cause causes.Node (place_of (s.opened.masters) ip)

-- the stock without a judge of the rule
abbrev pub stock_without : Rule → Stock → Result Stock Cause
stock_without rule stock = if judges_of rule stock == 0 then Err causes.Stock else Ok (without_one rule stock)

-- ---- setting up

-- a grandmaster's timescale begins at 0
abbrev pub new_grandmaster : GrandmasterSetup → Node
new_grandmaster setup = IsGrandmaster (record {
  ip = setup.ip;
  config = record {
    identity = record { clock = setup.clock; port = setup.port };
    domain = setup.domain;
    class = setup.class;
    max_duration = setup.max_duration;
    epoch = 0;
  };
  capacity = setup.capacity;
  past = [];
})

-- a slave has no masters yet
abbrev pub new_slave : SlaveSetup → Node
new_slave setup = IsSlave (record {
  ip = setup.ip;
  opened = record {
    config = record {
      identity = record { clock = setup.clock; port = setup.port };
      domain = setup.domain;
      wants = setup.wants;
      announce_timeout = setup.announce_timeout;
      sync_timeout = setup.sync_timeout;
      delay_timeout = setup.delay_timeout;
      wait = setup.wait;
    };
    masters = [];
    openings = [];
  };
  taken = [];
})

-- the slave with one master more, whose judge has this rule
abbrev pub with_master : ℕ → ℕ → Rule → Slave → Slave
with_master ip priority rule s = record s {
  opened = record (s.opened) {
    masters = s.opened.masters ++ record { ip = ip; priority = priority } ∷ [];
    openings = s.opened.openings ++ Some rule ∷ [];
  };
}

-- a new node at an address that no other has
abbrev pub set_up : World → ℕ → Node → Result World Cause
set_up w ip node =
    if w.has_begun then Err causes.Order
    else if is_some (node_at w.nodes ip) then Err causes.Node
    else Ok (record w { nodes = placed ip node w.nodes })

-- another master of a slave, of which it has at most 16
abbrev pub add_master : World → Slave → ℕ → ℕ → Rule → Result World Cause
add_master w s ip priority rule =
    if is_some (place_of (s.opened.masters) ip) then Err causes.Node
    else if nat_le 16 (length (s.opened.masters)) then Err causes.Full
    else do
      stock ← stock_without rule w.stock
      Ok (record w { nodes = placed s.ip (IsSlave (with_master ip priority rule s)) w.nodes; stock = stock })

-- ---- events

-- what is said of what the node at the address does, where these were sent before: of the event, of each datagram, and behind
-- them
abbrev pub said_by : List Sent → ℕ → Deed → List Statement
said_by sent ip deed = deed.said ++ sending_said (length sent) (map (sent_from ip) deed.sends) ++ deed.added

-- the world after what the node at the address does, and what is said of it
abbrev pub done_by : World → ℕ → Deed → Done
done_by w ip deed =
    record {
      world = record w { nodes = placed ip deed.node w.nodes; sent = w.sent ++ map (sent_from ip) deed.sends; has_begun = true };
      said = said_by w.sent ip deed;
    }

abbrev pub datagram_deed : Node → ℕ → ℕ → List ℕ → Deed
datagram_deed (IsGrandmaster found) t from octets = gm.datagram_deed found t from octets
datagram_deed (IsSlave found) t from octets = slaves.datagram_deed found t from octets

-- a datagram that was sent is handed to the node of its address, if one is there
abbrev pub delivered_to : World → ℕ → Sent → Option Node → Done
delivered_to w t sent None = record { world = record w { has_begun = true }; said = statements.Nobody ∷ [] }
delivered_to w t sent (Some node) = done_by w sent.to (datagram_deed node t sent.from sent.octets)

-- what a node does that is told something of grandmasters, something of slaves, or something of a master of a slave; or why not
abbrev pub of_grandmaster : (Grandmaster → Deed) → Node → Result Deed Cause
of_grandmaster deed node = do
  found ← grandmaster_by (Some node)
  Ok (deed found)

abbrev pub of_slave : (Slave → Deed) → Node → Result Deed Cause
of_slave deed node = do
  found ← slave_by (Some node)
  Ok (deed found)

abbrev pub of_master : ℕ → (Slave → ℕ → Deed) → Node → Result Deed Cause
of_master master deed node = do
  found ← slave_by (Some node)
  place ← place_in found master
  Ok (deed found place)

-- what a node does that is told this at a moment; or why not
abbrev pub act_deed : ℕ → Act → Node → Result Deed Cause
act_deed t (acts.Receive from octets) node = Ok (datagram_deed node t from octets)
act_deed t (acts.Turn table) node = of_grandmaster (λ found. gm.turn_deed found t table) node
act_deed t (acts.Class class) node = of_grandmaster (λ found. gm.class_deed found class) node
act_deed t (acts.Capacity capacity) node = of_grandmaster (λ found. gm.capacity_deed found t capacity) node
act_deed t acts.Tick node = of_slave (λ s. slaves.plain_deed s t slave_events.Tick) node
act_deed t (acts.Flag master unusable) node = of_master master (λ s m. slaves.plain_deed s t (slave_events.TellFlag m unusable)) node
act_deed t (acts.Judge master rule) node = of_master master (λ s m. slaves.plain_deed s t (slave_events.ReplaceJudge m (Some rule))) node
act_deed t acts.Stop node = of_slave (λ s. slaves.plain_deed s t slave_events.Stop) node

-- the judges that this leaves, or that there is none for it
abbrev pub stock_after : Act → Stock → Result Stock Cause
stock_after (acts.Judge master rule) stock = stock_without rule stock
stock_after _ stock = Ok stock

-- ---- commands

abbrev pub quietly : Result World Cause → Result Done Cause
quietly made = do
  world ← made
  Ok (record { world = world; said = [] })

-- what a command makes of the world, or the first cause that it is refused for
unfoldable pub step : World → Command → Result Done Cause
step w (commands.Grandmaster setup) = quietly (set_up w setup.ip (new_grandmaster setup))
step w (commands.Slave setup) = quietly (set_up w setup.ip (new_slave setup))
step w (commands.Master slave ip priority rule) =
    if w.has_begun then Err causes.Order
    else do
      s ← slave_at w slave
      quietly (add_master w s ip priority rule)
step w (commands.Deliver t number) = do
  sent ← or_cause causes.Number (datagram_numbered number w.sent)
  Ok (delivered_to w t sent (node_at w.nodes sent.to))
step w (commands.Event t ip act) = do
  node ← or_cause causes.Node (node_at w.nodes ip)
  deed ← act_deed t act node
  stock ← stock_after act w.stock
  Ok (done_by (record w { stock = stock }) ip deed)
